-- `fetch`: clauses told, leads and asked; what `site_of-site`, `volume_of-place` and `unreachable` ask.
use Rattle.std.proofs.Common.{◌≡◌, arith, refl}
use Rattle.std.specs.Prelude.{Some}
use Rattle.vx_events.specs.Facts.{seat_of}
use Rattle.vx_yard.proofs.ChangeSite.{told_before}
use Rattle.vx_yard.proofs.Lists.{get_at}
use Rattle.vx_site_lines.proofs.ReadLine.{may_read}
use Rattle.vx_yard.proofs.Seats.{named_some, volume_there}
use Rattle.vx_site_lines.proofs.ShownLine.{fetched_leads}
use Rattle.vx_site_lines.proofs.read.fetch.Goals.{then-count-eq0-via-then-count-eq0, then-count-eq0-via-else-count-eq0+then-count-gt-MOST_CALL_BLOCKS}
use Rattle.vx_diskset.specs.Asked.{LeavesAlone}
use Rattle.vx_diskset.specs.Holds.{beside_of}
use Rattle.vx_site_lines.proofs.FetchLine.{fetch_stops, fetching}
use Rattle.vx_site_lines.proofs.ReadAbove.{data_at, fetch_stops_above, fetched_above, reading_at}
use Rattle.vx_yard.proofs.NamedSite.{asks_at, place_at}
use Rattle.vx_yard.proofs.RawSites.{raw_named}
use Rattle.vx_site_lines.proofs.read.fetch.Goals as goal

pub site_of-site-requires-clause-named : goal.site_of-site-requires-clause-named
site_of-site-requires-clause-named g c = λ κs within. named_some c.args.yard.now c.args.name.now (may_read c.args.yard.now c.args.name.now c.args.volume.now c.args.start c.args.count c.requires.free).site

pub volume_of-place-requires-clause-named : goal.volume_of-place-requires-clause-named
volume_of-place-requires-clause-named g c = λ κs within f at.
    volume_there c.args.yard.now c.args.name.now c.args.volume.now c.args.start c.args.count c.site_of-site.result f (may_read c.args.yard.now c.args.name.now c.args.volume.now c.args.start c.args.count c.requires.free) c.site_of-site.ensures.seat at

pub unreachable-requires : goal.unreachable-requires
unreachable-requires g c =
    let may = may_read c.args.yard.now c.args.name.now c.args.volume.now c.args.start c.args.count c.requires.free in
    elim c.then-count-eq0.branch [
      | then-count-eq0-via-then-count-eq0 w ↦ absurd (omega (arith, w.if-count-eq0.true, may.some))
      | then-count-eq0-via-else-count-eq0+then-count-gt-MOST_CALL_BLOCKS w ↦ absurd (omega (arith, w.if-count-gt-MOST_CALL_BLOCKS.true, may.few))
    ]

pub returns-in-Ok-clause-told : goal.returns-in-Ok-clause-told
returns-in-Ok-clause-told g c = told_before c.args.yard.now.disk_sets.items c.site_of-site.result c.index_mut.result.now c.blocks_of.new.disk_set
    (get_at c.args.yard.now.disk_sets.items c.site_of-site.result c.index_mut.result.now c.site_of-site.ensures.disk_set c.index_mut.ensures.value) c.in-Ok.ensures.later

pub returns-in-Err-clause-told : goal.returns-in-Err-clause-told
returns-in-Err-clause-told g c = told_before c.args.yard.now.disk_sets.items c.site_of-site.result c.index_mut.result.now c.blocks_of.new.disk_set
    (get_at c.args.yard.now.disk_sets.items c.site_of-site.result c.index_mut.result.now c.site_of-site.ensures.disk_set c.index_mut.ensures.value) c.in-Err.ensures.later

pub returns-in-Ok-clause-leads : goal.returns-in-Ok-clause-leads
returns-in-Ok-clause-leads g c = λ d line stands apart is free origin.
    let y = c.args.yard.now in
    let seat : seat_of y.facts.items c.args.name.now ≡ Some c.site_of-site.result = c.site_of-site.ensures.seat in
    let disk_set = get_at y.disk_sets.items c.site_of-site.result c.index_mut.result.now c.site_of-site.ensures.disk_set c.index_mut.ensures.value in
    let may = may_read y c.args.name.now c.args.volume.now c.args.start c.args.count c.requires.free in
    let read = fetching d y c.args.name.now c.args.volume.now c.args.start c.args.count c.site_of-site.result c.volume_of-place.result c.index_mut.result.now stands apart may seat disk_set c.volume_of-place.ensures.place in
    let there = stands.disk_sets.sites c.site_of-site.result c.index_mut.result.now read.seat.below disk_set in
    fetched_leads d y _ c.args.name.now c.args.volume.now c.args.start c.args.count c.site_of-site.result c.volume_of-place.result c.index_mut.result.now c.blocks_of.new.disk_set stands read
    (record { there = disk_set; later = c.in-Ok.ensures.later; disk_sets = refl; racks = refl }) (c.in-Ok.ensures.still (raw_named d c.args.name.now c.site_of-site.result c.index_mut.result.now read.seat.number apart there))
    c.in-Ok.ensures.role refl (record { flight = refl; assemblies = refl; feeders = refl })
    line c.in-Ok.blocks is free seat (origin c.site_of-site.result seat)
    (c.in-Ok.ensures.read (beside_of d c.site_of-site.result) (d.world.nodes c.site_of-site.result) there read.can)

pub returns-in-Err-clause-leads : goal.returns-in-Err-clause-leads
returns-in-Err-clause-leads g c = λ d line stands apart is free origin.
    let y = c.args.yard.now in
    let seat : seat_of y.facts.items c.args.name.now ≡ Some c.site_of-site.result = c.site_of-site.ensures.seat in
    let disk_set = get_at y.disk_sets.items c.site_of-site.result c.index_mut.result.now c.site_of-site.ensures.disk_set c.index_mut.ensures.value in
    let may = may_read y c.args.name.now c.args.volume.now c.args.start c.args.count c.requires.free in
    let read = fetching d y c.args.name.now c.args.volume.now c.args.start c.args.count c.site_of-site.result c.volume_of-place.result c.index_mut.result.now stands apart may seat disk_set c.volume_of-place.ensures.place in
    let there = stands.disk_sets.sites c.site_of-site.result c.index_mut.result.now read.seat.below disk_set in
    fetch_stops d line y _ c.args.name.now c.args.volume.now c.args.start c.args.count c.site_of-site.result c.volume_of-place.result c.in-Err.no c.index_mut.result.now c.blocks_of.new.disk_set is stands read
    (record { there = disk_set; later = c.in-Err.ensures.later; disk_sets = refl; racks = refl }) (c.in-Err.ensures.still (raw_named d c.args.name.now c.site_of-site.result c.index_mut.result.now read.seat.number apart there))
    c.in-Err.ensures.role
    (c.in-Err.ensures.read (beside_of d c.site_of-site.result) (d.world.nodes c.site_of-site.result) there read.can) refl
    (record { flight = refl; assemblies = refl; feeders = refl })

pub returns-in-Ok-clause-asked : goal.returns-in-Ok-clause-asked
returns-in-Ok-clause-asked g c = λ d stands apart.
    let y = c.args.yard.now in
    let s = c.site_of-site.result in
    let at = get_at y.disk_sets.items s c.index_mut.result.now c.site_of-site.ensures.disk_set c.index_mut.ensures.value in
    let place = place_at d y c.args.name.now s stands c.site_of-site.ensures.seat in
    let there = stands.disk_sets.sites s c.index_mut.result.now place.below at in
    asks_at LeavesAlone d y _ c.args.name.now s c.index_mut.result.now c.blocks_of.new.disk_set stands c.site_of-site.ensures.seat at refl
    (c.in-Ok.ensures.still (raw_named d c.args.name.now s c.index_mut.result.now place.number apart there))

pub returns-in-Err-clause-asked : goal.returns-in-Err-clause-asked
returns-in-Err-clause-asked g c = λ d stands apart.
    let y = c.args.yard.now in
    let s = c.site_of-site.result in
    let at = get_at y.disk_sets.items s c.index_mut.result.now c.site_of-site.ensures.disk_set c.index_mut.ensures.value in
    let place = place_at d y c.args.name.now s stands c.site_of-site.ensures.seat in
    let there = stands.disk_sets.sites s c.index_mut.result.now place.below at in
    asks_at LeavesAlone d y _ c.args.name.now s c.index_mut.result.now c.blocks_of.new.disk_set stands c.site_of-site.ensures.seat at refl
    (c.in-Err.ensures.still (raw_named d c.args.name.now s c.index_mut.result.now place.number apart there))

pub returns-in-Ok-clause-above : goal.returns-in-Ok-clause-above
returns-in-Ok-clause-above g c = λ d line stands over kind is free origin.
    let y = c.args.yard.now in
    let s = c.site_of-site.result in
    let before = c.index_mut.result.now in
    let seat : seat_of y.facts.items c.args.name.now ≡ Some c.site_of-site.result = c.site_of-site.ensures.seat in
    let disk_set = get_at y.disk_sets.items s before c.site_of-site.ensures.disk_set c.index_mut.ensures.value in
    let may = may_read y c.args.name.now c.args.volume.now c.args.start c.args.count c.requires.free in
    let here = data_at d y c.args.name.now c.args.volume.now s stands seat over kind in
    let read = reading_at d y c.args.name.now c.args.volume.now c.args.start c.args.count s c.volume_of-place.result before stands seat here.0 here.1 may disk_set c.volume_of-place.ensures.place in
    fetched_above d y _ c.args.name.now c.args.volume.now c.args.start c.args.count s c.volume_of-place.result stands read here.0 here.1 refl (record { flight = refl; assemblies = refl; feeders = refl })
    before c.blocks_of.new.disk_set
    (record { changed = record { there = disk_set; later = c.in-Ok.ensures.later; disk_sets = refl; racks = refl }; keeps = c.in-Ok.ensures.role; notes = c.in-Ok.ensures.notes })
    line c.in-Ok.blocks is free seat (origin s seat)
    (c.in-Ok.ensures.read (beside_of d s) (d.world.nodes s) (stands.disk_sets.sites s before read.seat.below disk_set) read.can)

pub returns-in-Err-clause-above : goal.returns-in-Err-clause-above
returns-in-Err-clause-above g c = λ d line stands over kind is free origin.
    let y = c.args.yard.now in
    let s = c.site_of-site.result in
    let before = c.index_mut.result.now in
    let seat : seat_of y.facts.items c.args.name.now ≡ Some c.site_of-site.result = c.site_of-site.ensures.seat in
    let disk_set = get_at y.disk_sets.items s before c.site_of-site.ensures.disk_set c.index_mut.ensures.value in
    let may = may_read y c.args.name.now c.args.volume.now c.args.start c.args.count c.requires.free in
    let here = data_at d y c.args.name.now c.args.volume.now s stands seat over kind in
    let read = reading_at d y c.args.name.now c.args.volume.now c.args.start c.args.count s c.volume_of-place.result before stands seat here.0 here.1 may disk_set c.volume_of-place.ensures.place in
    fetch_stops_above d y _ c.args.name.now c.args.volume.now c.args.start c.args.count s c.volume_of-place.result stands read here.0 here.1 refl (record { flight = refl; assemblies = refl; feeders = refl })
    before c.blocks_of.new.disk_set
    (record { changed = record { there = disk_set; later = c.in-Err.ensures.later; disk_sets = refl; racks = refl }; keeps = c.in-Err.ensures.role; notes = c.in-Err.ensures.notes })
    line c.in-Err.no is
    (c.in-Err.ensures.read (beside_of d s) (d.world.nodes s) (stands.disk_sets.sites s before read.seat.below disk_set) read.can)
