-- Blocks of a site that receives are shown, case by case.
use Rattle.std.proofs.Common.{◌≡◌, ◌∙◌, arith, false, inr, refl, subst, sym}
use Rattle.vx_diskset.specs.Asked.{LeavesAlone}
use Rattle.vx_diskset.specs.Holds.{beside_of}
use Rattle.vx_events.proofs.Places.{some_same}
use Rattle.vx_model.specs.Sites.{is_origin}
use Rattle.vx_yard.proofs.ChangeSite.{told_before}
use Rattle.vx_site_lines.proofs.FetchLine.{fetching}
use Rattle.vx_site_lines.proofs.ReadAbove.{data_at, reading_at, shown_above, shown_stops_above}
use Rattle.vx_yard.proofs.Lists.{get_at}
use Rattle.vx_yard.proofs.NamedSite.{asks_at, place_at}
use Rattle.vx_yard.proofs.RawSites.{raw_named}
use Rattle.vx_site_lines.proofs.ReadLine.{may_read}
use Rattle.vx_yard.proofs.Seats.{named_some, volume_there}
use Rattle.vx_site_lines.proofs.ShownLine.{not_primary, shown_leads, shown_stops}
use Rattle.vx_site_lines.proofs.shown.show_received.Goals.{then-count-eq0-via-then-count-eq0, then-count-eq0-via-else-count-eq0+then-count-gt-MOST_CALL_BLOCKS}
use Rattle.vx_site_lines.proofs.shown.show_received.Goals as goal

pub site_of-site-requires-clause-named : goal.site_of-site-requires-clause-named
site_of-site-requires-clause-named g c = λ κs within. named_some c.args.yard.now c.args.name.now (may_read c.args.yard.now c.args.name.now c.args.volume.now c.args.start c.args.count (inr c.requires.free)).site

pub volume_of-place-requires-clause-named : goal.volume_of-place-requires-clause-named
volume_of-place-requires-clause-named g c = λ κs within f at.
    volume_there c.args.yard.now c.args.name.now c.args.volume.now c.args.start c.args.count c.site_of-site.result f (may_read c.args.yard.now c.args.name.now c.args.volume.now c.args.start c.args.count (inr c.requires.free)) c.site_of-site.ensures.seat at

pub unreachable-requires : goal.unreachable-requires
unreachable-requires g c =
    let may = may_read c.args.yard.now c.args.name.now c.args.volume.now c.args.start c.args.count (inr c.requires.free) in
    elim c.then-count-eq0.branch [
      | then-count-eq0-via-then-count-eq0 w ↦ absurd (omega (arith, w.if-count-eq0.true, may.some))
      | then-count-eq0-via-else-count-eq0+then-count-gt-MOST_CALL_BLOCKS w ↦ absurd (omega (arith, w.if-count-gt-MOST_CALL_BLOCKS.true, may.few))
    ]

pub returns-in-Ok-clause-told : goal.returns-in-Ok-clause-told
returns-in-Ok-clause-told g c = told_before c.args.yard.now.disk_sets.items c.site_of-site.result c.index_mut.result.now c.shown_of.new.disk_set
    (get_at c.args.yard.now.disk_sets.items c.site_of-site.result c.index_mut.result.now c.site_of-site.ensures.disk_set c.index_mut.ensures.value) c.in-Ok.ensures.later

pub returns-in-Ok-clause-leads : goal.returns-in-Ok-clause-leads
returns-in-Ok-clause-leads g c = λ d s stands apart seat receives.
    let y = c.args.yard.now in
    let t = c.site_of-site.result in
    let before = c.index_mut.result.now in
    let after = c.shown_of.new.disk_set in
    let disk_set = get_at y.disk_sets.items t before c.site_of-site.ensures.disk_set c.index_mut.ensures.value in
    let may = may_read y c.args.name.now c.args.volume.now c.args.start c.args.count (inr c.requires.free) in
    let read = fetching d y c.args.name.now c.args.volume.now c.args.start c.args.count t c.volume_of-place.result before stands apart may c.site_of-site.ensures.seat disk_set c.volume_of-place.ensures.place in
    let there = stands.disk_sets.sites t before read.seat.below disk_set in
    let other = subst (λ i. is_origin (d.world.nodes i).role ≡ false) (some_same (sym seat ∙ c.site_of-site.ensures.seat)) receives in
    shown_leads d y _ c.args.name.now c.args.volume.now c.args.start c.args.count t c.volume_of-place.result before after stands read (record { there = disk_set; later = c.in-Ok.ensures.later; disk_sets = refl; racks = refl }) (c.in-Ok.ensures.still (raw_named d c.args.name.now t before read.seat.number apart there)) c.in-Ok.ensures.role refl
    (record { flight = refl; assemblies = refl; feeders = refl }) c.in-Ok.blocks (not_primary (d.world.nodes t).role other) (c.in-Ok.ensures.shows (beside_of d t) (d.world.nodes t) there read.can)

pub returns-in-Err-clause-told : goal.returns-in-Err-clause-told
returns-in-Err-clause-told g c = told_before c.args.yard.now.disk_sets.items c.site_of-site.result c.index_mut.result.now c.shown_of.new.disk_set
    (get_at c.args.yard.now.disk_sets.items c.site_of-site.result c.index_mut.result.now c.site_of-site.ensures.disk_set c.index_mut.ensures.value) c.in-Err.ensures.later

pub returns-in-Err-clause-leads : goal.returns-in-Err-clause-leads
returns-in-Err-clause-leads g c = λ d s stands apart seat receives.
    let y = c.args.yard.now in
    let t = c.site_of-site.result in
    let before = c.index_mut.result.now in
    let after = c.shown_of.new.disk_set in
    let disk_set = get_at y.disk_sets.items t before c.site_of-site.ensures.disk_set c.index_mut.ensures.value in
    let may = may_read y c.args.name.now c.args.volume.now c.args.start c.args.count (inr c.requires.free) in
    let read = fetching d y c.args.name.now c.args.volume.now c.args.start c.args.count t c.volume_of-place.result before stands apart may c.site_of-site.ensures.seat disk_set c.volume_of-place.ensures.place in
    let there = stands.disk_sets.sites t before read.seat.below disk_set in
    shown_stops d y _ c.args.name.now c.args.volume.now c.args.start c.args.count t c.volume_of-place.result before after stands read (record { there = disk_set; later = c.in-Err.ensures.later; disk_sets = refl; racks = refl }) (c.in-Err.ensures.still (raw_named d c.args.name.now t before read.seat.number apart there)) c.in-Err.ensures.role refl
    (record { flight = refl; assemblies = refl; feeders = refl }) c.in-Err.no (c.in-Err.ensures.shows (beside_of d t) (d.world.nodes t) there read.can)

pub returns-in-Ok-clause-asked : goal.returns-in-Ok-clause-asked
returns-in-Ok-clause-asked g c = λ d stands apart.
    let y = c.args.yard.now in
    let s = c.site_of-site.result in
    let at = get_at y.disk_sets.items s c.index_mut.result.now c.site_of-site.ensures.disk_set c.index_mut.ensures.value in
    let place = place_at d y c.args.name.now s stands c.site_of-site.ensures.seat in
    let there = stands.disk_sets.sites s c.index_mut.result.now place.below at in
    asks_at LeavesAlone d y _ c.args.name.now s c.index_mut.result.now c.shown_of.new.disk_set stands c.site_of-site.ensures.seat at refl
    (c.in-Ok.ensures.still (raw_named d c.args.name.now s c.index_mut.result.now place.number apart there))

pub returns-in-Err-clause-asked : goal.returns-in-Err-clause-asked
returns-in-Err-clause-asked g c = λ d stands apart.
    let y = c.args.yard.now in
    let s = c.site_of-site.result in
    let at = get_at y.disk_sets.items s c.index_mut.result.now c.site_of-site.ensures.disk_set c.index_mut.ensures.value in
    let place = place_at d y c.args.name.now s stands c.site_of-site.ensures.seat in
    let there = stands.disk_sets.sites s c.index_mut.result.now place.below at in
    asks_at LeavesAlone d y _ c.args.name.now s c.index_mut.result.now c.shown_of.new.disk_set stands c.site_of-site.ensures.seat at refl
    (c.in-Err.ensures.still (raw_named d c.args.name.now s c.index_mut.result.now place.number apart there))

pub returns-in-Ok-clause-above : goal.returns-in-Ok-clause-above
returns-in-Ok-clause-above g c = λ d s stands over kind seat receives.
    let y = c.args.yard.now in
    let t = c.site_of-site.result in
    let before = c.index_mut.result.now in
    let disk_set = get_at y.disk_sets.items t before c.site_of-site.ensures.disk_set c.index_mut.ensures.value in
    let may = may_read y c.args.name.now c.args.volume.now c.args.start c.args.count (inr c.requires.free) in
    let here = data_at d y c.args.name.now c.args.volume.now t stands c.site_of-site.ensures.seat over kind in
    let read = reading_at d y c.args.name.now c.args.volume.now c.args.start c.args.count t c.volume_of-place.result before stands c.site_of-site.ensures.seat here.0 here.1 may disk_set c.volume_of-place.ensures.place in
    let other = subst (λ i. is_origin (d.world.nodes i).role ≡ false) (some_same (sym seat ∙ c.site_of-site.ensures.seat)) receives in
    shown_above d y _ c.args.name.now c.args.volume.now c.args.start c.args.count t c.volume_of-place.result stands read here.0 here.1 refl (record { flight = refl; assemblies = refl; feeders = refl })
    before c.shown_of.new.disk_set
    (record { changed = record { there = disk_set; later = c.in-Ok.ensures.later; disk_sets = refl; racks = refl }; keeps = c.in-Ok.ensures.role; notes = c.in-Ok.ensures.notes })
    c.in-Ok.blocks (not_primary (d.world.nodes t).role other)
    (c.in-Ok.ensures.shows (beside_of d t) (d.world.nodes t) (stands.disk_sets.sites t before read.seat.below disk_set) read.can)

pub returns-in-Err-clause-above : goal.returns-in-Err-clause-above
returns-in-Err-clause-above g c = λ d s stands over kind seat receives.
    let y = c.args.yard.now in
    let t = c.site_of-site.result in
    let before = c.index_mut.result.now in
    let disk_set = get_at y.disk_sets.items t before c.site_of-site.ensures.disk_set c.index_mut.ensures.value in
    let may = may_read y c.args.name.now c.args.volume.now c.args.start c.args.count (inr c.requires.free) in
    let here = data_at d y c.args.name.now c.args.volume.now t stands c.site_of-site.ensures.seat over kind in
    let read = reading_at d y c.args.name.now c.args.volume.now c.args.start c.args.count t c.volume_of-place.result before stands c.site_of-site.ensures.seat here.0 here.1 may disk_set c.volume_of-place.ensures.place in
    shown_stops_above d y _ c.args.name.now c.args.volume.now c.args.start c.args.count t c.volume_of-place.result stands read here.0 here.1 refl (record { flight = refl; assemblies = refl; feeders = refl })
    before c.shown_of.new.disk_set
    (record { changed = record { there = disk_set; later = c.in-Err.ensures.later; disk_sets = refl; racks = refl }; keeps = c.in-Err.ensures.role; notes = c.in-Err.ensures.notes })
    c.in-Err.no
    (c.in-Err.ensures.shows (beside_of d t) (d.world.nodes t) (stands.disk_sets.sites t before read.seat.below disk_set) read.can)
