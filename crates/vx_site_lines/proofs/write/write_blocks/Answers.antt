-- Each case of a line that writes blocks to a site that may keep links.
use Rattle.std.proofs.Common.{◌≡◌, sym, subst, refl}
use Rattle.std.specs.Prelude.{Some}
use Rattle.vx_model.specs.Content.{blocks_in}
use Rattle.vx_diskset.specs.Asked.{WritesUnder}
use Rattle.vx_diskset.specs.Holds.{beside_of}
use Rattle.vx_events.specs.Facts.{seat_of}
use Rattle.vx_events.specs.declared.said.Said.{Said}
use Rattle.vx_linked.specs.Holds.{awaits_one}
use Rattle.vx_yard.proofs.ChangeSite.{told_before}
use Rattle.vx_yard.proofs.Lists.{get_at}
use Rattle.vx_yard.proofs.NamedSite.{asks_at, place_at}
use Rattle.vx_yard.proofs.RawSites.{raw_named}
use Rattle.vx_yard.proofs.Seats.{named_some, volume_there}
use Rattle.vx_site_lines.proofs.WriteLinks.{answers_under, next_after, room_as, write_leads, write_stops}
use Rattle.vx_events.proofs.RvgEvents.{rvg_apart}
use Rattle.vx_events.specs.Facts.{site_number}
use Rattle.vx_site_lines.proofs.WriteAbove.{above_at, stops_above, write_above}
use Rattle.vx_site_lines.proofs.WriteTests.{may_write, writing, writing_at}
use Rattle.vx_site_lines.proofs.write.write_blocks.Goals as goal

pub site_of-site-requires-clause-named : goal.site_of-site-requires-clause-named
site_of-site-requires-clause-named g c = λ κs within.
    let free = c.requires.free in named_some c.args.yard.now c.args.name.now (may_write c.args.yard.now free.0 c.args.name.now c.args.volume.now c.args.start c.args.bytes.now free.1 free.2).call.site

pub volume_of-place-requires-clause-named : goal.volume_of-place-requires-clause-named
volume_of-place-requires-clause-named g c = λ κs within f at.
    let free = c.requires.free in
    volume_there c.args.yard.now c.args.name.now c.args.volume.now c.args.start (blocks_in c.args.bytes.now) c.site_of-site.result f
    (may_write c.args.yard.now free.0 c.args.name.now c.args.volume.now c.args.start c.args.bytes.now free.1 free.2).call c.site_of-site.ensures.seat at

pub returns-in-Ok-clause-leads : goal.returns-in-Ok-clause-leads
returns-in-Ok-clause-leads g c = λ d line stands apart is free.
    let y = c.args.yard.now in
    let s = c.site_of-site.result in
    let seat : seat_of y.facts.items c.args.name.now ≡ Some c.site_of-site.result = c.site_of-site.ensures.seat in
    let at = get_at y.disk_sets.items s c.index_mut.result.now c.site_of-site.ensures.disk_set c.index_mut.ensures.value in
    let f = get_at y.facts.items s c.index-2.result.now c.site_of-site.ensures.fact c.index-2.ensures in
    let now = get_at y.facts.items s c.index_mut-in-Ok.result.now c.site_of-site.ensures.fact c.index_mut-in-Ok.ensures.value in
    let to = writing d y line c.args.name.now c.args.volume.now c.args.start c.args.bytes.now s c.volume_of-place.result c.index_mut.result.now stands apart is free seat at c.volume_of-place.ensures.place in
    let there = stands.disk_sets.sites s c.index_mut.result.now to.at.seat.below at in
    let racks = (g.met.R.Rack g.world.𝓛 g.world.𝓜 g.world.𝓡 ((λ s x. x), (λ x. x), (λ x. x), λ x. x)).rack in
    write_leads racks d y _ line c.args.name.now c.args.volume.now c.args.start c.args.bytes.now s c.volume_of-place.result c.index_mut.result.now c.write_keeping.new.self stands is to (record { there = at; later = c.in-Ok.ensures.later; disk_sets = refl; racks = refl }) c.in-Ok.ensures.role
    c.in-Ok.number c.note_written.result c.index_mut-in-Ok.result.now c.note_written.new.facts
    (c.in-Ok.ensures.wrote (beside_of d s) (d.world.nodes s) there to.at.can
    (room_as d y c.args.name.now c.args.volume.now c.args.start c.args.bytes.now s c.volume_of-place.result c.index_mut.result.now c.index-2.result.now c.hold_of_site-hold.result stands to.at at f c.hold_of_site-hold.ensures.hold))
    (c.in-Ok.ensures.called (beside_of d s) (d.world.nodes s) there (raw_named d c.args.name.now s c.index_mut.result.now to.at.seat.number apart there)) c.note_written.ensures.said now c.note_written.ensures.noted refl (record { flight = refl; assemblies = refl; feeders = refl })

pub returns-in-Err-clause-leads : goal.returns-in-Err-clause-leads
returns-in-Err-clause-leads g c = λ d line stands apart is free.
    let y = c.args.yard.now in
    let s = c.site_of-site.result in
    let seat : seat_of y.facts.items c.args.name.now ≡ Some c.site_of-site.result = c.site_of-site.ensures.seat in
    let at = get_at y.disk_sets.items s c.index_mut.result.now c.site_of-site.ensures.disk_set c.index_mut.ensures.value in
    let first = get_at y.disk_sets.items s c.index.result.now c.site_of-site.ensures.disk_set c.index.ensures in
    let f = get_at y.facts.items s c.index-2.result.now c.site_of-site.ensures.fact c.index-2.ensures in
    let now = get_at y.facts.items s c.index_mut-in-Err.result.now c.site_of-site.ensures.fact c.index_mut-in-Err.ensures.value in
    let to = writing d y line c.args.name.now c.args.volume.now c.args.start c.args.bytes.now s c.volume_of-place.result c.index_mut.result.now stands apart is free seat at c.volume_of-place.ensures.place in
    let there = stands.disk_sets.sites s c.index_mut.result.now to.at.seat.below at in
    let racks = (g.met.R.Rack g.world.𝓛 g.world.𝓜 g.world.𝓡 ((λ s x. x), (λ x. x), (λ x. x), λ x. x)).rack in
    write_stops racks d y _ line c.args.name.now c.args.volume.now c.args.start c.args.bytes.now s c.volume_of-place.result c.index_mut.result.now c.write_keeping.new.self stands is to (record { there = at; later = c.in-Err.ensures.later; disk_sets = refl; racks = refl }) c.in-Err.ensures.role
    c.in-Err.no c.note_unwritten.result c.saturating_add-next.result c.index_mut-in-Err.result.now c.note_unwritten.new.facts
    (c.in-Err.ensures.blames (beside_of d s) (d.world.nodes s) there)
    (c.in-Err.ensures.wrote (beside_of d s) (d.world.nodes s) there to.at.can
    (room_as d y c.args.name.now c.args.volume.now c.args.start c.args.bytes.now s c.volume_of-place.result c.index_mut.result.now c.index-2.result.now c.hold_of_site-hold.result stands to.at at f c.hold_of_site-hold.ensures.hold))
    (c.in-Err.ensures.called (beside_of d s) (d.world.nodes s) there (raw_named d c.args.name.now s c.index_mut.result.now to.at.seat.number apart there)) c.note_unwritten.ensures.said
    (λ free. next_after c.last.result c.saturating_add-next.result (d.world.nodes s).safe (c.last.ensures.is (beside_of d s) (d.world.nodes s) (stands.disk_sets.sites s c.index.result.now to.at.seat.below first) to.at.can.up to.at.can.running) free c.saturating_add-next.ensures)
    now c.note_unwritten.ensures.noted refl (record { flight = refl; assemblies = c.let_go_if_down.ensures; feeders = refl })

pub returns-in-Ok-clause-above : goal.returns-in-Ok-clause-above
returns-in-Ok-clause-above g c = λ d line stands over plain is free.
    let y = c.args.yard.now in
    let s = c.site_of-site.result in
    let seat : seat_of y.facts.items c.args.name.now ≡ Some c.site_of-site.result = c.site_of-site.ensures.seat in
    let at = get_at y.disk_sets.items s c.index_mut.result.now c.site_of-site.ensures.disk_set c.index_mut.ensures.value in
    let f = get_at y.facts.items s c.index-2.result.now c.site_of-site.ensures.fact c.index-2.ensures in
    let now = get_at y.facts.items s c.index_mut-in-Ok.result.now c.site_of-site.ensures.fact c.index_mut-in-Ok.ensures.value in
    let here = above_at d y c.args.name.now c.args.volume.now s stands seat over plain in
    let to = writing_at d y line c.args.name.now c.args.volume.now c.args.start c.args.bytes.now s c.volume_of-place.result c.index_mut.result.now stands (rvg_apart (d.world.nodes (site_number d.world c.args.name.now)) over) is free seat (λ _. here.1) at c.volume_of-place.ensures.place in
    let there = stands.disk_sets.sites s c.index_mut.result.now to.seat.below at in
    write_above d y _ line c.args.name.now c.args.volume.now c.args.start c.args.bytes.now s c.volume_of-place.result stands is to here.0 here.1 c.index_mut.result.now c.write_keeping.new.self
    (record { changed = record { there = at; later = c.in-Ok.ensures.later; disk_sets = refl; racks = refl }; keeps = c.in-Ok.ensures.role; notes = c.in-Ok.ensures.notes }) c.index_mut-in-Ok.result.now c.note_written.new.facts now refl
    c.in-Ok.number c.note_written.result
    (c.in-Ok.ensures.wrote (beside_of d s) (d.world.nodes s) there to.can
    (room_as d y c.args.name.now c.args.volume.now c.args.start c.args.bytes.now s c.volume_of-place.result c.index_mut.result.now c.index-2.result.now c.hold_of_site-hold.result stands to at f c.hold_of_site-hold.ensures.hold))
    c.note_written.ensures.said c.note_written.ensures.noted (record { flight = refl; assemblies = refl; feeders = refl })

pub returns-in-Err-clause-above : goal.returns-in-Err-clause-above
returns-in-Err-clause-above g c = λ d line stands over plain is free.
    let y = c.args.yard.now in
    let s = c.site_of-site.result in
    let seat : seat_of y.facts.items c.args.name.now ≡ Some c.site_of-site.result = c.site_of-site.ensures.seat in
    let at = get_at y.disk_sets.items s c.index_mut.result.now c.site_of-site.ensures.disk_set c.index_mut.ensures.value in
    let first = get_at y.disk_sets.items s c.index.result.now c.site_of-site.ensures.disk_set c.index.ensures in
    let f = get_at y.facts.items s c.index-2.result.now c.site_of-site.ensures.fact c.index-2.ensures in
    let now = get_at y.facts.items s c.index_mut-in-Err.result.now c.site_of-site.ensures.fact c.index_mut-in-Err.ensures.value in
    let here = above_at d y c.args.name.now c.args.volume.now s stands seat over plain in
    let to = writing_at d y line c.args.name.now c.args.volume.now c.args.start c.args.bytes.now s c.volume_of-place.result c.index_mut.result.now stands (rvg_apart (d.world.nodes (site_number d.world c.args.name.now)) over) is free seat (λ _. here.1) at c.volume_of-place.ensures.place in
    let there = stands.disk_sets.sites s c.index_mut.result.now to.seat.below at in
    stops_above d y _ line c.args.name.now c.args.volume.now c.args.start c.args.bytes.now s c.volume_of-place.result stands is to here.0 here.1 c.index_mut.result.now c.write_keeping.new.self
    (record { changed = record { there = at; later = c.in-Err.ensures.later; disk_sets = refl; racks = refl }; keeps = c.in-Err.ensures.role; notes = c.in-Err.ensures.notes }) c.index_mut-in-Err.result.now c.note_unwritten.new.facts now refl
    c.in-Err.no c.note_unwritten.result c.saturating_add-next.result
    (c.in-Err.ensures.blames (beside_of d s) (d.world.nodes s) there)
    (c.in-Err.ensures.wrote (beside_of d s) (d.world.nodes s) there to.can
    (room_as d y c.args.name.now c.args.volume.now c.args.start c.args.bytes.now s c.volume_of-place.result c.index_mut.result.now c.index-2.result.now c.hold_of_site-hold.result stands to at f c.hold_of_site-hold.ensures.hold))
    c.note_unwritten.ensures.said
    (λ below. next_after c.last.result c.saturating_add-next.result (d.world.nodes s).safe (c.last.ensures.is (beside_of d s) (d.world.nodes s) (stands.disk_sets.sites s c.index.result.now to.seat.below first) to.can.up to.can.running) below c.saturating_add-next.ensures)
    c.note_unwritten.ensures.noted (record { flight = refl; assemblies = c.let_go_if_down.ensures; feeders = refl })

pub returns-in-Ok-clause-told : goal.returns-in-Ok-clause-told
returns-in-Ok-clause-told g c = told_before c.args.yard.now.disk_sets.items c.site_of-site.result c.index_mut.result.now c.write_keeping.new.self
    (get_at c.args.yard.now.disk_sets.items c.site_of-site.result c.index_mut.result.now c.site_of-site.ensures.disk_set c.index_mut.ensures.value) c.in-Ok.ensures.later

pub returns-in-Err-clause-told : goal.returns-in-Err-clause-told
returns-in-Err-clause-told g c = told_before c.args.yard.now.disk_sets.items c.site_of-site.result c.index_mut.result.now c.write_keeping.new.self
    (get_at c.args.yard.now.disk_sets.items c.site_of-site.result c.index_mut.result.now c.site_of-site.ensures.disk_set c.index_mut.ensures.value) c.in-Err.ensures.later

pub returns-in-Ok-clause-called : goal.returns-in-Ok-clause-called
returns-in-Ok-clause-called g c = λ d stands apart.
    let y = c.args.yard.now in
    let s = c.site_of-site.result in
    let seat : seat_of y.facts.items c.args.name.now ≡ Some c.site_of-site.result = c.site_of-site.ensures.seat in
    let at = get_at y.disk_sets.items s c.index_mut.result.now c.site_of-site.ensures.disk_set c.index_mut.ensures.value in
    let place = place_at d y c.args.name.now s stands seat in
    let there = stands.disk_sets.sites s c.index_mut.result.now place.below at in
    let raw = raw_named d c.args.name.now s c.index_mut.result.now place.number apart there in
    asks_at (WritesUnder c.args.bytes.now c.note_written.result) d y _ c.args.name.now s c.index_mut.result.now c.write_keeping.new.self stands seat at refl
    (subst (λ (r : Said). WritesUnder c.args.bytes.now r c.index_mut.result.now c.write_keeping.new.self) (sym c.note_written.ensures.said)
    (answers_under (awaits_one c.index_mut-in-Ok.result.now) c.in-Ok.number c.args.bytes.now c.index_mut.result.now c.write_keeping.new.self (c.in-Ok.ensures.called (beside_of d s) (d.world.nodes s) there raw)))

pub returns-in-Err-clause-called : goal.returns-in-Err-clause-called
returns-in-Err-clause-called g c = λ d stands apart.
    let y = c.args.yard.now in
    let s = c.site_of-site.result in
    let seat : seat_of y.facts.items c.args.name.now ≡ Some c.site_of-site.result = c.site_of-site.ensures.seat in
    let at = get_at y.disk_sets.items s c.index_mut.result.now c.site_of-site.ensures.disk_set c.index_mut.ensures.value in
    let place = place_at d y c.args.name.now s stands seat in
    let there = stands.disk_sets.sites s c.index_mut.result.now place.below at in
    let raw = raw_named d c.args.name.now s c.index_mut.result.now place.number apart there in
    asks_at (WritesUnder c.args.bytes.now c.note_unwritten.result) d y _ c.args.name.now s c.index_mut.result.now c.write_keeping.new.self stands seat at refl
    (subst (λ (r : Said). WritesUnder c.args.bytes.now r c.index_mut.result.now c.write_keeping.new.self) (sym c.note_unwritten.ensures.said) (c.in-Err.ensures.called (beside_of d s) (d.world.nodes s) there raw))
