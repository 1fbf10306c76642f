-- Each case of a line that applies the log of a site.
use Rattle.std.proofs.Common.{◌≡◌, refl, subst, sym}
use Rattle.std.specs.Prelude.{Some}
use Rattle.vx_events.specs.Facts.{seat_of}
use Rattle.vx_yard.specs.Yards.{in_files}
use Rattle.vx_yard.proofs.ChangeSite.{told_before}
use Rattle.vx_yard.proofs.Leading.{room_leads, room_waits}
use Rattle.vx_yard.proofs.Lists.{get_at}
use Rattle.vx_events.proofs.Refused.{apply_may}
use Rattle.vx_yard.proofs.Seats.{named_some}
use Rattle.vx_events.specs.declared.said.Said.TheVariants.{DoneAt}
use Rattle.vx_diskset.specs.Asked.{LeavesFuse, SameFailing}
use Rattle.vx_diskset.specs.Burning.{NoMore}
use Rattle.vx_diskset.specs.Holds.{beside_of}
use Rattle.vx_events.specs.declared.said.Said.{Said}
use Rattle.vx_yard.proofs.ApplySite.{applied, apply_refused, calls_keep, can_apply_at, stops_apply}
use Rattle.vx_yard.proofs.NamedSite.{asks_at, place_at}
use Rattle.vx_yard.proofs.OverGroup.{both_ways}
use Rattle.vx_link_lines.proofs.ApplyAbove.{apply_above, apply_denied}
use Rattle.vx_link_lines.proofs.OverGroups.{second_off_at}
use Rattle.vx_link_lines.proofs.RawParts.{named_off, named_over, raw_seat}
use Rattle.vx_link_lines.proofs.apply.apply_line.Goals as goal

pub site_of-site-requires-clause-named : goal.site_of-site-requires-clause-named
site_of-site-requires-clause-named g c = λ κs within. named_some c.args.yard.now c.args.name.now ((apply_may c.args.yard.now.facts.items (in_files c.args.yard.now) c.args.name.now c.args.to c.requires.free).site)

pub returns-in-Ok-clause-told : goal.returns-in-Ok-clause-told
returns-in-Ok-clause-told g c = told_before c.args.yard.now.disk_sets.items c.site_of-site.result c.index_mut.result.now c.apply.new.self
    (get_at c.args.yard.now.disk_sets.items c.site_of-site.result c.index_mut.result.now c.site_of-site.ensures.disk_set c.index_mut.ensures.value) c.in-Ok.ensures.later

pub returns-in-Err-clause-told : goal.returns-in-Err-clause-told
returns-in-Err-clause-told g c = told_before c.args.yard.now.disk_sets.items c.site_of-site.result c.index_mut.result.now c.apply.new.self
    (get_at c.args.yard.now.disk_sets.items c.site_of-site.result c.index_mut.result.now c.site_of-site.ensures.disk_set c.index_mut.ensures.value) c.in-Err.ensures.later

pub returns-in-Ok-clause-leads : goal.returns-in-Ok-clause-leads
returns-in-Ok-clause-leads g c = λ d stands off carries.
    let y = c.args.yard.now in
    let s = c.site_of-site.result in
    let seat : seat_of y.facts.items c.args.name.now ≡ Some c.site_of-site.result = c.site_of-site.ensures.seat in
    let at = get_at y.disk_sets.items c.site_of-site.result c.index_mut.result.now c.site_of-site.ensures.disk_set c.index_mut.ensures.value in
    let here = can_apply_at d y c.args.name.now c.args.to s stands c.requires.free seat in
    let there = stands.disk_sets.sites s c.index_mut.result.now here.seat.below at in
    let raw = raw_seat d y c.args.name.now s c.index_mut.result.now stands seat at off in
    applied d y _ c.args.name.now c.args.to s c.index_mut.result.now c.apply.new.self stands here (named_off d y c.args.name.now s stands seat off) (record { there = at; later = c.in-Ok.ensures.later; disk_sets = refl; racks = refl }) c.in-Ok.ensures.role c.in-Ok.number
    (room_leads d y c.args.name.now s stands seat c.index.result.now c.receives.result (get_at y.disk_sets.items s c.index.result.now c.site_of-site.ensures.disk_set c.index.ensures) c.receives.ensures c.if-receives.false
    (apply_may y.facts.items (in_files y) c.args.name.now c.args.to c.requires.free).site (apply_may y.facts.items (in_files y) c.args.name.now c.args.to c.requires.free).up s seat)
    (c.in-Ok.ensures.applied (beside_of d s) (d.world.nodes s) there here.can here.seat.apart) (c.in-Ok.ensures.called (beside_of d s) (d.world.nodes s) there raw) refl
    (record { flight = refl; assemblies = refl; feeders = refl })

pub returns-in-Err-clause-leads : goal.returns-in-Err-clause-leads
returns-in-Err-clause-leads g c = λ d stands off carries.
    let y = c.args.yard.now in
    let s = c.site_of-site.result in
    let seat : seat_of y.facts.items c.args.name.now ≡ Some c.site_of-site.result = c.site_of-site.ensures.seat in
    let at = get_at y.disk_sets.items c.site_of-site.result c.index_mut.result.now c.site_of-site.ensures.disk_set c.index_mut.ensures.value in
    let here = can_apply_at d y c.args.name.now c.args.to s stands c.requires.free seat in
    let there = stands.disk_sets.sites s c.index_mut.result.now here.seat.below at in
    let raw = raw_seat d y c.args.name.now s c.index_mut.result.now stands seat at off in
    apply_refused d y _ c.args.name.now c.args.to s c.index_mut.result.now c.apply.new.self stands here (named_off d y c.args.name.now s stands seat off) (record { there = at; later = c.in-Err.ensures.later; disk_sets = refl; racks = refl }) c.in-Err.ensures.role c.in-Err.no c.refused.result
    c.index_mut-in-Err.result.now c.refused.new.facts c.refused.ensures.said (c.in-Err.ensures.blames (beside_of d s) (d.world.nodes s) there) (stops_apply (beside_of d s) (d.world.nodes s) c.args.to c.index_mut.result.now c.apply.new.self c.in-Err.no (c.in-Err.ensures.applied (beside_of d s) (d.world.nodes s) there here.can here.seat.apart))
    (c.in-Err.ensures.called (beside_of d s) (d.world.nodes s) there raw)
    (get_at y.facts.items s c.index_mut-in-Err.result.now (c.site_of-site.ensures.fact) c.index_mut-in-Err.ensures.value) c.refused.ensures.noted refl
    (record { flight = refl; assemblies = c.let_go_if_down.ensures; feeders = refl })

pub returns-in-Ok-clause-above : goal.returns-in-Ok-clause-above
returns-in-Ok-clause-above g c = λ d stands over.
    let y = c.args.yard.now in
    let s = c.site_of-site.result in
    let seat : seat_of y.facts.items c.args.name.now ≡ Some c.site_of-site.result = c.site_of-site.ensures.seat in
    let at = get_at y.disk_sets.items c.site_of-site.result c.index_mut.result.now c.site_of-site.ensures.disk_set c.index_mut.ensures.value in
    let here = can_apply_at d y c.args.name.now c.args.to s stands c.requires.free seat in
    let there = stands.disk_sets.sites s c.index_mut.result.now here.seat.below at in
    apply_above d y _ c.args.name.now c.args.to s c.index_mut.result.now c.apply.new.self stands here (named_over d y c.args.name.now s stands seat over) (record { there = at; later = c.in-Ok.ensures.later; disk_sets = refl; racks = refl })
    c.in-Ok.ensures.role c.in-Ok.ensures.notes c.in-Ok.number
    (room_leads d y c.args.name.now s stands seat c.index.result.now c.receives.result (get_at y.disk_sets.items s c.index.result.now c.site_of-site.ensures.disk_set c.index.ensures) c.receives.ensures c.if-receives.false
    (apply_may y.facts.items (in_files y) c.args.name.now c.args.to c.requires.free).site (apply_may y.facts.items (in_files y) c.args.name.now c.args.to c.requires.free).up s seat)
    (c.in-Ok.ensures.applied (beside_of d s) (d.world.nodes s) there here.can here.seat.apart) refl (record { flight = refl; assemblies = refl; feeders = refl })

pub returns-in-Err-clause-above : goal.returns-in-Err-clause-above
returns-in-Err-clause-above g c = λ d stands over.
    let y = c.args.yard.now in
    let s = c.site_of-site.result in
    let seat : seat_of y.facts.items c.args.name.now ≡ Some c.site_of-site.result = c.site_of-site.ensures.seat in
    let at = get_at y.disk_sets.items c.site_of-site.result c.index_mut.result.now c.site_of-site.ensures.disk_set c.index_mut.ensures.value in
    let here = can_apply_at d y c.args.name.now c.args.to s stands c.requires.free seat in
    let there = stands.disk_sets.sites s c.index_mut.result.now here.seat.below at in
    apply_denied d y _ c.args.name.now c.args.to s c.index_mut.result.now c.apply.new.self stands here (named_over d y c.args.name.now s stands seat over) (record { there = at; later = c.in-Err.ensures.later; disk_sets = refl; racks = refl })
    c.in-Err.ensures.role c.in-Err.ensures.notes c.in-Err.no c.refused.result c.index_mut-in-Err.result.now c.refused.new.facts c.refused.ensures.said (c.in-Err.ensures.blames (beside_of d s) (d.world.nodes s) there)
    (stops_apply (beside_of d s) (d.world.nodes s) c.args.to c.index_mut.result.now c.apply.new.self c.in-Err.no (c.in-Err.ensures.applied (beside_of d s) (d.world.nodes s) there here.can here.seat.apart))
    (get_at y.facts.items s c.index_mut-in-Err.result.now (c.site_of-site.ensures.fact) c.index_mut-in-Err.ensures.value) c.refused.ensures.noted refl
    (record { flight = refl; assemblies = c.let_go_if_down.ensures; feeders = refl })

pub returns-then-receives-clause-above : goal.returns-then-receives-clause-above
returns-then-receives-clause-above g c = λ d stands over.
    let y = c.args.yard.now in
    let s = c.site_of-site.result in
    let there = get_at y.disk_sets.items s c.index.result.now c.site_of-site.ensures.disk_set c.index.ensures in
    let seat : seat_of y.facts.items c.args.name.now ≡ Some c.site_of-site.result = c.site_of-site.ensures.seat in
    absurd (both_ways (named_over d y c.args.name.now s stands seat over)
    (second_off_at d y s stands (place_at d y c.args.name.now s stands seat).below
    (room_waits d y c.args.name.now s stands seat c.index.result.now c.receives.result there c.receives.ensures c.if-receives.true)))

pub returns-in-Ok-clause-called : goal.returns-in-Ok-clause-called
returns-in-Ok-clause-called g c = λ d stands off.
    let y = c.args.yard.now in
    let s = c.site_of-site.result in
    let seat : seat_of y.facts.items c.args.name.now ≡ Some c.site_of-site.result = c.site_of-site.ensures.seat in
    let at = get_at y.disk_sets.items c.site_of-site.result c.index_mut.result.now c.site_of-site.ensures.disk_set c.index_mut.ensures.value in
    let here = can_apply_at d y c.args.name.now c.args.to s stands c.requires.free seat in
    let there = stands.disk_sets.sites s c.index_mut.result.now here.seat.below at in
    let raw = raw_seat d y c.args.name.now s c.index_mut.result.now stands seat at off in
    asks_at (LeavesFuse NoMore (DoneAt c.in-Ok.number)) d y _ c.args.name.now s c.index_mut.result.now c.apply.new.self stands seat at refl
    (c.in-Ok.ensures.called (beside_of d s) (d.world.nodes s) there raw)

pub returns-in-Ok-clause-asked : goal.returns-in-Ok-clause-asked
returns-in-Ok-clause-asked g c = λ d stands off.
    let y = c.args.yard.now in
    let s = c.site_of-site.result in
    let seat : seat_of y.facts.items c.args.name.now ≡ Some c.site_of-site.result = c.site_of-site.ensures.seat in
    let at = get_at y.disk_sets.items c.site_of-site.result c.index_mut.result.now c.site_of-site.ensures.disk_set c.index_mut.ensures.value in
    let here = can_apply_at d y c.args.name.now c.args.to s stands c.requires.free seat in
    let there = stands.disk_sets.sites s c.index_mut.result.now here.seat.below at in
    let raw = raw_seat d y c.args.name.now s c.index_mut.result.now stands seat at off in
    asks_at SameFailing d y _ c.args.name.now s c.index_mut.result.now c.apply.new.self stands seat at refl
    (calls_keep NoMore (DoneAt c.in-Ok.number) c.index_mut.result.now c.apply.new.self (c.in-Ok.ensures.called (beside_of d s) (d.world.nodes s) there raw))

pub returns-in-Err-clause-called : goal.returns-in-Err-clause-called
returns-in-Err-clause-called g c = λ d stands off.
    let y = c.args.yard.now in
    let s = c.site_of-site.result in
    let seat : seat_of y.facts.items c.args.name.now ≡ Some c.site_of-site.result = c.site_of-site.ensures.seat in
    let at = get_at y.disk_sets.items c.site_of-site.result c.index_mut.result.now c.site_of-site.ensures.disk_set c.index_mut.ensures.value in
    let here = can_apply_at d y c.args.name.now c.args.to s stands c.requires.free seat in
    let there = stands.disk_sets.sites s c.index_mut.result.now here.seat.below at in
    let raw = raw_seat d y c.args.name.now s c.index_mut.result.now stands seat at off in
    asks_at (LeavesFuse NoMore c.refused.result) d y _ c.args.name.now s c.index_mut.result.now c.apply.new.self stands seat at refl
    (subst (λ (r : Said). LeavesFuse NoMore r c.index_mut.result.now c.apply.new.self) (sym c.refused.ensures.said) (c.in-Err.ensures.called (beside_of d s) (d.world.nodes s) there raw))

pub returns-in-Err-clause-asked : goal.returns-in-Err-clause-asked
returns-in-Err-clause-asked g c = λ d stands off.
    let y = c.args.yard.now in
    let s = c.site_of-site.result in
    let seat : seat_of y.facts.items c.args.name.now ≡ Some c.site_of-site.result = c.site_of-site.ensures.seat in
    let at = get_at y.disk_sets.items c.site_of-site.result c.index_mut.result.now c.site_of-site.ensures.disk_set c.index_mut.ensures.value in
    let here = can_apply_at d y c.args.name.now c.args.to s stands c.requires.free seat in
    let there = stands.disk_sets.sites s c.index_mut.result.now here.seat.below at in
    let raw = raw_seat d y c.args.name.now s c.index_mut.result.now stands seat at off in
    asks_at SameFailing d y _ c.args.name.now s c.index_mut.result.now c.apply.new.self stands seat at refl
    (calls_keep NoMore c.refused.result c.index_mut.result.now c.apply.new.self (subst (λ (r : Said). LeavesFuse NoMore r c.index_mut.result.now c.apply.new.self) (sym c.refused.ensures.said) (c.in-Err.ensures.called (beside_of d s) (d.world.nodes s) there raw)))

pub returns-then-receives-clause-leads : goal.returns-then-receives-clause-leads
returns-then-receives-clause-leads g c = λ d stands off carries.
    let y = c.args.yard.now in
    let s = c.site_of-site.result in
    let there = get_at y.disk_sets.items s c.index.result.now c.site_of-site.ensures.disk_set c.index.ensures in
    c.apply_received.ensures.leads d s stands off carries c.site_of-site.ensures.seat
    (room_waits d y c.args.name.now s stands c.site_of-site.ensures.seat c.index.result.now c.receives.result there c.receives.ensures c.if-receives.true)

pub returns-then-receives-clause-asked : goal.returns-then-receives-clause-asked
returns-then-receives-clause-asked g c = λ d stands off. c.apply_received.ensures.asked d stands off

pub returns-then-receives-clause-called : goal.returns-then-receives-clause-called
returns-then-receives-clause-called g c = λ d stands off. c.apply_received.ensures.called d stands off
