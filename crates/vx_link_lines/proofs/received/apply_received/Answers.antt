-- What waits at a site that receives is applied, case by case.
use Rattle.std.proofs.Common.{◌≡◌, ◌∙◌, ◌++◌, ℕ, arith, false, refl, subst, sym}
use Rattle.std.specs.Prelude.{slice_set}
use Rattle.vx_courier.specs.UnderWay.{FlightStands}
use Rattle.vx_diskset.specs.Asked.{LeavesFuse, SameFailing}
use Rattle.vx_diskset.specs.Burning.{NoMore}
use Rattle.vx_diskset.specs.Holds.{beside_of}
use Rattle.vx_diskset.specs.Stands.{SiteStands}
use Rattle.vx_events.proofs.Places.{some_same}
use Rattle.vx_events.proofs.Refused.{apply_may}
use Rattle.vx_events.specs.declared.said.Said.{Said}
use Rattle.vx_events.specs.declared.said.Said.TheVariants.{DoneAt}
use Rattle.vx_history.specs.Sends.{packets_of}
use Rattle.vx_history.specs.World.{DataAck}
use Rattle.vx_model.specs.Sites.{is_origin}
use Rattle.vx_model.specs.declared.history.Line.{Line}
use Rattle.vx_yard.specs.Yards.{in_files}
use Rattle.vx_yard.proofs.ApplySite.{calls_keep, can_apply_at}
use Rattle.vx_yard.proofs.ChangeSite.{told_before}
use Rattle.vx_diskset.proofs.KeepsFailing.{failing_same}
use Rattle.vx_yard.proofs.NamedSite.{asks_at, unbegun_site}
use Rattle.vx_yard.proofs.Lists.{get-set_same, get_at, length-set}
use Rattle.vx_link_lines.proofs.RawParts.{named_off, raw_seat}
use Rattle.vx_link_lines.proofs.ReceiverLine.{can_receive, received_done, received_refused}
use Rattle.vx_yard.proofs.Seats.{named_some}
use Rattle.vx_link_lines.proofs.received.apply_received.Goals as goal

pub site_of-site-requires-clause-named : goal.site_of-site-requires-clause-named
site_of-site-requires-clause-named g c = λ κs within.
    named_some c.args.yard.now c.args.name.now ((apply_may c.args.yard.now.facts.items (in_files c.args.yard.now) c.args.name.now c.args.count c.requires.free).site)

pub returns-in-Ok-clause-leads : goal.returns-in-Ok-clause-leads
returns-in-Ok-clause-leads g c = λ d s stands off carries seat receives.
    let old = c.args.yard.now in
    let es = old.disk_sets.items in
    let t = c.site_of-site.result in
    let before = c.index_mut.result.now in
    let after = c.apply_waiting.new.self in
    let there = get_at es t before c.site_of-site.ensures.disk_set c.index_mut.ensures.value in
    let at_site = some_same (sym seat ∙ c.site_of-site.ensures.seat) in
    let other = subst (λ (i : ℕ). is_origin (d.world.nodes i).role ≡ false) at_site receives in
    let here = can_apply_at d old c.args.name.now c.args.count t stands c.requires.free c.site_of-site.ensures.seat in
    let stood = stands.disk_sets.sites t before here.seat.below there in
    let raw = raw_seat d old c.args.name.now t before stands c.site_of-site.ensures.seat there off in
    let can = can_receive d t stands.links other here.can.up here.can.running in
    let n = d.world.nodes t in
    let to = c.index-to.result.now in
    let fed = carries.feeders t to (get_at old.feeders.items t to (omega (arith, here.seat.below, stands.disk_sets.few, c.requires.kept.numbers)) c.index-to.ensures) here.can.up other in
    let same_before = some_same (sym (get_at es t c.index.result.now c.site_of-site.ensures.disk_set c.index.ensures) ∙ there) in
    let line = c.in-Some.ensures.is (beside_of d t) n (subst (λ e. SiteStands (beside_of d t) n e) (sym same_before) stood) here.can.up here.seat.apart in
    let same_after = some_same (sym (get-set_same es t after c.site_of-site.ensures.disk_set)
    ∙ get_at (slice_set es t after) t c.index-in-Ok.result.now (omega (arith, c.site_of-site.ensures.disk_set, length-set es t after)) c.index-in-Ok.ensures) in
    received_done d old _ c.args.name.now c.args.count t before after stands here (record { there = there; later = c.apply_waiting.ensures.later; disk_sets = refl; racks = refl }) c.apply_waiting.ensures.role other (named_off d old c.args.name.now t stands c.site_of-site.ensures.seat off) c.in-Ok.reached c.last-number.result
    (c.in-Ok.ensures.applied (beside_of d t) n stood raw can) (c.in-Ok.ensures.called (beside_of d t) n stood)
    (record {
      sends = λ acks ps flight.
          subst (λ (i : Line). FlightStands (ps ++ packets_of t n.fed_by i (DataAck c.last-number.result)) c.acknowledge.new.flight) line
          (subst (λ (k : ℕ). FlightStands (ps ++ packets_of t k c.in-Some.line (DataAck c.last-number.result)) c.acknowledge.new.flight) fed (c.acknowledge.ensures.sends acks ps flight));
      unsent = c.acknowledge.ensures.unsent;
      facts = refl;
      assemblies = refl;
      feeders = refl;
    })
    (λ m seen up runs. c.last-number.ensures.is (beside_of d t) m (subst (λ e. SiteStands (beside_of d t) m e) same_after seen) up runs)

pub returns-in-Ok-clause-told : goal.returns-in-Ok-clause-told
returns-in-Ok-clause-told g c = told_before c.args.yard.now.disk_sets.items c.site_of-site.result c.index_mut.result.now c.apply_waiting.new.self
    (get_at c.args.yard.now.disk_sets.items c.site_of-site.result c.index_mut.result.now c.site_of-site.ensures.disk_set c.index_mut.ensures.value) c.apply_waiting.ensures.later

pub returns-in-Err-clause-leads : goal.returns-in-Err-clause-leads
returns-in-Err-clause-leads g c = λ d s stands off carries seat receives.
    let old = c.args.yard.now in
    let es = old.disk_sets.items in
    let t = c.site_of-site.result in
    let before = c.index_mut.result.now in
    let after = c.apply_waiting.new.self in
    let there = get_at es t before c.site_of-site.ensures.disk_set c.index_mut.ensures.value in
    let at_site = some_same (sym seat ∙ c.site_of-site.ensures.seat) in
    let other = subst (λ (i : ℕ). is_origin (d.world.nodes i).role ≡ false) at_site receives in
    let here = can_apply_at d old c.args.name.now c.args.count t stands c.requires.free c.site_of-site.ensures.seat in
    let stood = stands.disk_sets.sites t before here.seat.below there in
    let raw = raw_seat d old c.args.name.now t before stands c.site_of-site.ensures.seat there off in
    let can = can_receive d t stands.links other here.can.up here.can.running in
    let seen = c.index_mut-in-Err.result.now in
    received_refused d old _ c.args.name.now c.args.count t before after stands here (record { there = there; later = c.apply_waiting.ensures.later; disk_sets = refl; racks = refl }) c.apply_waiting.ensures.role other (named_off d old c.args.name.now t stands c.site_of-site.ensures.seat off) c.in-Err.no c.refused.result seen c.refused.new.facts c.refused.ensures.said
    (c.in-Err.ensures.blames (beside_of d t) (d.world.nodes t) stood) (c.in-Err.ensures.applied (beside_of d t) (d.world.nodes t) stood raw can) (c.in-Err.ensures.called (beside_of d t) (d.world.nodes t) stood)
    (get_at old.facts.items t seen c.site_of-site.ensures.fact c.index_mut-in-Err.ensures.value) c.refused.ensures.noted refl (record { flight = refl; assemblies = c.let_go_if_down.ensures; feeders = refl })

pub returns-in-Err-clause-told : goal.returns-in-Err-clause-told
returns-in-Err-clause-told g c = told_before c.args.yard.now.disk_sets.items c.site_of-site.result c.index_mut.result.now c.apply_waiting.new.self
    (get_at c.args.yard.now.disk_sets.items c.site_of-site.result c.index_mut.result.now c.site_of-site.ensures.disk_set c.index_mut.ensures.value) c.apply_waiting.ensures.later

pub returns-in-Ok-clause-called : goal.returns-in-Ok-clause-called
returns-in-Ok-clause-called g c = λ d stands off.
    let y = c.args.yard.now in
    let s = c.site_of-site.result in
    let at = get_at y.disk_sets.items s c.index_mut.result.now c.site_of-site.ensures.disk_set c.index_mut.ensures.value in
    let here = can_apply_at d y c.args.name.now c.args.count s stands c.requires.free c.site_of-site.ensures.seat in
    asks_at (LeavesFuse NoMore (DoneAt c.in-Ok.reached.number)) d y _ c.args.name.now s c.index_mut.result.now c.apply_waiting.new.self stands c.site_of-site.ensures.seat at refl
    (c.in-Ok.ensures.called (beside_of d s) (d.world.nodes s) (stands.disk_sets.sites s c.index_mut.result.now here.seat.below at))

pub returns-in-Ok-clause-asked : goal.returns-in-Ok-clause-asked
returns-in-Ok-clause-asked g c = λ d stands off.
    let y = c.args.yard.now in
    let s = c.site_of-site.result in
    let at = get_at y.disk_sets.items s c.index_mut.result.now c.site_of-site.ensures.disk_set c.index_mut.ensures.value in
    let here = can_apply_at d y c.args.name.now c.args.count s stands c.requires.free c.site_of-site.ensures.seat in
    asks_at SameFailing d y _ c.args.name.now s c.index_mut.result.now c.apply_waiting.new.self stands c.site_of-site.ensures.seat at refl
    (calls_keep NoMore (DoneAt c.in-Ok.reached.number) c.index_mut.result.now c.apply_waiting.new.self
    (c.in-Ok.ensures.called (beside_of d s) (d.world.nodes s) (stands.disk_sets.sites s c.index_mut.result.now here.seat.below at)))

pub returns-in-Err-clause-called : goal.returns-in-Err-clause-called
returns-in-Err-clause-called g c = λ d stands off.
    let y = c.args.yard.now in
    let s = c.site_of-site.result in
    let at = get_at y.disk_sets.items s c.index_mut.result.now c.site_of-site.ensures.disk_set c.index_mut.ensures.value in
    let here = can_apply_at d y c.args.name.now c.args.count s stands c.requires.free c.site_of-site.ensures.seat in
    asks_at (LeavesFuse NoMore c.refused.result) d y _ c.args.name.now s c.index_mut.result.now c.apply_waiting.new.self stands c.site_of-site.ensures.seat at refl
    (subst (λ (r : Said). LeavesFuse NoMore r c.index_mut.result.now c.apply_waiting.new.self) (sym c.refused.ensures.said)
    (c.in-Err.ensures.called (beside_of d s) (d.world.nodes s) (stands.disk_sets.sites s c.index_mut.result.now here.seat.below at)))

pub returns-in-Err-clause-asked : goal.returns-in-Err-clause-asked
returns-in-Err-clause-asked g c = λ d stands off.
    let y = c.args.yard.now in
    let s = c.site_of-site.result in
    let at = get_at y.disk_sets.items s c.index_mut.result.now c.site_of-site.ensures.disk_set c.index_mut.ensures.value in
    let here = can_apply_at d y c.args.name.now c.args.count s stands c.requires.free c.site_of-site.ensures.seat in
    asks_at SameFailing d y _ c.args.name.now s c.index_mut.result.now c.apply_waiting.new.self stands c.site_of-site.ensures.seat at refl
    (calls_keep NoMore c.refused.result c.index_mut.result.now c.apply_waiting.new.self
    (subst (λ (r : Said). LeavesFuse NoMore r c.index_mut.result.now c.apply_waiting.new.self) (sym c.refused.ensures.said)
    (c.in-Err.ensures.called (beside_of d s) (d.world.nodes s) (stands.disk_sets.sites s c.index_mut.result.now here.seat.below at))))

pub returns-in_default-clause-asked : goal.returns-in_default-clause-asked
returns-in_default-clause-asked g c = λ d stands off.
    unbegun_site SameFailing d c.args.yard.now c.args.name.now failing_same stands ((apply_may c.args.yard.now.facts.items (in_files c.args.yard.now) c.args.name.now c.args.count c.requires.free).site)

pub returns-then-count-ge-MOST_NUMBER-clause-asked : goal.returns-then-count-ge-MOST_NUMBER-clause-asked
returns-then-count-ge-MOST_NUMBER-clause-asked g c = λ d stands off.
    unbegun_site SameFailing d c.args.yard.now c.args.name.now failing_same stands ((apply_may c.args.yard.now.facts.items (in_files c.args.yard.now) c.args.name.now c.args.count c.requires.free).site)
