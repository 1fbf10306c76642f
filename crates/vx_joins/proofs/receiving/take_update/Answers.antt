-- An update at a receiver, halted or not.
use Rattle.std.proofs.Common.{◌≡◌, ◌∙◌, ℕ, ap, sym, subst}
use Rattle.std.specs.Prelude.{IfOk, None}
use Rattle.vx_model.specs.declared.state.State.{State}
use Rattle.vx_history.specs.Events.{delivered, packet_at}
use Rattle.vx_history.specs.declared.event.Said.TheVariants.{Ignored as IsIgnored}
use Rattle.vx_courier.specs.Together.{AssemblyStands}
use Rattle.vx_peers.specs.Receivers.{DeliveredAt, TookOne, rule_at}
use Rattle.vx_diskset.specs.Holds.{beside_of}
use Rattle.vx_diskset.specs.Stands.{SiteStands}
use Rattle.vx_diskset.specs.declared.disk_set.DiskSet.TheVariants.{Receives}
use Rattle.vx_joins.specs.Deliveries.{DeliveredTo, TookTo}
use Rattle.vx_joins.proofs.TakesUpdate.{alone_group, alone_same, err_map, halted_to, later_group, later_same, ok_map, receives_at, same_stands, taken_to}
use Rattle.vx_joins.proofs.UpdatesFit.{fits_group}
use Rattle.vx_joins.proofs.TookUpdate.{halted_took, running_took}
use Rattle.vx_joins.proofs.receiving.take_update.Goals as goal

pub returns-in-Some-clause-delivered : goal.returns-in-Some-clause-delivered
returns-in-Some-clause-delivered g c = λ d p k x at target message one flight stands fed assembly fits.
    let w = d.world in
    let s = c.args.secondary.now in
    let f = g.N.Net.flying c.args.flight.now in
    subst
    (λ (t : ℕ). SiteStands (beside_of d t) (w.nodes t) (Receives s) → c.args.fed_by.now ≡ (w.nodes t).fed_by → AssemblyStands w.packets t (w.gathering t) c.args.assembly.now
    → DeliveredTo (delivered w c.args.number (packet_at w.packets c.args.number)) (beside_of d t) t (Receives s) c.args.fed_by.now c.args.assembly.now f IsIgnored) target
    (λ stands fed assembly. halted_to w c.args.number p k x at message (beside_of d p.target) s c.in-Some.field-0 c.args.fed_by.now c.args.assembly.now f (sym c.in-Some.is ∙ c.halted.ensures) stands fed assembly flight)
    stands fed assembly

pub returns-in-Some-clause-still : goal.returns-in-Some-clause-still
returns-in-Some-clause-still g c = alone_same (Receives c.args.secondary.now)

pub returns-in-Some-clause-later : goal.returns-in-Some-clause-later
returns-in-Some-clause-later g c = later_same (Receives c.args.secondary.now)

pub returns-clause-delivered : goal.returns-clause-delivered
returns-clause-delivered g c = λ d p k x at target message one flight stands fed assembly fits.
    let w = d.world in
    let s = c.args.secondary.now in
    let new = c.deliver_update.new.secondary in
    let f = g.N.Net.flying c.args.flight.now in
    let running = sym stands.1.halted ∙ sym c.halted.ensures ∙ c.in_default.is in
    let receives = receives_at (w.nodes c.args.site) s.rvg.core s.waiting (g.R.Shelf.meaning s.rvg.shelf) stands.1 running c.args.fed_by.now fed in
    let line = ap (λ (t : State). t.line) stands.1.kept in
    let done = c.deliver_update.ensures.delivered w p k x at target message one flight receives assembly
    (λ is. fits_group (w.nodes c.args.site) s.rvg.core (g.R.Shelf.meaning s.rvg.shelf) p.line k x stands.1.lies stands.1.units stands.1.ring (fits (is ∙ line))) in
    subst
    (λ (t : ℕ). SiteStands (beside_of d t) (w.nodes t) (Receives s) → (w.nodes t).halted ≡ None → IfOk c.deliver_update.result (λ said. DeliveredAt w t c.args.number new.rvg.core new.waiting c.deliver_update.new.fed_by c.deliver_update.new.assembly (g.N.Net.flying c.deliver_update.new.flight) said)
    → IfOk c.deliver_update.result (λ said. DeliveredTo (delivered w c.args.number (packet_at w.packets c.args.number)) (beside_of d t) t (Receives new) c.deliver_update.new.fed_by c.deliver_update.new.assembly (g.N.Net.flying c.deliver_update.new.flight) said)) target
    (λ stands running done. ok_map c.deliver_update.result done
    (λ said stood. taken_to w c.args.number p k x at message (beside_of d p.target) s new c.deliver_update.new.fed_by c.deliver_update.new.assembly (g.N.Net.flying c.deliver_update.new.flight) said c.deliver_update.ensures.group stands running stood))
    stands running done

pub returns-clause-stands : goal.returns-clause-stands
returns-clause-stands g c =
    err_map c.deliver_update.result c.deliver_update.ensures.waiting
    (λ waiting. λ beside n stands. same_stands c.args.secondary.now c.deliver_update.new.secondary beside n c.deliver_update.ensures.group waiting stands)

pub returns-clause-fed_by : goal.returns-clause-fed_by
returns-clause-fed_by g c = c.deliver_update.ensures.fed_by

pub returns-clause-assembly : goal.returns-clause-assembly
returns-clause-assembly g c = c.deliver_update.ensures.assembly

pub returns-clause-unsent : goal.returns-clause-unsent
returns-clause-unsent g c = c.deliver_update.ensures.unsent

pub returns-clause-still : goal.returns-clause-still
returns-clause-still g c = alone_group c.args.secondary.now c.deliver_update.new.secondary c.deliver_update.ensures.group

pub returns-clause-later : goal.returns-clause-later
returns-clause-later g c = later_group c.args.secondary.now c.deliver_update.new.secondary c.deliver_update.ensures.group

pub returns-in-Some-clause-took : goal.returns-in-Some-clause-took
returns-in-Some-clause-took g c = λ d p k x at target message flight stands fed.
    let w = d.world in
    let s = c.args.secondary.now in
    let f = g.N.Net.flying c.args.flight.now in
    subst
    (λ (t : ℕ). SiteStands (beside_of d t) (w.nodes t) (Receives s) → c.args.fed_by.now ≡ (w.nodes t).fed_by
    → TookTo w c.args.number p k (beside_of d t) (Receives s) c.args.fed_by.now c.args.assembly.now c.args.assembly.now f f IsIgnored) target
    (λ stands fed. halted_took w c.args.number p k x at message (beside_of d p.target) s c.in-Some.field-0 c.args.fed_by.now c.args.assembly.now f (sym c.in-Some.is ∙ c.halted.ensures) stands fed)
    stands fed

pub returns-clause-took : goal.returns-clause-took
returns-clause-took g c = λ d p k x at target message flight stands fed.
    let w = d.world in
    let s = c.args.secondary.now in
    let new = c.deliver_update.new.secondary in
    let f = g.N.Net.flying c.args.flight.now in
    let f' = g.N.Net.flying c.deliver_update.new.flight in
    let running = sym stands.1.halted ∙ sym c.halted.ensures ∙ c.in_default.is in
    let core = s.rvg.core in
    let fed_by = c.args.fed_by.now in
    let fed_new = c.deliver_update.new.fed_by in
    let a = c.args.assembly.now in
    let a' = c.deliver_update.new.assembly in
    subst
    (λ (t : ℕ). SiteStands (beside_of d t) (w.nodes t) (Receives s) → (w.nodes t).halted ≡ None → fed_by ≡ (w.nodes t).fed_by
    → IfOk c.deliver_update.result (λ said. TookOne (rule_at core s.waiting p.line k) p.source t core s.waiting new.waiting fed_by fed_new a a' f f' said)
    → IfOk c.deliver_update.result (λ said. TookTo w c.args.number p k (beside_of d t) (Receives new) fed_new a a' f f' said)) target
    (λ stands running fed took. ok_map c.deliver_update.result took
    (λ said one. running_took w c.args.number p k x at message (beside_of d p.target) s new fed_by fed_new a a' f f' c.deliver_update.ensures.group stands running fed said one))
    stands running fed (c.deliver_update.ensures.took w p k x at message flight (sym c.halted.ensures ∙ c.in_default.is))
