-- An update at the disks of any site.
use Rattle.std.proofs.Common.{◌≡◌, ℕ, subst}
use Rattle.vx_history.specs.Events.{delivered, packet_at}
use Rattle.vx_history.specs.declared.event.Said.TheVariants.{Ignored as IsIgnored}
use Rattle.vx_courier.specs.Together.{AssemblyStands}
use Rattle.vx_diskset.specs.Holds.{beside_of}
use Rattle.vx_diskset.specs.Stands.{RoleIs, SiteStands}
use Rattle.vx_joins.specs.Deliveries.{DeliveredTo, TookTo}
use Rattle.vx_joins.proofs.TakesUpdate.{alone_same, later_same, never_heard}
use Rattle.vx_diskset.proofs.Roles.{role_same}
use Rattle.vx_joins.proofs.TookUpdate.{other_took}
use Rattle.vx_joins.proofs.receiving.deliver_update.Goals as goal

pub returns-in-Receives-clause-delivered : goal.returns-in-Receives-clause-delivered
returns-in-Receives-clause-delivered g c = λ d p k x at target message one flight stands role raw fed assembly fits.
    c.take_update.ensures.delivered d p k x at target message one flight (subst (λ e. SiteStands (beside_of d c.args.site) (d.world.nodes c.args.site) e) c.in-Receives.is stands) fed assembly fits

pub returns-in_default-clause-delivered : goal.returns-in_default-clause-delivered
returns-in_default-clause-delivered g c = λ d p k x at target message one flight stands role raw fed assembly fits.
    let w = d.world in
    let e = c.args.disks.now in
    let f = g.N.Net.flying c.args.flight.now in
    subst
    (λ (t : ℕ). RoleIs (w.nodes t) e → SiteStands (beside_of d t) (w.nodes t) e → c.args.fed_by.now ≡ (w.nodes t).fed_by → AssemblyStands w.packets t (w.gathering t) c.args.assembly.now
    → DeliveredTo (delivered w c.args.number (packet_at w.packets c.args.number)) (beside_of d t) t e c.args.fed_by.now c.args.assembly.now f IsIgnored) target
    (λ role stands fed assembly. never_heard w c.args.number p k x at message (beside_of d p.target) e c.args.fed_by.now c.args.assembly.now f c.in_default.not-Receives role raw stands fed assembly flight)
    role stands fed assembly

pub returns-in_default-clause-still : goal.returns-in_default-clause-still
returns-in_default-clause-still g c = alone_same c.args.disks.now

pub returns-in_default-clause-later : goal.returns-in_default-clause-later
returns-in_default-clause-later g c = later_same c.args.disks.now

pub returns-in-Receives-clause-took : goal.returns-in-Receives-clause-took
returns-in-Receives-clause-took g c = λ d p k x at target message flight stands role raw fed.
    c.take_update.ensures.took d p k x at target message flight (subst (λ e. SiteStands (beside_of d c.args.site) (d.world.nodes c.args.site) e) c.in-Receives.is stands) fed

pub returns-in_default-clause-took : goal.returns-in_default-clause-took
returns-in_default-clause-took g c = λ d p k x at target message flight stands role raw fed.
    let w = d.world in
    let e = c.args.disks.now in
    let f = g.N.Net.flying c.args.flight.now in
    subst
    (λ (t : ℕ). RoleIs (w.nodes t) e → SiteStands (beside_of d t) (w.nodes t) e → c.args.fed_by.now ≡ (w.nodes t).fed_by
    → TookTo w c.args.number p k (beside_of d t) e c.args.fed_by.now c.args.assembly.now c.args.assembly.now f f IsIgnored) target
    (λ role stands fed. other_took w c.args.number p k x at message (beside_of d p.target) e c.args.fed_by.now c.args.assembly.now f c.in_default.not-Receives role raw stands fed)
    role stands fed

pub returns-in_default-clause-role : goal.returns-in_default-clause-role
returns-in_default-clause-role g c = role_same c.args.disks.now
