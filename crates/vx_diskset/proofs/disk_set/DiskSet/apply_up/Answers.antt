-- `apply_up`: clauses called and applied.
use Rattle.vx_diskset.specs.Burning.{NoMore, said_by}
use Rattle.vx_diskset.specs.declared.disk_set.DiskSet.TheVariants.{Over, Up}
use Rattle.vx_diskset.proofs.ApplyGroup.{applied_at}
use Rattle.vx_diskset.proofs.RawSets.{up_there}
use Rattle.vx_diskset.proofs.Blamed.{blamed_receiver, blamed_up}
use Rattle.vx_diskset.proofs.CallsBurn.{called_by, called_up, is_done}
use Rattle.vx_diskset.proofs.Receiving.{applied_received, durable_of, receiver_as}
use Rattle.std.proofs.Common.{refl, subst, sym}
use Rattle.vx_diskset.specs.DiskSets.{AppliedUp}
use Rattle.vx_diskset.specs.Stands.{SiteStands}
use Rattle.vx_diskset.specs.Asked.{IsRawSet}
use Rattle.vx_diskset.proofs.OverCalled.{blamed_over, over_later, over_role}
use Rattle.vx_diskset.specs.Noted.{OversCalled}
use Rattle.vx_diskset.proofs.OverNoted.{overs_raw}
use Rattle.vx_diskset.proofs.disk_set.DiskSet.apply_up.Goals as goal

pub returns-in-Up-clause-called : goal.returns-in-Up-clause-called
returns-in-Up-clause-called g c = λ beside n stands raw.
    called_up NoMore (said_by c.apply_group.result) beside n c.args.self.now (Up c.apply_group.new.rvg) c.in-Up.rvg c.in-Up.is stands
    (λ up. called_by NoMore c.apply_group.result c.in-Up.rvg c.apply_group.new.rvg up.up c.apply_group.ensures.off
    (is_done c.apply_group.result (g.R.Shelf.meaning c.in-Up.rvg.shelf) (g.R.Shelf.meaning c.apply_group.new.rvg.shelf) c.apply_group.ensures.spends) c.apply_group.ensures.spends)

pub returns-in-Up-clause-applied : goal.returns-in-Up-clause-applied
returns-in-Up-clause-applied g c = λ beside n stands can apart.
    let at = up_there beside n c.args.self.now c.in-Up.rvg c.in-Up.is stands in
    applied_at beside n c.args.to c.args.self.now c.in-Up.rvg c.apply_group.new.rvg c.apply_group.result c.in-Up.is at.0 (at.1.durable can.running) (c.apply_group.ensures.applied beside n at.1 can.running)

pub returns-in-Receives-clause-applied : goal.returns-in-Receives-clause-applied
returns-in-Receives-clause-applied g c = λ beside n stands can apart.
    let lawful = (g.met.R.Shelf g.world.𝓛 g.world.𝓜 g.world.𝓡 ((λ s x. x), (λ x. x), (λ x. x), λ x. x)).lawful in
    applied_received beside n c.args.self.now c.in-Receives.site
    (record { rvg = c.apply_group-in-Receives.new.rvg; waiting = c.in-Receives.site.waiting; waits = c.apply_group-in-Receives.ensures.waiting c.in-Receives.site.waiting c.in-Receives.site.waits }) c.in-Receives.is stands can.running refl c.args.to c.apply_group-in-Receives.result
    (c.apply_group-in-Receives.ensures.applied beside (durable_of n) (receiver_as beside n c.args.self.now c.in-Receives.site c.in-Receives.is stands can.running (lawful c.in-Receives.site.rvg.shelf)) can.running)

pub returns-in-Up-clause-blames : goal.returns-in-Up-clause-blames
returns-in-Up-clause-blames g c = λ beside n stands.
    let is_rack = (g.met.R.Rack g.world.𝓛 g.world.𝓜 g.world.𝓡 ((λ s x. x), (λ x. x), (λ x. x), λ x. x)).rack in
    blamed_up c.apply_group.result beside n c.args.self.now c.in-Up.rvg c.in-Up.is stands (is_rack c.in-Up.rvg.shelf) c.apply_group.ensures.blames

pub returns-in-Receives-clause-blames : goal.returns-in-Receives-clause-blames
returns-in-Receives-clause-blames g c = λ beside n stands.
    let is_rack = (g.met.R.Rack g.world.𝓛 g.world.𝓜 g.world.𝓡 ((λ s x. x), (λ x. x), (λ x. x), λ x. x)).rack in
    blamed_receiver c.apply_group-in-Receives.result beside n c.args.self.now c.in-Receives.site c.in-Receives.is stands (is_rack c.in-Receives.site.rvg.shelf) c.apply_group-in-Receives.ensures.blames

pub returns-in-Over-clause-applied : goal.returns-in-Over-clause-applied
returns-in-Over-clause-applied g c = λ beside n stands can apart.
    subst (λ e. AppliedUp beside n c.args.to e (Over c.apply.new.self) c.apply.result) (sym c.in-Over.is) (c.apply.ensures.applied beside n (subst (λ e. SiteStands beside n e) c.in-Over.is stands) can)

pub returns-in-Over-clause-role : goal.returns-in-Over-clause-role
returns-in-Over-clause-role g c = over_role c.args.self.now c.in-Over.over c.apply.new.self c.in-Over.is c.apply.ensures.called

pub returns-in-Over-clause-later : goal.returns-in-Over-clause-later
returns-in-Over-clause-later g c = over_later c.args.self.now c.in-Over.over c.apply.new.self c.in-Over.is c.apply.ensures.called

pub returns-in-Over-clause-blames : goal.returns-in-Over-clause-blames
returns-in-Over-clause-blames g c = λ beside n stands. blamed_over c.apply.result n (subst (λ e. SiteStands beside n e) c.in-Over.is stands).0.0

pub returns-in-Over-clause-called : goal.returns-in-Over-clause-called
returns-in-Over-clause-called g c = λ beside n stands raw. absurd (subst (λ e. IsRawSet e) c.in-Over.is raw)

pub returns-in-Up-clause-overs : goal.returns-in-Up-clause-overs
returns-in-Up-clause-overs g c = overs_raw c.args.self.now _ _ (subst (λ e. IsRawSet e) (sym c.in-Up.is) tt)

pub returns-in-Receives-clause-overs : goal.returns-in-Receives-clause-overs
returns-in-Receives-clause-overs g c = overs_raw c.args.self.now _ _ (subst (λ e. IsRawSet e) (sym c.in-Receives.is) tt)

pub returns-in-Over-clause-overs : goal.returns-in-Over-clause-overs
returns-in-Over-clause-overs g c = subst (λ e. OversCalled e (Over c.apply.new.self) c.apply.result) (sym c.in-Over.is) (c.apply.ensures.called, c.apply.ensures.off)

pub returns-in-Over-clause-brought : goal.returns-in-Over-clause-brought
returns-in-Over-clause-brought g c = c.apply.ensures.brought
