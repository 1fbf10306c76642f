-- `write_up`: clauses called and wrote.
use Rattle.std.proofs.Common.{refl, subst, sym}
use Rattle.vx_model.specs.Content.{Write}
use Rattle.vx_model.specs.declared.no.No.TheVariants.{Role}
use Rattle.vx_events.specs.declared.said.Said.TheVariants.{Refused}
use Rattle.vx_diskset.specs.Burning.{IsLogged, said_by}
use Rattle.vx_diskset.specs.declared.disk_set.DiskSet.TheVariants.{Over, Up}
use Rattle.vx_diskset.specs.DiskSets.{LoggedUp}
use Rattle.vx_diskset.specs.Stands.{SiteStands}
use Rattle.vx_diskset.proofs.Blamed.{blamed_up}
use Rattle.vx_diskset.proofs.WriteGroup.{logged_at, logged_wrote}
use Rattle.vx_diskset.proofs.CallsBurn.{burns_up, called_still, called_up, cuts_none, cuts_up}
use Rattle.vx_diskset.proofs.OverCalled.{blamed_over, over_later, over_role}
use Rattle.vx_diskset.specs.Noted.{OversCalled}
use Rattle.vx_diskset.proofs.OverNoted.{overs_raw}
use Rattle.vx_diskset.proofs.disk_set.DiskSet.write_up.Goals as goal
use Rattle.vx_diskset.specs.Asked.{IsRawSet}
use Rattle.vx_diskset.proofs.RawSets.{up_there}

pub returns-then-volume-volumes-clause-called : goal.returns-then-volume-volumes-clause-called
returns-then-volume-volumes-clause-called g c = λ beside n stands raw. record {
  burns = called_up IsLogged (said_by c.write_group.result) beside n c.args.self.now (Up c.write_group.new.rvg) c.in-Up.rvg c.in-Up.is stands (λ up. burns_up IsLogged (said_by c.write_group.result) c.in-Up.rvg c.write_group.new.rvg (c.write_group.ensures.called beside n up (up_there beside n c.args.self.now c.in-Up.rvg c.in-Up.is stands).0.0));
  cuts = cuts_up beside n c.args.self.now c.in-Up.rvg c.args.bytes.now c.write_group.result c.in-Up.is stands c.write_group.ensures.cuts;
}

pub returns-else-volume-volumes-clause-called : goal.returns-else-volume-volumes-clause-called
returns-else-volume-volumes-clause-called g c = λ beside n stands raw. record {
  burns = called_up IsLogged (Refused Role) beside n c.args.self.now (Up c.in-Up.rvg) c.in-Up.rvg c.in-Up.is stands (λ up. called_still IsLogged Role (Up c.in-Up.rvg) refl);
  cuts = cuts_none c.args.bytes.now Role c.args.self.now refl;
}

pub returns-then-volume-volumes-clause-wrote : goal.returns-then-volume-volumes-clause-wrote
returns-then-volume-volumes-clause-wrote g c = λ beside n stands can has.
    let is_rack = (g.met.R.Rack g.world.𝓛 g.world.𝓜 g.world.𝓡 ((λ s x. x), (λ x. x), (λ x. x), λ x. x)).rack in
    let x = (let w : Write = record { volume = c.args.volume; start = c.args.start; bytes = c.args.bytes.now } in w) in
    let at = up_there beside n c.args.self.now c.in-Up.rvg c.in-Up.is stands in
    logged_wrote beside n x c.args.self.now (Up c.write_group.new.rvg) c.write_group.result can.origin
    (subst (λ e. LoggedUp beside n x e (Up c.write_group.new.rvg) c.write_group.result) (sym c.in-Up.is)
    (logged_at beside n x c.in-Up.rvg c.write_group.new.rvg c.write_group.result at.0 (is_rack c.write_group.new.rvg.shelf)
    (c.write_group.ensures.wrote beside n at.1
    (record { up = can.up; running = can.running; volume_exists = can.volume_exists; fits = can.fits; within = can.within }) has)))

pub returns-then-volume-volumes-clause-blames : goal.returns-then-volume-volumes-clause-blames
returns-then-volume-volumes-clause-blames g c = λ beside n stands.
    let is_rack = (g.met.R.Rack g.world.𝓛 g.world.𝓜 g.world.𝓡 ((λ s x. x), (λ x. x), (λ x. x), λ x. x)).rack in
    blamed_up c.write_group.result beside n c.args.self.now c.in-Up.rvg c.in-Up.is stands (is_rack c.in-Up.rvg.shelf) c.write_group.ensures.blames

pub returns-in-Over-clause-wrote : goal.returns-in-Over-clause-wrote
returns-in-Over-clause-wrote g c = λ beside n stands can has.
    let x = (let w : Write = record { volume = c.args.volume; start = c.args.start; bytes = c.args.bytes.now } in w) in
    logged_wrote beside n x c.args.self.now (Over c.write.new.self) c.write.result can.origin
    (subst (λ e. LoggedUp beside n x e (Over c.write.new.self) c.write.result) (sym c.in-Over.is)
    (c.write.ensures.wrote beside n (subst (λ e. SiteStands beside n e) c.in-Over.is stands) can.origin
    (record { up = can.up; running = can.running; volume_exists = can.volume_exists; fits = can.fits; within = can.within }) has))

pub returns-in-Over-clause-role : goal.returns-in-Over-clause-role
returns-in-Over-clause-role g c = over_role c.args.self.now c.in-Over.over c.write.new.self c.in-Over.is c.write.ensures.called

pub returns-in-Over-clause-later : goal.returns-in-Over-clause-later
returns-in-Over-clause-later g c = over_later c.args.self.now c.in-Over.over c.write.new.self c.in-Over.is c.write.ensures.called

pub returns-in-Over-clause-blames : goal.returns-in-Over-clause-blames
returns-in-Over-clause-blames g c = λ beside n stands. blamed_over c.write.result n (subst (λ e. SiteStands beside n e) c.in-Over.is stands).0.0

pub returns-in-Over-clause-called : goal.returns-in-Over-clause-called
returns-in-Over-clause-called g c = λ beside n stands raw. absurd (subst (λ e. IsRawSet e) c.in-Over.is raw)

pub returns-then-volume-volumes-clause-overs : goal.returns-then-volume-volumes-clause-overs
returns-then-volume-volumes-clause-overs g c = overs_raw c.args.self.now _ _ (subst (λ e. IsRawSet e) (sym c.in-Up.is) tt)

pub returns-else-volume-volumes-clause-overs : goal.returns-else-volume-volumes-clause-overs
returns-else-volume-volumes-clause-overs g c = overs_raw c.args.self.now _ _ (subst (λ e. IsRawSet e) (sym c.in-Up.is) tt)

pub returns-in-Over-clause-overs : goal.returns-in-Over-clause-overs
returns-in-Over-clause-overs g c = subst (λ e. OversCalled e (Over c.write.new.self) c.write.result) (sym c.in-Over.is) (c.write.ensures.called, c.write.ensures.off)
