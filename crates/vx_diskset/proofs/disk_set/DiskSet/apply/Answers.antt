-- `apply`: clauses applied, called and role.
use Rattle.std.proofs.Common.{sym, ◌∙◌, ℕ}
use Rattle.vx_diskset.proofs.CrashGroup.{applied_off, applied_on}
use Rattle.vx_diskset.specs.Burning.{NoMore}
use Rattle.vx_diskset.specs.DiskSets.{with_first}
use Rattle.vx_diskset.proofs.Fallen.{running_sure}
use Rattle.vx_diskset.proofs.CallsBurn.{called_cut}
use Rattle.vx_diskset.proofs.Roles.{role_then}
use Rattle.vx_diskset.proofs.OverNoted.{notes_cut, notes_done, notes_refused}
use Rattle.vx_diskset.proofs.disk_set.DiskSet.apply.Goals as goal

pub returns-then-is_off-clause-applied : goal.returns-then-is_off-clause-applied
returns-then-is_off-clause-applied g c = λ beside n stands can apart.
    applied_off n c.args.to c.args.self.now c.apply_up.new.self c.fall.new.self c.in-Err.no (sym c.is_off.ensures ∙ c.if-is_off.true) (running_sure beside n c.args.self.now stands can.up can.running)
    (c.in-Err.ensures.applied beside n stands can apart) (c.fall.ensures.falls beside (with_first n n.safe))

pub returns-else-is_off-clause-applied : goal.returns-else-is_off-clause-applied
returns-else-is_off-clause-applied g c = λ beside n stands can apart.
    applied_on beside n c.args.to c.args.self.now c.apply_up.new.self c.in-Err.no (sym c.is_off.ensures ∙ c.if-is_off.false) (c.in-Err.ensures.applied beside n stands can apart)

pub returns-then-is_off-clause-called : goal.returns-then-is_off-clause-called
returns-then-is_off-clause-called g c = λ beside n stands raw.
    called_cut NoMore c.in-Err.no 0xffff_ffff_ffff_ffff c.args.self.now c.apply_up.new.self c.fall.new.self (sym c.is_off.ensures ∙ c.if-is_off.true) (c.in-Err.ensures.called beside n stands raw) c.fall.ensures.stopped

pub returns-else-is_off-clause-called : goal.returns-else-is_off-clause-called
returns-else-is_off-clause-called g c = λ beside n stands raw. c.in-Err.ensures.called beside n stands raw

pub returns-then-is_off-clause-role : goal.returns-then-is_off-clause-role
returns-then-is_off-clause-role g c = role_then c.args.self.now c.apply_up.new.self c.fall.new.self c.apply_up.ensures.role c.fall.ensures.role

pub returns-then-is_off-clause-blames : goal.returns-then-is_off-clause-blames
returns-then-is_off-clause-blames g c = λ beside n stands. c.in-Err.ensures.blames beside n stands

pub returns-else-is_off-clause-blames : goal.returns-else-is_off-clause-blames
returns-else-is_off-clause-blames g c = λ beside n stands. c.in-Err.ensures.blames beside n stands

pub returns-in-Ok-clause-notes : goal.returns-in-Ok-clause-notes
returns-in-Ok-clause-notes g c = notes_done c.in-Ok.number c.args.self.now c.apply_up.new.self c.in-Ok.ensures.overs

pub returns-then-is_off-clause-notes : goal.returns-then-is_off-clause-notes
returns-then-is_off-clause-notes g c = notes_cut ℕ c.in-Err.no c.args.self.now c.apply_up.new.self c.fall.new.self (sym c.is_off.ensures ∙ c.if-is_off.true) c.in-Err.ensures.overs c.fall.ensures.fallen

pub returns-else-is_off-clause-notes : goal.returns-else-is_off-clause-notes
returns-else-is_off-clause-notes g c = notes_refused ℕ c.in-Err.no c.args.self.now c.apply_up.new.self (sym c.is_off.ensures ∙ c.if-is_off.false) c.in-Err.ensures.overs
