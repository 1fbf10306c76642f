-- `write_keeping`: clauses wrote, called and role.
use Rattle.std.proofs.Common.{sym, ◌∙◌, ℕ}
use Rattle.vx_history.specs.Steps.{half_begun}
use Rattle.vx_diskset.proofs.CrashGroup.{wrote_off, wrote_on}
use Rattle.vx_diskset.specs.Burning.{IsLogged}
use Rattle.vx_diskset.proofs.CallsBurn.{called_cut}
use Rattle.vx_diskset.proofs.Roles.{role_then}
use Rattle.vx_diskset.proofs.OverNoted.{notes_cut, notes_done, notes_refused}
use Rattle.vx_diskset.proofs.disk_set.DiskSet.write_keeping.Goals as goal

pub returns-then-is_off-clause-wrote : goal.returns-then-is_off-clause-wrote
returns-then-is_off-clause-wrote g c = λ beside n stands can has.
    wrote_off n (record { volume = c.args.volume; start = c.args.start; bytes = c.args.bytes.now }) c.args.self.now c.write_up.new.self c.fall.new.self c.in-Err.no (sym c.is_off.ensures ∙ c.if-is_off.true)
    (c.in-Err.ensures.wrote beside n stands can has) (c.fall.ensures.falls beside (half_begun n (record { volume = c.args.volume; start = c.args.start; bytes = c.args.bytes.now }))) c.fall.ensures.seen

pub returns-else-is_off-clause-wrote : goal.returns-else-is_off-clause-wrote
returns-else-is_off-clause-wrote g c = λ beside n stands can has.
    wrote_on beside n (record { volume = c.args.volume; start = c.args.start; bytes = c.args.bytes.now }) c.args.self.now c.write_up.new.self c.in-Err.no (sym c.is_off.ensures ∙ c.if-is_off.false) (c.in-Err.ensures.wrote beside n stands can has)

pub returns-then-is_off-clause-called : goal.returns-then-is_off-clause-called
returns-then-is_off-clause-called g c = λ beside n stands raw.
    let called = c.in-Err.ensures.called beside n stands raw in
    record {
      burns = called_cut IsLogged c.in-Err.no 0xffff_ffff_ffff_ffff c.args.self.now c.write_up.new.self c.fall.new.self (sym c.is_off.ensures ∙ c.if-is_off.true) called.burns c.fall.ensures.stopped;
      cuts = called.cuts;
    }

pub returns-else-is_off-clause-called : goal.returns-else-is_off-clause-called
returns-else-is_off-clause-called g c = λ beside n stands raw. c.in-Err.ensures.called beside n stands raw

pub returns-then-is_off-clause-role : goal.returns-then-is_off-clause-role
returns-then-is_off-clause-role g c = role_then c.args.self.now c.write_up.new.self c.fall.new.self c.write_up.ensures.role c.fall.ensures.role

pub returns-then-is_off-clause-blames : goal.returns-then-is_off-clause-blames
returns-then-is_off-clause-blames g c = λ beside n stands. c.in-Err.ensures.blames beside n stands

pub returns-else-is_off-clause-blames : goal.returns-else-is_off-clause-blames
returns-else-is_off-clause-blames g c = λ beside n stands. c.in-Err.ensures.blames beside n stands

pub returns-in-Ok-clause-notes : goal.returns-in-Ok-clause-notes
returns-in-Ok-clause-notes g c = notes_done c.in-Ok.number c.args.self.now c.write_up.new.self c.in-Ok.ensures.overs

pub returns-then-is_off-clause-notes : goal.returns-then-is_off-clause-notes
returns-then-is_off-clause-notes g c = notes_cut ℕ c.in-Err.no c.args.self.now c.write_up.new.self c.fall.new.self (sym c.is_off.ensures ∙ c.if-is_off.true) c.in-Err.ensures.overs c.fall.ensures.fallen

pub returns-else-is_off-clause-notes : goal.returns-else-is_off-clause-notes
returns-else-is_off-clause-notes g c = notes_refused ℕ c.in-Err.no c.args.self.now c.write_up.new.self (sym c.is_off.ensures ∙ c.if-is_off.false) c.in-Err.ensures.overs
