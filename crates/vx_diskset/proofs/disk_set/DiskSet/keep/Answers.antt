-- A state that is kept, and the crash behind it where the fuse ran out.
use Rattle.std.proofs.Common.{sym, ◌∙◌}
use Rattle.vx_diskset.specs.Burning.{NoMore}
use Rattle.vx_diskset.specs.DiskSets.{halted_at}
use Rattle.vx_diskset.specs.Keeps.{doubting}
use Rattle.vx_diskset.proofs.CallsBurn.{called_cut}
use Rattle.vx_diskset.proofs.HeadCalls.{head_cut}
use Rattle.vx_diskset.proofs.KeepGroup.{kept_off, kept_on}
use Rattle.vx_diskset.proofs.Roles.{role_then}
use Rattle.vx_diskset.proofs.disk_set.DiskSet.keep.Goals as goal

pub returns-then-is_off-clause-kept : goal.returns-then-is_off-clause-kept
returns-then-is_off-clause-kept g c = λ beside n stands raw can.
    kept_off beside n c.args.state.now c.args.self.now c.keep_up.new.self c.fall.new.self c.in-Err.no (sym c.is_off.ensures ∙ c.if-is_off.true) (c.in-Err.ensures.kept beside n stands raw can)
    (c.fall.ensures.falls (doubting beside n c.args.state.now 0) (halted_at n 0))

pub returns-else-is_off-clause-kept : goal.returns-else-is_off-clause-kept
returns-else-is_off-clause-kept g c = λ beside n stands raw can.
    kept_on beside n c.args.state.now c.args.self.now c.keep_up.new.self c.in-Err.no (sym c.is_off.ensures ∙ c.if-is_off.false) (c.in-Err.ensures.kept beside n stands raw can)

pub returns-then-is_off-clause-called : goal.returns-then-is_off-clause-called
returns-then-is_off-clause-called g c = λ beside n stands.
    called_cut NoMore c.in-Err.no 0xffff_ffff_ffff_ffff c.args.self.now c.keep_up.new.self c.fall.new.self (sym c.is_off.ensures ∙ c.if-is_off.true) (c.in-Err.ensures.called beside n stands) c.fall.ensures.stopped

pub returns-else-is_off-clause-called : goal.returns-else-is_off-clause-called
returns-else-is_off-clause-called g c = λ beside n stands. c.in-Err.ensures.called beside n stands

pub returns-then-is_off-clause-headed : goal.returns-then-is_off-clause-headed
returns-then-is_off-clause-headed g c = λ beside n stands.
    head_cut 2 c.in-Err.no 0xffff_ffff_ffff_ffff c.args.self.now c.keep_up.new.self c.fall.new.self (sym c.is_off.ensures ∙ c.if-is_off.true) (c.in-Err.ensures.headed beside n stands) c.fall.ensures.stopped

pub returns-else-is_off-clause-headed : goal.returns-else-is_off-clause-headed
returns-else-is_off-clause-headed g c = λ beside n stands. c.in-Err.ensures.headed beside n stands

pub returns-then-is_off-clause-role : goal.returns-then-is_off-clause-role
returns-then-is_off-clause-role g c = role_then c.args.self.now c.keep_up.new.self c.fall.new.self c.keep_up.ensures.role c.fall.ensures.role
