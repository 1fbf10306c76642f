-- `write_plex`: clause goes; what stays true in its loop over `done`.
use Rattle.vx_volume.proofs.WriteRuns.{part_goes, part_more}
use Rattle.vx_volume.proofs.writing.write_plex.Goals as goal

pub loop-done-preserved : goal.loop-done-preserved
loop-done-preserved g c = part_more _ _ _ _ _ _ _ _ _ _ c.loop-done.invariant c.write_run.ensures.goes _ c.in-Ok.ensures.ok c.in-Ok.ensures.cause

pub returns-in-Err-clause-goes : goal.returns-in-Err-clause-goes
returns-in-Err-clause-goes g c = part_goes _ _ _ _ _ _ _ _ _ _ c.loop-done.invariant c.write_run.ensures.goes
