-- `runs_are_safe`: its result.
use Rattle.vx_ringlog.proofs.Runs.{run_safe}
use Rattle.vx_ringlog.proofs.runs_are_safe.Goals as goal

pub returns : goal.returns
returns c = record { runs = run_safe }
