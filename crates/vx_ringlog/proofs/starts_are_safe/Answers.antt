-- `starts_are_safe`: its result.
use Rattle.vx_ringlog.proofs.Starting.{start_safe, start_still}
use Rattle.vx_ringlog.proofs.Runs.{made_safe}
use Rattle.vx_ringlog.proofs.starts_are_safe.Goals as goal

pub returns : goal.returns
returns c = record { made = made_safe; starts = start_safe; still = start_still }
