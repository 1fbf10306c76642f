-- The loop of `push_volumes` over `volume`: what stays true.
use Rattle.std.proofs.Common.{◌≡◌, ◌++◌, take}
use Rattle.std.specs.Prelude.{flat_map}
use Rattle.vx_config.specs.Checks.{volume_runs}
use Rattle.vx_config.proofs.runs.push_volumes.Given as goal

abbrev pub invariant-loop-volume : goal.invariant-loop-volume
invariant-loop-volume l = l.runs.items ≡ l.fn.runs.items ++ flat_map volume_runs (take l.volume-index l.volumes)
