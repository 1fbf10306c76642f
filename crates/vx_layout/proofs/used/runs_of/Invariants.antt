-- The loop of `runs_of` over `volume`: what stays true.
use Rattle.std.proofs.Common.{◌≡◌, take}
use Rattle.std.specs.Prelude.{flat_map}
use Rattle.vx_config.specs.Checks.{volume_runs}
use Rattle.vx_layout.proofs.used.runs_of.Given as goal

abbrev pub invariant-loop-volume : goal.invariant-loop-volume
invariant-loop-volume l = l.used.items ≡ flat_map volume_runs (take l.volume-index l.volume-items)
