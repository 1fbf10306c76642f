-- The loop of `plexes_of` over `runs`: what stays true.
use Rattle.std.proofs.Common.{◌≡◌, take}
use Rattle.std.specs.Prelude.{map}
use Rattle.vx_layout.specs.Made.{made_plex}
use Rattle.vx_group.proofs.shaping.plexes_of.Given as goal

abbrev pub invariant-loop-runs : goal.invariant-loop-runs
invariant-loop-runs l = l.plexes ≡ map made_plex (take l.runs-index l.found)
