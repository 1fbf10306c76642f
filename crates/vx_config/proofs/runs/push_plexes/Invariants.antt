-- The loop of `push_plexes` over `plex`: what stays true.
use Rattle.std.proofs.Common.{◌≡◌, ◌++◌, take}
use Rattle.std.specs.Prelude.{flat_map}
use Rattle.vx_config.specs.Checks.{plex_runs}
use Rattle.vx_config.proofs.runs.push_plexes.Given as goal

abbrev pub invariant-loop-plex : goal.invariant-loop-plex
invariant-loop-plex l = l.runs.items ≡ l.fn.runs.items ++ flat_map plex_runs (take l.plex-index l.plexes)
