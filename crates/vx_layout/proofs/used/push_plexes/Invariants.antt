-- The loop of `push_plexes` over `plex`: what stays true.
use Rattle.std.proofs.Common.{◌≡◌, ◌++◌, take}
use Rattle.std.specs.Prelude.{flat_map}
use Rattle.vx_config.specs.Checks.{plex_runs}
use Rattle.vx_layout.proofs.used.push_plexes.Given as goal

abbrev pub invariant-loop-plex : goal.invariant-loop-plex
invariant-loop-plex l = l.used.items ≡ l.fn.used.items ++ flat_map plex_runs (take l.plex-index l.plexes)
