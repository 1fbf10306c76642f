-- The loop of `left_by_plexes` over `plex`: what stays true.
use Rattle.std.proofs.Common.{◌≡◌, ◌+◌, take}
use Rattle.std.specs.Prelude.{sum_by}
use Rattle.vx_config.specs.Configs.{plex_subdisks}
use Rattle.vx_config.proofs.shape.left_by_plexes.Given as goal

abbrev pub invariant-loop-plex : goal.invariant-loop-plex
invariant-loop-plex l = l.left + sum_by plex_subdisks (take l.plex-index l.plexes) ≡ l.room
