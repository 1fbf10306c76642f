-- The loop of `is_stopped` over `plex`: what stays true.
use Rattle.std.proofs.Common.{◌≡◌}
use Rattle.vx_volume.specs.Plexes.{active}
use Rattle.vx_group.specs.Dets.{any_below}
use Rattle.vx_group.proofs.planning.is_stopped.Given as goal

abbrev pub invariant-loop-plex : goal.invariant-loop-plex
invariant-loop-plex l = l.any ≡ any_below (active l.config l.vol) l.plex
