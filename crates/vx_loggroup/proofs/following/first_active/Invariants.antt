-- The loop of `first_active` over `plex`: what stays true.
use Rattle.std.proofs.Common.{◌≡◌, ◌<◌, ℕ, false}
use Rattle.vx_volume.specs.Plexes.{active}
use Rattle.vx_loggroup.proofs.following.first_active.Given as goal

abbrev pub invariant-loop-plex : goal.invariant-loop-plex
invariant-loop-plex l = (q : ℕ) → q < l.plex → active l.config l.vol q ≡ false
