-- The loop of `stale_set` over `plex`: what stays true.
use Rattle.std.proofs.Common.{◌≡◌, ℕ, ◌<◌, length}
use Rattle.vx_volume.specs.Steps.{in_set}
use Rattle.vx_logs.specs.Held.{stale}
use Rattle.vx_logs.proofs.sets.stale_set.Given as goal

abbrev pub invariant-loop-plex : goal.invariant-loop-plex
invariant-loop-plex l = ((p : ℕ) → p < l.plex → in_set l.flags p ≡ stale l.config l.vol p) × (length l.flags ≡ 8)
