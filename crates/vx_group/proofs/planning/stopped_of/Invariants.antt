-- The loop of `stopped_of` over `vol`: what stays true.
use Rattle.std.proofs.Common.{◌≡◌, ℕ, ◌<◌, length}
use Rattle.vx_kept.specs.Cleans.{is_unsure}
use Rattle.vx_group.specs.Resumes.{stopped}
use Rattle.vx_group.proofs.planning.stopped_of.Given as goal

abbrev pub invariant-loop-vol : goal.invariant-loop-vol
invariant-loop-vol l = ((v : ℕ) → v < l.vol → is_unsure l.flags v ≡ stopped l.config v) × (length l.flags ≡ 32)
