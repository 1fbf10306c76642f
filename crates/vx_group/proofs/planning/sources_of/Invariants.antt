-- The loop of `sources_of` over `vol`: what stays true.
use Rattle.std.proofs.Common.{◌≡◌, ℕ, ◌<◌, length}
use Rattle.vx_group.specs.Resumes.{source_at, source_of}
use Rattle.vx_group.proofs.planning.sources_of.Given as goal

abbrev pub invariant-loop-vol : goal.invariant-loop-vol
invariant-loop-vol l = ((v : ℕ) → v < l.vol → source_at l.sources v ≡ source_of l.good l.config v) × (length l.sources ≡ 32)
