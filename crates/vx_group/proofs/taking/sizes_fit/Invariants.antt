-- The loop of `sizes_fit` over `vol`: what stays true.
use Rattle.std.proofs.Common.{ℕ, ◌<◌, ◌^◌}
use Rattle.vx_config.specs.Checks.{blocks_of}
use Rattle.vx_group.proofs.taking.sizes_fit.Given as goal

abbrev pub invariant-loop-vol : goal.invariant-loop-vol
invariant-loop-vol l = (v : ℕ) → v < l.vol → blocks_of l.config.volumes v < 2 ^ 64
