-- The loop of `has_same_sizes` over `place`: what stays true.
use Rattle.std.proofs.Common.{◌≡◌, ◌<◌, ℕ, true}
use Rattle.std.specs.Prelude.{slice_get}
use Rattle.vx_order.specs.Joining.{data_sizes, same_size}
use Rattle.vx_order.proofs.joining.has_same_sizes.Given as goal

abbrev pub invariant-loop-place : goal.invariant-loop-place
invariant-loop-place g = (k : ℕ) → k < g.place → same_size (slice_get (data_sizes g.first) k) (slice_get (data_sizes g.second) k) ≡ true
