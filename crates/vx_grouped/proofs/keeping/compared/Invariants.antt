-- The loop of `compared` over `block`: what stays true.
use Rattle.std.proofs.Common.{◌≡◌, ℕ, ◌<◌, ◌≤◌, Some, false, bytes_eq, length, slice_get}
use Rattle.vx_model.specs.Content.{block_of}
use Rattle.vx_grouped.proofs.keeping.compared.Given as goal

abbrev pub invariant-loop-block : goal.invariant-loop-block
invariant-loop-block l =
    ((k : ℕ) → k < l.block → slice_get l.bits k ≡ Some (bytes_eq (block_of l.fn.found k) (block_of l.fn.bytes k)))
    × ((k : ℕ) → l.block ≤ k → k < 16 → slice_get l.bits k ≡ Some false) × (length l.bits ≡ 16)
