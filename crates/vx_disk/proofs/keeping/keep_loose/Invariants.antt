-- The loop of `keep_loose` over `b`: what stays true.
use Rattle.std.proofs.Common.{◌≡◌, ◌≤◌, ℕ, ◌<◌, cond, get_or, false}
use Rattle.vx_disk.specs.Blocks.{block_at}
use Rattle.vx_disk.proofs.keeping.keep_loose.Given as goal

abbrev pub invariant-loop-b : goal.invariant-loop-b
invariant-loop-b l = record {
  done : (k : ℕ) → k < l.b → block_at l.stable k ≡ cond (get_or l.loose k false) (block_at l.latest k) (block_at l.initial.stable k);
  rest : (k : ℕ) → l.b ≤ k → block_at l.stable k ≡ block_at l.initial.stable k;
}
