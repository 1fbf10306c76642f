-- The loop of `keep_runs` over `k`: what stays true.
use Rattle.std.proofs.Common.{◌≡◌, ◌≤◌, ◌<◌, ℕ, get_or, false}
use Rattle.vx_disk.specs.Blocks.{block_at}
use Rattle.vx_disk.specs.Runs.{run_at, Outside}
use Rattle.vx_disk.proofs.keeping.keep_runs.Given as goal

abbrev pub invariant-loop-k : goal.invariant-loop-k
invariant-loop-k l = record {
  clean : (b : ℕ) → get_or l.loose b false ≡ false → block_at l.stable b ≡ block_at l.latest b;
  left : (b : ℕ) → ((i : ℕ) → l.k ≤ i → i < l.number → Outside (run_at l.runs i) b) → get_or l.loose b false ≡ false;
}
