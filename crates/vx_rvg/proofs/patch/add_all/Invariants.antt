-- The loop of `add_all` over `k`: what stays true.
use Rattle.std.proofs.Common.{◌≡◌, ◌++◌}
use Rattle.vx_overlay.specs.Writes.{entries_at}
use Rattle.vx_rvg.proofs.patch.add_all.Given as goal

abbrev pub invariant-loop-k : goal.invariant-loop-k
invariant-loop-k l = (l.pending.entries ≡ l.initial.pending.entries ++ entries_at l.vol l.start l.k l.bytes) × (l.pending.capacity ≡ l.initial.pending.capacity)
