-- The loop of `is_committed` over `k`: what stays true.
use Rattle.vx_group.proofs.TrustLemmas.{GoodBelow}
use Rattle.vx_group.proofs.marking.is_committed.Given as goal

abbrev pub invariant-loop-k : goal.invariant-loop-k
invariant-loop-k l = GoodBelow l.disks l.k
