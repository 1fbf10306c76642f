-- The loop of `patch` over `k`: what stays true.
use Rattle.vx_rvg.proofs.PatchFacts.{IsPatchedTo}
use Rattle.vx_rvg.proofs.patch.patch.Given as goal

abbrev pub invariant-loop-k : goal.invariant-loop-k
invariant-loop-k l = IsPatchedTo l.pending.entries l.vol l.start l.k l.initial.into l.into
