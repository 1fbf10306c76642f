-- The loop of `writes` over `k`: what stays true.
use Rattle.std.proofs.Common.{◌≡◌, length}
use Rattle.vx_burst_threads.specs.Planning.{AllCalls}
use Rattle.vx_plain.proofs.plans.writes.Given as goal

abbrev pub invariant-loop-k : goal.invariant-loop-k
invariant-loop-k l = AllCalls l.plan.items × (length l.plan.items ≡ l.k)
