-- The loop of `lay` over `one`: what stays true, and what falls.
use Rattle.std.proofs.Common.{length}
use Rattle.vx_burst_threads.proofs.Layings.{Laying}
use Rattle.vx_burst_threads.proofs.laying.lay.Given as goal

abbrev pub invariant-loop-one : goal.invariant-loop-one
invariant-loop-one l = Laying l.fn.made.items l.made.items l.fn.answers l.answers

abbrev pub decreases-loop-one : goal.decreases-loop-one
decreases-loop-one l = length l.made.items
