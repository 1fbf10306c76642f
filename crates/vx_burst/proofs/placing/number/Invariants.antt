-- The loop of `number` over `k`: what stays true.
use Rattle.vx_burst.specs.Placing.{SpotsNumbered}
use Rattle.vx_burst.proofs.placing.number.Given as goal

abbrev pub invariant-loop-k : goal.invariant-loop-k
invariant-loop-k l = SpotsNumbered l.order l.k l.fn.answers l.answers
