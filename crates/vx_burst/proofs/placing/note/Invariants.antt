-- The loop of `note` over `k`: what stays true.
use Rattle.std.proofs.Common.{◌≤◌, vec_capacity}
use Rattle.vx_burst.specs.Placing.{SpotsNoted}
use Rattle.vx_burst.proofs.placing.note.Given as goal

abbrev pub invariant-loop-k : goal.invariant-loop-k
invariant-loop-k l = SpotsNoted l.answers l.k l.order.items × (vec_capacity l.fn.order ≤ vec_capacity l.order)
