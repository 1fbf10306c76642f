-- The loop of `first_line` over `k`: what stays true.
use Rattle.vx_node.proofs.SentText.{GoesOn}
use Rattle.vx_node.proofs.sent.first_line.Given as goal

abbrev pub invariant-loop-k : goal.invariant-loop-k
invariant-loop-k l = GoesOn l.text l.k
