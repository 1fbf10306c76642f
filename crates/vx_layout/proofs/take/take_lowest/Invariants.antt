-- The loop of `take_lowest` over `left`: what stays true, and what falls.
use Rattle.vx_layout.specs.Reaches.{Taking}
use Rattle.vx_layout.proofs.take.take_lowest.Given as goal

abbrev pub invariant-loop-left : goal.invariant-loop-left
invariant-loop-left l = Taking l.used l.disk l.end l.wanted l.block l.left l.fn.found.items l.found.items

abbrev pub decreases-loop-left : goal.decreases-loop-left
decreases-loop-left l = l.left
