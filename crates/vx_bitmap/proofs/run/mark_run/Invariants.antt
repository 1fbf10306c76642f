-- The loop of `mark_run` over `r`: what stays true.
use Rattle.vx_bitmap.proofs.Marks.{MarkedTo}
use Rattle.vx_bitmap.proofs.run.mark_run.Given as goal

abbrev pub invariant-loop-r : goal.invariant-loop-r
invariant-loop-r l = MarkedTo l.start l.end l.value l.r l.initial.block l.block
