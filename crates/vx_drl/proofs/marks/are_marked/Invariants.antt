-- The loop of `are_marked` over `region`: what stays true.
use Rattle.vx_drl.proofs.Keeping.{MarkedTo}
use Rattle.vx_drl.proofs.marks.are_marked.Given as goal

abbrev pub invariant-loop-region : goal.invariant-loop-region
invariant-loop-region l = MarkedTo l.first l.region l.map.bytes
