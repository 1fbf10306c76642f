-- The loop of `doubt_all` over `vol`: what stays true.
use Rattle.vx_loggroup.proofs.DoubtLemmas.{DoubtsSoFar}
use Rattle.vx_loggroup.proofs.doubting.doubt_all.Given as goal

abbrev pub invariant-loop-vol : goal.invariant-loop-vol
invariant-loop-vol l = DoubtsSoFar l.alike l.fn.unsure l.vol l.unsure
