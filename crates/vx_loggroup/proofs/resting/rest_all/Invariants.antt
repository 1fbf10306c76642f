-- The loop of `rest_all` over `vol`: what stays true.
use Rattle.vx_loggroup.proofs.RestingLemmas.{RestsSoFar}
use Rattle.vx_loggroup.proofs.resting.rest_all.Given as goal

abbrev pub invariant-loop-vol : goal.invariant-loop-vol
invariant-loop-vol l = RestsSoFar l.config l.logs.items l.vol l.maps l.drls
