-- The loop of `first_inside` over `place`: what stays true.
use Rattle.vx_group.specs.Resumes.{takes_in}
use Rattle.vx_group.proofs.PlanLemmas.{NoneBelow}
use Rattle.vx_group.proofs.planning.first_inside.Given as goal

abbrev pub invariant-loop-place : goal.invariant-loop-place
invariant-loop-place l = NoneBelow (takes_in l.good) l.plexes l.place
