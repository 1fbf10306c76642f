-- The loop of `first_live` over `place`: what stays true.
use Rattle.vx_config.specs.Checks.{is_live}
use Rattle.vx_group.proofs.PlanLemmas.{NoneBelow}
use Rattle.vx_group.proofs.planning.first_live.Given as goal

abbrev pub invariant-loop-place : goal.invariant-loop-place
invariant-loop-place l = NoneBelow is_live l.plexes l.place
