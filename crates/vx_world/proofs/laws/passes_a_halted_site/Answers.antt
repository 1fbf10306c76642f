-- Each clause is part of its theorem.
use Rattle.std.proofs.Common.{sym, subst}
use Rattle.vx_history.proofs.Updates.{at_place}
use Rattle.vx_history.specs.Doubts.{resolved}
use Rattle.vx_history.specs.Step.{step}
use Rattle.vx_history.specs.Steps.{stopped_by}
use Rattle.vx_history.specs.World.{Node}
use Rattle.vx_world.specs.Twins.{GoodTwin}
use Rattle.vx_world.proofs.Crashed.{crashed_good}
use Rattle.vx_world.proofs.Halving.{half, half_good}
use Rattle.vx_world.proofs.Passed.{twin_step, good_step}
use Rattle.vx_world.proofs.Whole.{step_good}
use Rattle.vx_world.proofs.laws.passes_a_halted_site.Goals as goal

pub returns : goal.returns
returns c = record {
  step = twin_step;
  good = good_step;
  halts = λ s disk w e good up alone.
      subst (λ (n : Node). GoodTwin s (stopped_by w s disk) (resolved (stopped_by w s disk) s (record { node = n; row = (step w e).world.links s })))
      (sym (at_place (step w e).world.nodes s (half ((step w e).world.nodes s) disk)))
      (half_good s disk w (step w e).world good (step_good w e good) up alone);
  crashes = crashed_good;
}
