-- Each clause is part of its theorem.
use Rattle.vx_history.specs.World.{empty_world}
use Rattle.vx_world.proofs.Whole.{empty_good, step_good, run_good}
use Rattle.vx_world.proofs.laws.stays_good.Goals as goal

pub returns : goal.returns
returns c = record {
  empty = empty_good;
  step = step_good;
  run = run_good;
  always = λ events. run_good empty_world events empty_good;
}
