-- What holds of a good world has it.
use Rattle.vx_history.proofs.Places.{all_listed}
use Rattle.vx_history.specs.Step.{run}
use Rattle.vx_history.specs.World.{empty_world}
use Rattle.vx_world.proofs.Whole.{empty_good, run_good}
use Rattle.vx_world.proofs.laws.links_are_listed.Goals as goal

pub returns : goal.returns
returns c = record {
  good = λ w good. all_listed w good.places;
  always = λ events. all_listed (run empty_world events) (run_good empty_world events empty_good).places;
}
