-- Every event leaves what lines hold.
use Rattle.vx_history.specs.Step.{run}
use Rattle.vx_world.proofs.Lists.{prefix_number}
use Rattle.vx_world.proofs.Grows.{run_grows}
use Rattle.vx_world.proofs.laws.forgets_nothing.Goals as goal

pub returns : goal.returns
returns c = record {
  run = run_grows;
  number = λ w events l n x s made is. prefix_number (w.lines l).held ((run w events).lines l).held n x ((run_grows w events s).held l made) is;
}
