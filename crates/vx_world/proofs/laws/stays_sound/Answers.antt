-- Each clause is its theorem.
use Rattle.vx_history.specs.World.{empty_world}
use Rattle.vx_world.proofs.Stays.{step_keeps, run_keeps, empty_sound}
use Rattle.vx_world.proofs.laws.stays_sound.Goals as goal

pub returns : goal.returns
returns c = record {
  empty = empty_sound;
  step = step_keeps;
  run = run_keeps;
  always = λ events. run_keeps empty_world events empty_sound;
}
