-- Each clause is part of its theorem.
use Rattle.vx_world.proofs.LikeSteps.{step_like, said_like, run_like}
use Rattle.vx_world.proofs.Liking.{sound_like, good_like}
use Rattle.vx_world.proofs.laws.looks_at_no_note.Goals as goal

pub returns : goal.returns
returns c = record {
  step = step_like;
  said = said_like;
  run = run_like;
  sound = λ w v s like. sound_like w v s like;
  good = good_like;
}
