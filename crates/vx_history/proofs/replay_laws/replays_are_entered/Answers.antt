-- `replays_are_entered`: its result.
use Rattle.vx_history.proofs.Replaying.{copy_entered, mode_entered, stored_entered}
use Rattle.vx_history.proofs.replay_laws.replays_are_entered.Goals as goal

pub returns : goal.returns
returns c = record {
  copy = copy_entered;
  stored = stored_entered;
  mode = mode_entered;
}
