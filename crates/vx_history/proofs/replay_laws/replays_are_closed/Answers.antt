-- `replays_are_closed`: its result.
use Rattle.vx_history.proofs.Replaying.{content_closed, copy_closed, mode_closed, start_closed, stored_closed}
use Rattle.vx_history.proofs.replay_laws.replays_are_closed.Goals as goal

pub returns : goal.returns
returns c = record {
  copy = copy_closed;
  content = content_closed;
  stored = stored_closed;
  start = start_closed;
  mode = mode_closed;
}
