-- `replays_are_answered`: its result.
use Rattle.vx_history.proofs.ReplayMessages.{copied_said_closed, copied_said_part, done_answered, region_answered, start_answered, stored_said_closed, stored_said_part}
use Rattle.vx_history.proofs.replay_laws.replays_are_answered.Goals as goal

pub returns : goal.returns
returns c = record {
  start = start_answered;
  region = region_answered;
  copied = copied_said_part;
  stored = stored_said_part;
  done = done_answered;
  copied_closed = copied_said_closed;
  stored_closed = stored_said_closed;
}
