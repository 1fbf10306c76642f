-- `replays_say_so`: its result.
use Rattle.vx_history.proofs.ReplayMessages.{copied_said_begun, copied_said_entered, copied_said_more, copied_said_over, copied_said_read, region_said_begun, region_said_more, region_said_read, start_said_begun, stored_said_begun, stored_said_entered, stored_said_more, stored_said_read}
use Rattle.vx_history.proofs.replay_laws.replays_say_so.Goals as goal

pub returns : goal.returns
returns c = record {
  region_more = region_said_more;
  copied_more = copied_said_more;
  stored_more = stored_said_more;
  start_begun = start_said_begun;
  region_begun = region_said_begun;
  copied_begun = copied_said_begun;
  stored_begun = stored_said_begun;
  region_read = region_said_read;
  copied_read = copied_said_read;
  stored_read = stored_said_read;
  copied_entered = copied_said_entered;
  stored_entered = stored_said_entered;
  over = copied_said_over;
}
