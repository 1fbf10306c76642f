-- `replays_copy`: its result.
use Rattle.vx_history.proofs.Replaying.{beyond_part, copy_part, mode_part, some_part}
use Rattle.vx_history.proofs.replay_laws.replays_copy.Goals as goal

pub returns : goal.returns
returns c = record {
  copy = copy_part;
  some = some_part;
  beyond = beyond_part;
  mode = mode_part;
}
