-- `replays_begin`: its result.
use Rattle.vx_history.proofs.ReplayLinks.{all_marked, copy_begun, copy_read, region_read, region_sent, replays_begun, replays_read, start_begun}
use Rattle.vx_history.proofs.replay_laws.replays_begin.Goals as goal

pub returns : goal.returns
returns c = record {
  begun = replays_begun;
  copy = copy_begun;
  all = λ held n number beyond fit. all_marked held n number beyond fit;
  mode = λ held t n stored map id left head copy. start_begun held t n stored copy map id left head;
  read = replays_read;
  copy_read = λ held t head n table now. copy_read held t head table now n;
  mode_read = λ held t n stored map id left start end head. region_read held t n stored map id left start end head;
  sent = region_sent;
}
