-- `replays_go_on`: its result.
use Rattle.vx_history.proofs.ReplayLinks.{done_acked, region_acked, replay_ended, start_acked}
use Rattle.vx_history.proofs.replay_laws.replays_go_on.Goals as goal

pub returns : goal.returns
returns c = record {
  start = λ held t n stored map id left start end table copy whole beyond. start_acked held t n stored copy table whole beyond map id left start end;
  region = λ held t n stored map id left start end volume region table copy whole beyond. region_acked held t n stored copy table whole beyond map id left start end volume region;
  done = done_acked;
  ended = λ held t n stored map id left start end number. replay_ended held t n stored map id left start end number;
}
