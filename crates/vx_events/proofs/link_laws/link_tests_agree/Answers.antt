-- Each clause is its theorem.
use Rattle.vx_events.proofs.LinkAgreeing.{set_agrees, connect_agrees, cut_agrees, pause_agrees, resume_agrees, tick_agrees, pump_agrees, packet_agrees}
use Rattle.vx_events.proofs.LinkJoining.{join_agrees}
use Rattle.vx_events.proofs.LinkSettling.{may_settle, settle_agrees}
use Rattle.vx_events.proofs.LinkWaiting.{wait_agrees}
use Rattle.vx_events.proofs.link_laws.link_tests_agree.Goals as goal

pub returns : goal.returns
returns c = record {
  set = set_agrees;
  connect = connect_agrees;
  cut = cut_agrees;
  pause = pause_agrees;
  resume = resume_agrees;
  tick = tick_agrees;
  pump = pump_agrees;
  link = join_agrees;
  wait = wait_agrees;
  deliver = packet_agrees;
  settle = settle_agrees;
  settles = may_settle;
}
