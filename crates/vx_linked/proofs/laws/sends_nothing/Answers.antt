-- `sends_nothing`: its result.
use Rattle.vx_linked.proofs.Leaving.{connect_sends, cut_sends, pause_sends, pump_sends, resume_sends, tick_sends, wait_sends}
use Rattle.vx_linked.proofs.laws.sends_nothing.Goals as goal

pub returns : goal.returns
returns c = record { connect = connect_sends; cut = cut_sends; pause = pause_sends; pump = pump_sends; resume = resume_sends; tick = tick_sends; wait = wait_sends }
