-- `turn_lines`: its result.
use Rattle.vx_order.proofs.LinkLemmas.{connect_lines_are, cut_lines_are, pause_lines_are, resume_lines_are, tick_lines_are}
use Rattle.vx_order.proofs.link_laws.turn_lines.Goals as goal

pub returns : goal.returns
returns c = record { connect = connect_lines_are; cut = cut_lines_are; pause = pause_lines_are; resume = resume_lines_are; tick = tick_lines_are }
