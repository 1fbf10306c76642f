-- `pump_lines`: its result.
use Rattle.vx_order.proofs.LinkLemmas.{pump_lines_are}
use Rattle.vx_order.proofs.link_laws.pump_lines.Goals as goal

pub returns : goal.returns
returns c = pump_lines_are
