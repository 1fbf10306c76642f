-- `deport_lines`: its result.
use Rattle.vx_order.proofs.GroupLemmas.{deport_lines_are}
use Rattle.vx_order.proofs.group_laws.deport_lines.Goals as goal

pub returns : goal.returns
returns c = deport_lines_are
