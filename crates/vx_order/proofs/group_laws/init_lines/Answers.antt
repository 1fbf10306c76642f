-- `init_lines`: its result.
use Rattle.vx_order.proofs.GroupLemmas.{init_lines_are}
use Rattle.vx_order.proofs.group_laws.init_lines.Goals as goal

pub returns : goal.returns
returns c = init_lines_are
