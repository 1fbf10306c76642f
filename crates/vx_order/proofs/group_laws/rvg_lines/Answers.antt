-- `rvg_lines`: its result.
use Rattle.vx_order.proofs.GroupLemmas.{rvg_lines_are}
use Rattle.vx_order.proofs.group_laws.rvg_lines.Goals as goal

pub returns : goal.returns
returns c = rvg_lines_are
