-- `status_lines`: its result.
use Rattle.vx_order.proofs.KindLemmas.{status_lines_are}
use Rattle.vx_order.proofs.laws.status_lines.Goals as goal

pub returns : goal.returns
returns c = status_lines_are
