-- `read_lines`: its result.
use Rattle.vx_order.proofs.KindLemmas.{read_lines_are}
use Rattle.vx_order.proofs.laws.read_lines.Goals as goal

pub returns : goal.returns
returns c = read_lines_are
