-- `show_lines`: its result.
use Rattle.vx_order.proofs.KindLemmas.{show_lines_are}
use Rattle.vx_order.proofs.laws.show_lines.Goals as goal

pub returns : goal.returns
returns c = show_lines_are
