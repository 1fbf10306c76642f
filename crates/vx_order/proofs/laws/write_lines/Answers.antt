-- `write_lines`: its result.
use Rattle.vx_order.proofs.KindLemmas.{write_lines_are}
use Rattle.vx_order.proofs.laws.write_lines.Goals as goal

pub returns : goal.returns
returns c = write_lines_are
