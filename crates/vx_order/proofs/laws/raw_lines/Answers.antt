-- `raw_lines`: its result.
use Rattle.vx_order.proofs.KindLemmas.{raw_lines_are}
use Rattle.vx_order.proofs.laws.raw_lines.Goals as goal

pub returns : goal.returns
returns c = raw_lines_are
