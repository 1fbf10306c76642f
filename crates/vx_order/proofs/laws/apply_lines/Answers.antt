-- `apply_lines`: its result.
use Rattle.vx_order.proofs.KindLemmas.{apply_lines_are}
use Rattle.vx_order.proofs.laws.apply_lines.Goals as goal

pub returns : goal.returns
returns c = apply_lines_are
