-- `recover_lines`: its result.
use Rattle.vx_order.proofs.KindLemmas.{recover_lines_are}
use Rattle.vx_order.proofs.laws.recover_lines.Goals as goal

pub returns : goal.returns
returns c = recover_lines_are
