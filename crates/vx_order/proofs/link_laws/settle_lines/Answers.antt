-- `settle_lines`: its result.
use Rattle.vx_order.proofs.LinkLemmas.{settle_lines_are}
use Rattle.vx_order.proofs.link_laws.settle_lines.Goals as goal

pub returns : goal.returns
returns c = settle_lines_are
