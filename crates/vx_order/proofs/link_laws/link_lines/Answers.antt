-- `link_lines`: its result.
use Rattle.vx_order.proofs.LinkLemmas.{link_lines_are}
use Rattle.vx_order.proofs.link_laws.link_lines.Goals as goal

pub returns : goal.returns
returns c = link_lines_are
