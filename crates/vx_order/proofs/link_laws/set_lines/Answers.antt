-- `set_lines`: its result.
use Rattle.vx_order.proofs.LinkLemmas.{set_lines_are}
use Rattle.vx_order.proofs.link_laws.set_lines.Goals as goal

pub returns : goal.returns
returns c = set_lines_are
