-- `wait_lines`: its result.
use Rattle.vx_order.proofs.LinkLemmas.{wait_lines_are}
use Rattle.vx_order.proofs.link_laws.wait_lines.Goals as goal

pub returns : goal.returns
returns c = wait_lines_are
