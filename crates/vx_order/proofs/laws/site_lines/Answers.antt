-- `site_lines`: its result.
use Rattle.vx_order.proofs.KindLemmas.{site_lines_are}
use Rattle.vx_order.proofs.laws.site_lines.Goals as goal

pub returns : goal.returns
returns c = site_lines_are
