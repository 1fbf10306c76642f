-- `disk_lines`: its result.
use Rattle.vx_order.proofs.KindLemmas.{disk_lines_are}
use Rattle.vx_order.proofs.laws.disk_lines.Goals as goal

pub returns : goal.returns
returns c = disk_lines_are
