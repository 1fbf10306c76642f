-- `volume_lines`: its result.
use Rattle.vx_order.proofs.GroupLemmas.{volume_lines_are}
use Rattle.vx_order.proofs.group_laws.volume_lines.Goals as goal

pub returns : goal.returns
returns c = volume_lines_are
