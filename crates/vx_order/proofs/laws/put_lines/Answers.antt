-- `put_lines`: its result.
use Rattle.vx_order.proofs.KindLemmas.{put_lines_are}
use Rattle.vx_order.proofs.laws.put_lines.Goals as goal

pub returns : goal.returns
returns c = put_lines_are
