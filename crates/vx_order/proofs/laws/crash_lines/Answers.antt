-- `crash_lines`: its result.
use Rattle.vx_order.proofs.KindLemmas.{crash_lines_are}
use Rattle.vx_order.proofs.laws.crash_lines.Goals as goal

pub returns : goal.returns
returns c = crash_lines_are
