-- `fuse_lines`: its result.
use Rattle.vx_order.proofs.KindLemmas.{fuse_lines_are}
use Rattle.vx_order.proofs.laws.fuse_lines.Goals as goal

pub returns : goal.returns
returns c = fuse_lines_are
