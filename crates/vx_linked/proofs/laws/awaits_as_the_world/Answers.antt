-- `awaits_as_the_world`: its result.
use Rattle.vx_linked.proofs.LeastHolds.{awaits_same}
use Rattle.vx_linked.proofs.laws.awaits_as_the_world.Goals as goal

pub returns : goal.returns
returns c = awaits_same
