-- Each clause is its theorem.
use Rattle.vx_world.proofs.Doubting.{quiet_good, world_good, twins_good}
use Rattle.vx_world.proofs.Lining.{line_good}
use Rattle.vx_world.proofs.laws.lines_stay_good.Goals as goal

pub returns : goal.returns
returns c = record { line = line_good; begins = quiet_good; world = world_good; twins = λ d s a g is. twins_good d g s a is }
