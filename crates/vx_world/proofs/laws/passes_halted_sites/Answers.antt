-- Each clause is its theorem.
use Rattle.vx_world.proofs.Doubting.{happened_good}
use Rattle.vx_world.proofs.Lining.{halved_all, crashed_all}
use Rattle.vx_world.proofs.laws.passes_halted_sites.Goals as goal

pub returns : goal.returns
returns c = record { done = happened_good; halts = halved_all; crashes = crashed_all }
