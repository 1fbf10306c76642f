-- The clause is its theorem.
use Rattle.vx_world.proofs.Comes.{comes_first}
use Rattle.vx_world.proofs.laws.comes_at_any_number.Goals as goal

pub returns : goal.returns
returns c = record { first = comes_first }
