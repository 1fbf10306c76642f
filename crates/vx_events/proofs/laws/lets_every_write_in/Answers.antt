-- The clause is its theorem.
use Rattle.vx_events.proofs.Steps.{lets_in}
use Rattle.vx_events.proofs.laws.lets_every_write_in.Goals as goal

pub returns : goal.returns
returns c = lets_in
