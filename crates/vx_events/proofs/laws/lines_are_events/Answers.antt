-- The clause is its theorem.
use Rattle.vx_events.proofs.Stopping.{line_stops}
use Rattle.vx_events.proofs.laws.lines_are_events.Goals as goal

pub returns : goal.returns
returns c = λ d files line fails said new calm apart step. line_stops (Unit {0}) tt d calm files line fails said new apart step
