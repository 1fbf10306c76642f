-- Each way in which a line ends, as events.
use Rattle.vx_events.proofs.RvgEvents.{step_stops}
use Rattle.vx_events.proofs.laws.full_lines_are_events.Goals as goal

pub returns : goal.returns
returns c files d line fails said new calm step = step_stops (Unit {0}) tt files d fails said new line calm step
