-- The line is an end of events, from a world on that differs in notes alone.
use Rattle.vx_events.proofs.RvgEvents.{step_stops}
use Rattle.vx_world.proofs.Doubting.{like_good}
use Rattle.vx_world.proofs.Lining.{line_good}
use Rattle.vx_settling.proofs.good_laws.full_lines_stay_good.Goals as goal

pub returns : goal.returns
returns c files d line fails said new good calm step =
    let x = step_stops (Unit {0}) tt files d fails said new line calm step in
    line_good x.before new x.events x.ending (like_good d x.before good x.like) x.stops
