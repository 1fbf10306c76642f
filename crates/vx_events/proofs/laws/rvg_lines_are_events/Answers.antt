-- Each way in which the line ends, as events.
use Rattle.std.specs.Prelude.{IsTrue}
use Rattle.vx_events.proofs.RvgStopping.{rvg_stops}
use Rattle.vx_events.proofs.laws.rvg_lines_are_events.Goals as goal

pub returns : goal.returns
returns c tells d line s fails said new ends = rvg_stops (IsTrue tells) d line s fails said new ends
