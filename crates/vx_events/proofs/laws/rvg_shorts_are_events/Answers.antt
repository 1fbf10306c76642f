-- Each of the two, as events.
use Rattle.std.specs.Prelude.{IsTrue}
use Rattle.vx_events.proofs.RvgEnding.{short_stops}
use Rattle.vx_events.proofs.laws.rvg_shorts_are_events.Goals as goal

pub returns : goal.returns
returns c tells d line s new ends = short_stops (IsTrue tells) d line s new ends
