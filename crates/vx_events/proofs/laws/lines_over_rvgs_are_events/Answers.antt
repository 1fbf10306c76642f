-- Each way in which such a line ends, as events.
use Rattle.std.specs.Prelude.{IsTrue}
use Rattle.vx_events.proofs.RvgEnding.{over_rvg_stops}
use Rattle.vx_events.proofs.laws.lines_over_rvgs_are_events.Goals as goal

pub returns : goal.returns
returns c = record {
  over = λ tells d line s fails said new opens calm ends. over_rvg_stops (IsTrue tells) d s fails said new line calm opens ends;
}
