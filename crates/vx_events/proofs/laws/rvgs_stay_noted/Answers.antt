-- Each way in which a line ends, and what it notes.
use Rattle.std.specs.Prelude.{IsTrue}
use Rattle.vx_events.proofs.RvgStays.{back_keeps, back_stays, over_stays}
use Rattle.vx_events.proofs.laws.rvgs_stay_noted.Goals as goal

pub returns : goal.returns
returns c = record {
  over = λ d line s fails said new over ends known. over_stays (Unit {0}) d s fails said new over tt line ends known;
  back = λ tells d line s fails said new over back. back_stays (IsTrue tells) d line s fails said new over back;
  found = λ tells s n fails note middle known same back. back_keeps (IsTrue tells) s n fails note middle known same back;
}
