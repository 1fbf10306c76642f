-- Each way in which such a line ends leaves known what the disks hold.
use Rattle.vx_events.proofs.RvgKnown.{making_known, over_known}
use Rattle.vx_events.proofs.laws.known_rvgs_stay_known.Goals as goal

pub returns : goal.returns
returns c = record {
  over = λ d line s fails said new ends known free. over_known (Unit {0}) tt d s known fails said new line free ends;
  makes = λ d line s fails said new makes known. making_known (Unit {0}) d line s fails said new makes known;
}
