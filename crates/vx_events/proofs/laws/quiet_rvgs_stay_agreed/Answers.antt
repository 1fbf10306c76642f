-- By what a line notes of such a group.
use Rattle.vx_events.proofs.RvgQuiet.{over_agrees}
use Rattle.vx_events.proofs.laws.quiet_rvgs_stay_agreed.Goals as goal

pub returns : goal.returns
returns c = record {
  over = λ d line s fails said new none dry bright a ends. over_agrees (Unit {0}) tt d s fails said new none dry bright a line ends;
}
