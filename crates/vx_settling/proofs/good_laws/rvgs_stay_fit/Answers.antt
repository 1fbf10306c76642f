-- Each clause is its theorem.
use Rattle.std.specs.Prelude.{IsTrue}
use Rattle.vx_events.proofs.RvgEvents.{step_stops}
use Rattle.vx_settling.proofs.RvgRooms.{finds_gained, over_fits, stops_room}
use Rattle.vx_settling.proofs.good_laws.rvgs_stay_fit.Goals as goal

pub returns : goal.returns
returns c = record {
  rooms = λ files d line fails said new good alike calm step. stops_room d new good alike (step_stops (Unit {0}) tt files d fails said new line calm step);
  over = λ tells d line s fails said new good alike made over opens ends fits still. over_fits (IsTrue tells) d good alike line fails said new s made over opens ends fits still;
  found = λ tells d line s fails said new none finds. finds_gained (IsTrue tells) d line s fails said new none finds;
}
