-- Each clause is its theorem.
use Rattle.vx_events.proofs.RvgEnding.{short_stops}
use Rattle.vx_settling.proofs.RvgRooms.{stops_room}
use Rattle.vx_settling.proofs.Shorts.{short_bright, short_fits, short_good}
use Rattle.vx_settling.proofs.short_laws.rvg_shorts_stay_good.Goals as goal

pub returns : goal.returns
returns c = record {
  good = λ d line s new good short. short_good (Unit {0}) d line s new good short;
  rooms = λ d line s new good alike short. stops_room d new good alike (short_stops (Unit {0}) d line s new short);
  known = λ d line s new b agree short. short_bright (Unit {0}) tt d line s new b agree short;
  fits = λ d line s new good alike made over short fits. short_fits (Unit {0}) d line s new good alike made over short fits;
}
