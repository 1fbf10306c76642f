-- Each clause is its theorem.
use Rattle.std.proofs.Common.{◌≡◌, true}
use Rattle.vx_settling.proofs.Stopping.{line_stops, part_behind, run_as_then, runs_then, settle_part, stops_behind, stops_more}
use Rattle.vx_settling.proofs.ends_laws.stops_are_ends.Goals as goal

pub returns : goal.returns
returns c = record {
  more = λ told. stops_more (told ≡ true);
  behind = λ told d m xs ys fails said last done calm fuses. stops_behind (told ≡ true) d m xs ys fails said last done calm fuses;
  line = λ told. line_stops (told ≡ true);
  runs = runs_then;
  ran = run_as_then;
  left = part_behind;
  part = settle_part;
}
