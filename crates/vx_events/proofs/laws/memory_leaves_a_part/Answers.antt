-- Each clause is its theorem.
use Rattle.vx_events.proofs.Parts.{whole_stays, part_stops, whole_short, told_part}
use Rattle.vx_events.proofs.laws.memory_leaves_a_part.Goals as goal

pub returns : goal.returns
returns c = record {
  none = whole_stays;
  any = part_stops;
  short = whole_short ⊥;
  told = λ d line new calm short. told_part (Unit {0}) d line new tt calm short;
}
