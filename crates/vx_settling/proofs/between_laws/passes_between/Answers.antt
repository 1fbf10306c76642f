-- Each clause is its theorem.
use Rattle.vx_settling.proofs.Moving.{applies, begins, connects, delivers, keeps_other, may_move, passes_then, pumps, pumps_other, sent_since, still_fused, still_may, takes_other, ticks}
use Rattle.vx_settling.proofs.Named.{between_two, moved_names}
use Rattle.vx_settling.proofs.between_laws.passes_between.Goals as goal

pub returns : goal.returns
returns c = record {
  may = may_move;
  begins = λ p s d may. begins p s d may;
  connect = λ p s d may. connects p s d may;
  tick = λ p s d may. ticks p s d may;
  pump = λ p s d may. pumps p s d may;
  pump_other = λ p s d may. pumps_other p s d may;
  apply = λ p s d may. applies p s d may;
  deliver = λ p s d may. delivers p s d may;
  take_other = λ p s d may. takes_other p s d may;
  keep_other = λ p s d may. keeps_other p s d may;
  several = passes_then;
  still = λ p s d e moves. still_may p s d e moves;
  fuses = λ p s d e moves. still_fused p s d e moves;
  ways = between_two;
  names = moved_names;
  since = λ p s d e moves. sent_since p s d e moves;
}
