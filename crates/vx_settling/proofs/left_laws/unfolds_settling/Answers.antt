-- Each clause is its theorem.
use Rattle.vx_settling.proofs.Events.{gone_is}
use Rattle.vx_settling.proofs.Unfolding.{all_done, found_before, last_delivered, next_delivered, next_done, next_passed, some_before, turn_is, turns_none, turns_on, turns_over}
use Rattle.vx_settling.proofs.left_laws.unfolds_settling.Goals as goal

pub returns : goal.returns
returns c = record {
  next = next_done;
  last = all_done;
  delivered = next_delivered;
  passed = next_passed;
  all_delivered = last_delivered;
  found = found_before;
  given = some_before;
  gone = gone_is;
  turn = turn_is;
  over = turns_over;
  on = turns_on;
  none = turns_none;
}
