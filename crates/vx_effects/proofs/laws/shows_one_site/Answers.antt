-- Each clause is part of its theorem.
use Rattle.vx_effects.proofs.Facts.{down_is, facts_added, facts_at, half_is, halted_is, logged_is, marked_is, risen_is}
use Rattle.vx_effects.proofs.laws.shows_one_site.Goals as goal

pub returns : goal.returns
returns c = record {
  others = facts_at;
  added = facts_added;
  logged = logged_is;
  half = half_is;
  halted = halted_is;
  applied = marked_is;
  down = down_is;
  risen = risen_is;
}
