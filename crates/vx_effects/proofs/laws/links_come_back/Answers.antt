-- Each clause is part of its theorem.
use Rattle.vx_effects.proofs.Restarts.{found_again, found_fits, found_kept, kept_fine, restarted_again, row_facts}
use Rattle.vx_effects.proofs.laws.links_come_back.Goals as goal

pub returns : goal.returns
returns c = record {
  fits = found_fits;
  kept = found_kept;
  found = found_again;
  fine = kept_fine;
  restarted = restarted_again;
  facts = row_facts;
}
