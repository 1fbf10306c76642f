-- Each clause is part of its theorem.
use Rattle.vx_effects.proofs.Fitting.{fit_happened, fit_run, fit_runs}
use Rattle.vx_effects.proofs.Finding.{fit_finds}
use Rattle.vx_effects.proofs.Leaving.{fit_crashed_as, fit_empty, fit_found, fit_halved, fit_left, fit_links_left}
use Rattle.vx_effects.proofs.laws.links_stay_fit.Goals as goal

pub returns : goal.returns
returns c = record {
  empty = fit_empty;
  happened = fit_happened;
  run = fit_run;
  runs = fit_runs;
  halved = fit_halved;
  crashed = fit_crashed_as;
  left = fit_left;
  found = fit_found;
  finds = fit_finds;
  links_left = fit_links_left;
}
