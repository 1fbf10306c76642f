-- Each clause is its theorem.
use Rattle.vx_settling.proofs.Running.{are_all, are_parts, event_stays, no_fails, run_is, run_stays, runs_only, stays_fused, stays_may}
use Rattle.vx_settling.proofs.left_laws.settling_keeps.Goals as goal

pub returns : goal.returns
returns c = record {
  all = are_all;
  parts = are_parts;
  event = event_stays;
  events = run_stays;
  may = stays_may;
  fuses = stays_fused;
  fails = no_fails;
  world = run_is;
  only = runs_only;
}
