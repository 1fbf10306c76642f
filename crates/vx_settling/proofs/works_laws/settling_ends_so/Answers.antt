-- Each clause is its theorem.
use Rattle.std.proofs.Common.{◌≡◌, true}
use Rattle.vx_settling.proofs.Working.{is_known, line_done, line_shortened, line_stopped}
use Rattle.vx_settling.proofs.works_laws.settling_ends_so.Goals as goal

pub returns : goal.returns
returns c = record {
  done = λ t d. line_done (t ≡ true) d (is_known t d.strayed);
  stopped = λ t d. line_stopped (t ≡ true) d (is_known t d.strayed);
  short = λ t d. line_shortened (t ≡ true) d (is_known t d.strayed);
}
