-- The clauses are its theorems.
use Rattle.std.proofs.Common.{◌≡◌, true}
use Rattle.vx_cli.proofs.NoOpens.{runs_calm}
use Rattle.vx_cli.proofs.Sounds.{run_calm}
use Rattle.vx_cli.proofs.laws.runs_stray_by_what_is_found.Goals as goal

pub returns : goal.returns
returns c = record {
  calm = λ told files d lines failures texts new run calm. run_calm (told ≡ true) files d lines failures texts new run calm;
  none = λ files lines failures texts new makes run. runs_calm files lines failures texts new makes run;
}
