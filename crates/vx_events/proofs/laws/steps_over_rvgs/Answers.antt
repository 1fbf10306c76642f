-- Each clause is part of its theorem.
use Rattle.std.specs.Prelude.{IsTrue}
use Rattle.vx_events.proofs.RvgFull.{full_over, over_full}
use Rattle.vx_events.proofs.laws.steps_over_rvgs.Goals as goal

pub returns : goal.returns
returns c = record {
  full = λ tells files d line fails said new none makes found step. full_over (IsTrue tells) files d none fails said new line makes found step;
  over = λ tells files d line fails said new none makes plain step. over_full (IsTrue tells) files d none fails said new line makes plain step;
}
