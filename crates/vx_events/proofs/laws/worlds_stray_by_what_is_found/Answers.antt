-- Each clause is a theorem over what is told.
use Rattle.std.specs.Prelude.{IsTrue}
use Rattle.vx_events.proofs.StrayFinds.{step_apart, step_known, step_plain}
use Rattle.vx_events.proofs.StrayLines.{full_short_strays, step_calm}
use Rattle.vx_events.proofs.laws.worlds_stray_by_what_is_found.Goals as goal

pub returns : goal.returns
returns c = record {
  calm = λ tells files d line fails said new step calm. step_calm (IsTrue tells) files d line fails said new step calm;
  groups = λ tells files d line fails said new none step. step_apart (IsTrue tells) files d line fails said new step none;
  plain = λ tells files d line fails said new none plain step. step_plain (IsTrue tells) files d line fails said new step none plain;
  known = λ files d line fails said new known agree step. step_known (Unit {0}) files d line fails said new step tt known agree;
  short = λ tells d line new short. full_short_strays (IsTrue tells) d line new short;
}
