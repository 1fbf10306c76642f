-- The site behind the event, and its configuration behind the commit; and the volumes that the line names.
use Rattle.std.specs.Prelude.{IsTrue}
use Rattle.vx_events.proofs.RvgGains.{made_fits}
use Rattle.vx_events.proofs.RvgTests.{made_noted}
use Rattle.vx_events.proofs.laws.made_rvgs_fit.Goals as goal

pub returns : goal.returns
returns c = record {
  fits = λ tells d line s fails said new config may makes done found. made_fits (IsTrue tells) d line s fails said new config may makes done found;
  noted = λ tells files d site srl maps volumes fails said new may free makes done.
      made_noted (IsTrue tells) files d site srl maps volumes fails said new may free makes done;
}
