-- `low`: clause run.
use Rattle.std.proofs.Common.{◌≤◌, subst}
use Rattle.vx_srl.specs.Views.{Log}
use Rattle.vx_srl.proofs.LogLists.{run_few}
use Rattle.vx_srl.proofs.log.Srl.low.Goals as goal

pub returns-clause-run : goal.returns-clause-run
returns-clause-run c = subst (λ (l : Log). l.header.run ≤ l.header.stamp) c.self.view_is (run_few c.self.inside.ring c.self.inside.header c.self.invariant.ordered.of_ring)
