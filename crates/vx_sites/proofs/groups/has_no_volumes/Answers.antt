-- `has_no_volumes`: its result.
use Rattle.std.proofs.Common.{arith}
use Rattle.std.proofs.lemmas.Bool.Decides.{nat_tests}
use Rattle.vx_sites.proofs.Volumes.{length_called}
use Rattle.vx_sites.proofs.groups.has_no_volumes.Goals as goal

pub returns : goal.returns
returns c = rw (length_called c.args.node.now.names.items 1 c.args.node.now.volumes.items) (grind (arith, nat_tests))
