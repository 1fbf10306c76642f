-- Whether all is stored.
use Rattle.std.proofs.Common.{arith}
use Rattle.std.proofs.lemmas.Bool.Decides.{nat_tests}
use Rattle.vx_node.proofs.settled.is_settled.Goals as goal

pub returns : goal.returns
returns g c = λ is d first second serves.
    let shown = c.in-Some.ensures d first second serves in
    grind (arith, nat_tests, is, shown.0)
