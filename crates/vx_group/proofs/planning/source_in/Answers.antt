-- `source_in`: that no number grows too large.
use Rattle.std.proofs.Common.{ap, length, arith}
use Rattle.vx_group.proofs.PlanLemmas.{in_few}
use Rattle.vx_group.proofs.planning.source_in.Goals as goal

pub overflow_cast-result : goal.overflow_cast-result
overflow_cast-result c =
    let le = in_few c.args.good c.as_slice-in-Some.result.now in
    let same = ap length c.as_slice-in-Some.ensures.plexes in
    let few = c.as_slice-in-Some.ensures.few in
    let is = c.first_of.ensures in
    omega (arith, le, same, few, is)
