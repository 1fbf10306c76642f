-- `first_of`: its result.
use Rattle.std.proofs.Common.{arith}
use Rattle.vx_group.proofs.PlanLemmas.{first_inside_is, first_live_is}
use Rattle.vx_group.proofs.planning.first_of.Goals as goal

pub returns-then-inside-plexes : goal.returns-then-inside-plexes
returns-then-inside-plexes c = first_inside_is c.args.good c.args.plexes.now c.first_inside-inside.result c.first_inside-inside.ensures c.if-inside-plexes.true

pub returns : goal.returns
returns c = first_live_is c.args.good c.args.plexes.now c.first_inside-inside.result c.first_live.result c.first_inside-inside.ensures (λ lt. omega (arith, lt, c.if-inside-plexes.false)) c.first_live.ensures
