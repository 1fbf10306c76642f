-- `deport`: clauses limit, can and agreed.
use Rattle.vx_group.specs.Holding.{wide}
use Rattle.vx_group.proofs.CrashLemmas.{group_can}
use Rattle.vx_group.proofs.DeportLemmas.{full_err, full_ok}
use Rattle.vx_group.proofs.group.Group.deport.Goals as goal

pub returns-in-Ok-clause-limit : goal.returns-in-Ok-clause-limit
returns-in-Ok-clause-limit g c = λ lt. full_ok (c.in-Ok.ensures.limit lt).0

pub returns-in-Err-clause-limit : goal.returns-in-Err-clause-limit
returns-in-Err-clause-limit g c = λ lt. let l = c.in-Err.ensures.limit lt in (full_err c.in-Err.stop l.0, l.1, l.2)

pub returns-in-Ok-clause-can : goal.returns-in-Ok-clause-can
returns-in-Ok-clause-can g c = group_can (wide c.args.self.core).config c.args.self.core.inner (g.S.Shelf.meaning c.args.self.shelf) (g.S.Shelf.meaning c.deport_in.new.shelf) c.in-Ok.ensures.ends

pub returns-in-Ok-clause-agreed : goal.returns-in-Ok-clause-agreed
returns-in-Ok-clause-agreed g c = tt

pub returns-in-Err-clause-agreed : goal.returns-in-Err-clause-agreed
returns-in-Err-clause-agreed g c = c.in-Err.ensures.agreed
