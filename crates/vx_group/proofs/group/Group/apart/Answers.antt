-- `apart`: clause can.
use Rattle.vx_group.specs.Holding.{wide}
use Rattle.vx_group.proofs.CrashLemmas.{rest_can}
use Rattle.vx_group.proofs.group.Group.apart.Goals as goal

pub returns-clause-can : goal.returns-clause-can
returns-clause-can g c = λ rest agreed. rest_can (wide c.args.self.core) (g.S.Shelf.meaning c.args.self.shelf) c.args.self.stands.stands rest agreed
