-- `make_volume`: clause below.
use Rattle.vx_group.proofs.UnitLemmas.{beside_units}
use Rattle.vx_group.proofs.group.Group.make_volume.Goals as goal

pub returns-clause-below : goal.returns-clause-below
returns-clause-below g c = beside_units c.args.self.now.core.inner.config (g.S.Shelf.meaning c.args.self.now.shelf) (g.S.Shelf.meaning c.make_in.new.shelf) c.make_in.ensures.beside
