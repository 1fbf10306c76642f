-- `revive`: clause can.
use Rattle.vx_group.proofs.FallenLemmas.{alike_can}
use Rattle.vx_group.proofs.crashing.revive.Goals as goal

pub returns-clause-can : goal.returns-clause-can
returns-clause-can g c = alike_can (g.R.Shelf.meaning c.args.rack.now) (g.R.Shelf.meaning c.revive.new.self) c.revive.ensures.alike
