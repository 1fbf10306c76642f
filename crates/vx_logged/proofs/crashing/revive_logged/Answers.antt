-- Disks that are up again.
use Rattle.vx_logged.proofs.TellLemmas.{less_tells}
use Rattle.vx_logged.proofs.crashing.revive_logged.Goals as goal

pub returns-clause-tells : goal.returns-clause-tells
returns-clause-tells g c = λ v tells.
    let alike = c.revive.ensures.alike.contents in
    less_tells v (g.R.Shelf.meaning c.args.rack.now) (g.R.Shelf.meaning c.revive.new.rack) alike.units alike.size alike.leaves tells
