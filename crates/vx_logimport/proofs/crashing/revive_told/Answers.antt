-- `revive_told`: clause tells.
use Rattle.vx_logimport.proofs.ToldLemmas.{tells_less}
use Rattle.vx_logimport.proofs.crashing.revive_told.Goals as goal

pub returns-clause-tells : goal.returns-clause-tells
returns-clause-tells g c = λ v tells.
    let alike = c.revive.ensures.alike.contents in
    tells_less v (g.R.Shelf.meaning c.args.rack.now) (g.R.Shelf.meaning c.revive.new.rack) alike.units alike.size alike.leaves tells
