-- A group that is found: the note of its site, or why none is.
use Rattle.vx_untold.specs.Shades.{shade_rack}
use Rattle.vx_grouped.proofs.FindLemmas.{find_stops, found_up}
use Rattle.vx_grouped.proofs.finding.find_group.Goals as goal

pub returns-in-Ok-clause-found : goal.returns-in-Ok-clause-found
returns-in-Ok-clause-found g c = λ n can.
    let is_rack = (g.met.R.Rack g.world.𝓛 g.world.𝓜 g.world.𝓡 ((λ s x. x), (λ x. x), (λ x. x), λ x. x)).rack in
    found_up c.args.site n (g.R.Shelf.meaning c.args.rack) can c.in-Ok.laid (is_rack c.args.rack) (shade_rack g.R.Shelf.meaning is_rack c.in-Ok.laid.shelf) c.spelled.ensures c.in-Ok.ensures.since c.in-Ok.ensures.leaves c.in-Ok.ensures.maps.0 c.in-Ok.ensures.maps.1 (Unit {0})

pub returns-in-Err-clause-stops : goal.returns-in-Err-clause-stops
returns-in-Err-clause-stops g c = λ n can.
    let is_rack = (g.met.R.Rack g.world.𝓛 g.world.𝓜 g.world.𝓡 ((λ s x. x), (λ x. x), (λ x. x), λ x. x)).rack in
    find_stops n (g.R.Shelf.meaning c.args.rack) (g.R.Shelf.meaning c.in-Err.rack) c.in-Err.stop (is_rack c.args.rack) (is_rack c.in-Err.rack) can c.in-Err.ensures.since c.in-Err.ensures.stops
