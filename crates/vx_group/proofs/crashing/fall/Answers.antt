-- `fall`: clause can.
use Rattle.vx_group.proofs.AgainLemmas.{fall_can}
use Rattle.vx_group.proofs.crashing.fall.Goals as goal

pub returns-clause-can : goal.returns-clause-can
returns-clause-can g c =
    let lawful = (g.met.R.Shelf g.world.𝓛 g.world.𝓜 g.world.𝓡 ((λ s x. x), (λ x. x), (λ x. x), λ x. x)).lawful in
    let is_rack = (g.met.R.Rack g.world.𝓛 g.world.𝓜 g.world.𝓡 ((λ s x. x), (λ x. x), (λ x. x), λ x. x)).rack in
    fall_can (g.R.Shelf.meaning c.args.rack.now) (g.R.Shelf.meaning c.crash.new.self) (lawful c.crash.new.self) (is_rack c.crash.new.self) c.crash.ensures.stopped
