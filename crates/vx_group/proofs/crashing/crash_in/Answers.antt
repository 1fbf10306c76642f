-- `crash_in`: clauses stands, volumes and can.
use Rattle.vx_group.specs.Holding.{wide}
use Rattle.vx_group.proofs.FallenLemmas.{fallen_Stands, fallen_can, fallen_volumes}
use Rattle.vx_group.proofs.crashing.crash_in.Goals as goal

pub returns-clause-stands : goal.returns-clause-stands
returns-clause-stands g c =
    let lawful = (g.met.R.Shelf g.world.𝓛 g.world.𝓜 g.world.𝓡 ((λ s x. x), (λ x. x), (λ x. x), λ x. x)).lawful in
    fallen_Stands (wide c.args.core.now) (g.R.Shelf.meaning c.args.rack.now) (g.R.Shelf.meaning c.crash.new.self) c.requires.stands (lawful c.args.rack.now) (lawful c.crash.new.self) c.crash.ensures.stopped

pub returns-clause-volumes : goal.returns-clause-volumes
returns-clause-volumes g c =
    let lawful = (g.met.R.Shelf g.world.𝓛 g.world.𝓜 g.world.𝓡 ((λ s x. x), (λ x. x), (λ x. x), λ x. x)).lawful in
    fallen_volumes (wide c.args.core.now) (g.R.Shelf.meaning c.args.rack.now) (g.R.Shelf.meaning c.crash.new.self) c.requires.stands (lawful c.args.rack.now) (lawful c.crash.new.self) c.crash.ensures.stopped

pub returns-clause-can : goal.returns-clause-can
returns-clause-can g c =
    let lawful = (g.met.R.Shelf g.world.𝓛 g.world.𝓜 g.world.𝓡 ((λ s x. x), (λ x. x), (λ x. x), λ x. x)).lawful in
    let is_rack = (g.met.R.Rack g.world.𝓛 g.world.𝓜 g.world.𝓡 ((λ s x. x), (λ x. x), (λ x. x), λ x. x)).rack in
    fallen_can (wide c.args.core.now) (g.R.Shelf.meaning c.args.rack.now) (g.R.Shelf.meaning c.crash.new.self) c.requires.stands (lawful c.args.rack.now) (lawful c.crash.new.self) c.crash.ensures.stopped (is_rack c.crash.new.self)
