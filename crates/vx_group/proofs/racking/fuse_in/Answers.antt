-- `fuse_in`: clauses stands and volumes.
use Rattle.vx_group.specs.Holding.{wide}
use Rattle.vx_group.proofs.LessLemmas.{alike_Stands, alike_volumes}
use Rattle.vx_group.proofs.racking.fuse_in.Goals as goal

pub returns-clause-stands : goal.returns-clause-stands
returns-clause-stands g c =
    let lawful = (g.met.R.Shelf g.world.𝓛 g.world.𝓜 g.world.𝓡 ((λ s x. x), (λ x. x), (λ x. x), λ x. x)).lawful in
    alike_Stands c.args.core.now (g.R.Shelf.meaning c.args.rack.now) (g.R.Shelf.meaning c.fuse.new.self) (lawful c.args.rack.now) (lawful c.fuse.new.self) c.fuse.ensures.alike c.requires.stands

pub returns-clause-volumes : goal.returns-clause-volumes
returns-clause-volumes g c = alike_volumes (wide c.args.core.now) (g.R.Shelf.meaning c.args.rack.now) (g.R.Shelf.meaning c.fuse.new.self) c.fuse.ensures.alike
