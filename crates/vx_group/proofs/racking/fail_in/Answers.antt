-- `fail_in`: clauses stands, volumes and still.
use Rattle.vx_disk.specs.Shelf.{Nothing}
use Rattle.vx_disk.proofs.Alikes.{alike_Goes}
use Rattle.vx_group.specs.Holding.{wide}
use Rattle.vx_group.specs.Stands.{inner_meaning}
use Rattle.vx_group.proofs.LessLemmas.{alike_Stands, alike_volumes}
use Rattle.vx_group.proofs.racking.fail_in.Goals as goal

pub returns-clause-stands : goal.returns-clause-stands
returns-clause-stands g c =
    let lawful = (g.met.R.Shelf g.world.𝓛 g.world.𝓜 g.world.𝓡 ((λ s x. x), (λ x. x), (λ x. x), λ x. x)).lawful in
    alike_Stands c.args.core.now (g.R.Shelf.meaning c.args.rack.now) (g.R.Shelf.meaning c.fail.new.self) (lawful c.args.rack.now) (lawful c.fail.new.self) c.fail.ensures.alike c.requires.stands

pub returns-clause-volumes : goal.returns-clause-volumes
returns-clause-volumes g c = alike_volumes (wide c.args.core.now) (g.R.Shelf.meaning c.args.rack.now) (g.R.Shelf.meaning c.fail.new.self) c.fail.ensures.alike

pub returns-clause-still : goal.returns-clause-still
returns-clause-still g c =
    alike_Goes Nothing (inner_meaning (wide c.args.core.now) (g.R.Shelf.meaning c.args.rack.now)) (inner_meaning (wide c.args.core.now) (g.R.Shelf.meaning c.fail.new.self))
    (alike_volumes (wide c.args.core.now) (g.R.Shelf.meaning c.args.rack.now) (g.R.Shelf.meaning c.fail.new.self) c.fail.ensures.alike) c.fail.ensures.down c.fail.ensures.armed
