-- `connect`: its result.
use Rattle.std.proofs.Common.{◌∙◌, ap}
use Rattle.vx_history.specs.World.{World}
use Rattle.vx_history.specs.Refusals.{says}
use Rattle.vx_history.specs.declared.event.Said.TheVariants.{Done}
use Rattle.vx_sites.specs.Shapes.{world_of}
use Rattle.vx_world.proofs.Exchanges.{connected}
use Rattle.vx_world.proofs.greetings.connect.Goals as goal

pub returns : goal.returns
returns c =
    let w : World = world_of c.args.world.now in
    ap (λ (v : World). says v Done)
    (connected w (world_of c.move_link.new.world)
    (world_of c.greet_back.new.world) c.args.from c.args.to c.in_ok-move_link.ensures.moved c.in_ok-greet_back.ensures)
    ∙ c.in_default.ensures.refuses _
