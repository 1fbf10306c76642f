-- `pump_link`: its result.
use Rattle.vx_history.specs.declared.sender.SEvent.TheVariants.{Pump}
use Rattle.vx_sites.specs.Shapes.{world_of}
use Rattle.vx_world.proofs.Exchanges.{moved_and_sent}
use Rattle.vx_world.proofs.pumps.pump_link.Goals as goal

pub returns : goal.returns
returns c =
    moved_and_sent (world_of c.args.world.now) (world_of c.move_link.new.world) (world_of c.send_by.new.world) c.args.from c.args.to Pump c.in_ok-action.action
    c.in_ok-action.ensures.moved c.in_ok-action.ensures.action c.in_ok-send_by.ensures
