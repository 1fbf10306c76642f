-- `receive`: its result.
use Rattle.std.proofs.Common.{refl}
use Rattle.vx_history.specs.Events.{with_write}
use Rattle.vx_history.specs.World.{Node as PlainNode}
use Rattle.vx_sites.specs.Shapes.{world_of}
use Rattle.vx_sites.proofs.Worlds.{node_changed}
use Rattle.vx_sites.proofs.world.World.receive.Goals as goal

pub returns : goal.returns
returns c =
    node_changed (world_of c.args.self.now) c.args.self.now.nodes.items c.args.site c.index_mut-node.result.now (record c.index_mut-node.result.now { log = c.push.new.self; fed_by = c.args.source })
    (λ (n : PlainNode). with_write n c.args.source c.args.write) refl refl c.requires c.index_mut-node.ensures.value (rw c.in_ok-push.ensures.items refl)
