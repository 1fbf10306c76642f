-- `add_site`: its result.
use Rattle.std.proofs.Common.{refl}
use Rattle.vx_sites.specs.Shapes.{world_of}
use Rattle.vx_sites.proofs.Worlds.{node_added}
use Rattle.vx_sites.proofs.world.World.add_site.Goals as goal

pub returns : goal.returns
returns c = rw c.in_ok-push.ensures.items (node_added (world_of c.args.self.now) c.args.self.now.nodes.items c.args.node refl refl)
