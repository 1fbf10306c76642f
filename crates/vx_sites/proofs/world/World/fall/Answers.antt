-- `fall`: its result.
use Rattle.std.proofs.Common.{refl}
use Rattle.vx_history.specs.World.{Node}
use Rattle.vx_history.specs.Steps.{fallen_site}
use Rattle.vx_model.specs.declared.site.SiteState.TheVariants.{Down}
use Rattle.vx_sites.specs.Shapes.{world_of}
use Rattle.vx_sites.proofs.Worlds.{node_changed}
use Rattle.vx_sites.proofs.world.World.fall.Goals as goal

pub returns : goal.returns
returns c =
    node_changed (world_of c.args.self.now) c.args.self.now.nodes.items c.args.site c.index_mut-node.result.now
    (record c.index_mut-node.result.now { state = Down; fed_by = c.index_mut-node.result.now.other })
    (λ (n : Node). fallen_site n) refl refl c.requires c.index_mut-node.ensures.value
    refl
