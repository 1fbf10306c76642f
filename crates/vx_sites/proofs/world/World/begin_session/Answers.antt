-- `begin_session`: its result.
use Rattle.std.proofs.Common.{◌+◌, refl}
use Rattle.vx_history.specs.World.{Node}
use Rattle.vx_sites.specs.Shapes.{world_of}
use Rattle.vx_sites.proofs.Worlds.{node_changed}
use Rattle.vx_sites.proofs.world.World.begin_session.Goals as goal

pub returns : goal.returns
returns c =
    node_changed (world_of c.args.self.now) c.args.self.now.nodes.items c.args.site c.index_mut.result.now (record c.index_mut.result.now { session = c.index_mut.result.now.session + 1 })
    (λ (n : Node). record n { session = n.session + 1 }) refl refl c.requires.within c.index_mut.ensures.value
    refl
