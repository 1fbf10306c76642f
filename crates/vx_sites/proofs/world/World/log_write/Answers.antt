-- `log_write`: its result.
use Rattle.std.proofs.Common.{◌∙◌, ◌+◌, refl}
use Rattle.vx_history.specs.World.{Node}
use Rattle.vx_history.specs.Steps.{logged}
use Rattle.vx_sites.specs.Shapes.{world_of, node_of, content_of, lines_of}
use Rattle.vx_sites.proofs.Worlds.{node_changed, node_at, logged_is, written_is}
use Rattle.vx_sites.proofs.world.World.log_write.Goals as goal

pub returns : goal.returns
returns c =
    let w = world_of c.args.self.now in
    let v = c.index_mut-node.result.now in
    let lines = lines_of c.tell_write.new.lines.items in
    node_changed (record w { lines = lines }) c.args.self.now.nodes.items c.args.site v (record v { base = c.put.new.self; log = c.push.new.self; safe = v.safe + 1 })
    (λ (n : Node). logged n c.args.write) refl refl c.requires.within c.index_mut-node.ensures.value
    (logged_is (node_of v) c.args.write (content_of c.put.new.self) c.push.new.self.items c.in_ok-put.ensures c.in_ok-push.ensures.items)
    ∙ written_is w c.args.site c.args.write (node_of v) lines (node_at c.args.self.now.nodes.items c.args.site v c.requires.within c.index_mut-node.ensures.value) c.in_ok-tell_write.ensures
