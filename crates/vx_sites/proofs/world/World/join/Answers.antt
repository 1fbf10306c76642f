-- `join`: its result.
use Rattle.std.proofs.Common.{◌≡◌, ◌∙◌, refl, sym, ap}
use Rattle.vx_history.specs.World.{Node}
use Rattle.vx_history.specs.Events.{joined}
use Rattle.vx_model.specs.declared.site.Role.TheVariants.{Secondary}
use Rattle.vx_model.specs.declared.site.Mark.TheVariants.{Inconsistent}
use Rattle.vx_model.specs.declared.site.SPhase.TheVariants.{Quiet}
use Rattle.vx_sites.specs.Shapes.{world_of, node_of, content_of}
use Rattle.vx_sites.proofs.Worlds.{node_changed, node_at, joined_is}
use Rattle.vx_sites.proofs.world.World.join.Goals as goal

pub returns : goal.returns
returns c =
    let w = world_of c.args.self.now in
    let a = c.index.result.now in
    let v = c.index_mut-node.result.now in
    let primary : w.nodes c.args.primary ≡ node_of a = node_at c.args.self.now.nodes.items c.args.primary a c.requires.primary c.index.ensures in
    node_changed w c.args.self.now.nodes.items c.args.site v
    (record v { start = c.in_ok-node.field-0; role = Secondary; mark = Inconsistent; line = a.line; top = c.max-node.result; stood = c.push.new.self; phase = Quiet; replay = c.replay_on-replay.result; end = 0; other = c.args.primary; fed_by = c.args.primary; log = c.clear.new.self; safe = 0 })
    (λ (n : Node). joined (w.nodes c.args.primary) c.args.primary n) refl refl c.requires.within c.index_mut-node.ensures.value
    (joined_is (node_of a) (node_of v) c.args.primary c.max-node.result c.replay_on-replay.result c.push.new.self.items (content_of c.in_ok-node.field-0) c.clear.new.self.items
    c.max-node.ensures c.in_ok-push.ensures.items c.replay_on-replay.ensures c.in_ok-node.ensures c.clear.ensures.items
    ∙ ap (λ (n : Node). joined n c.args.primary (node_of v)) (sym primary))
