-- `apply`: its result.
use Rattle.std.proofs.Common.{◌≡◌, ◌∙◌, List, take, drop, refl, ap}
use Rattle.vx_history.specs.World.{Node}
use Rattle.vx_history.specs.Events.{applied}
use Rattle.vx_model.specs.Content.{Write, fold_writes}
use Rattle.vx_sites.specs.Shapes.{world_of, node_of, content_of}
use Rattle.vx_sites.proofs.Worlds.{node_changed, applied_is}
use Rattle.vx_sites.proofs.world.World.apply.Goals as goal

pub returns : goal.returns
returns c =
    let v = c.index_mut-node.result.now in
    let kept : c.newly_kept.result.now ≡ drop v.safe (take c.args.number v.log.items) = c.newly_kept.ensures ∙ ap (λ (xs : List Write). drop v.safe (take c.args.number xs)) c.deref.ensures.value in
    node_changed (world_of c.args.self.now) c.args.self.now.nodes.items c.args.site c.index_mut-node.result.now (record c.index_mut-node.result.now { base = c.put_all.new.self; safe = c.args.number; mark = c.args.mark })
    (λ (n : Node). applied n c.args.number c.args.mark) refl refl c.requires c.index_mut-node.ensures.value
    (applied_is (node_of v) c.args.number c.args.mark (content_of c.put_all.new.self) (c.in_ok-put_all.ensures ∙ ap (λ (xs : List Write). fold_writes (content_of v.base) xs) kept))
