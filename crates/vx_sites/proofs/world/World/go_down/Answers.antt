-- `go_down`: its result.
use Rattle.std.proofs.Common.{◌≡◌, ◌∙◌, List, take, drop, refl, ap, None}
use Rattle.vx_history.specs.World.{Node}
use Rattle.vx_history.specs.Steps.{crashed}
use Rattle.vx_model.specs.Content.{Write, fold_writes}
use Rattle.vx_model.specs.declared.site.SiteState.TheVariants.{Down}
use Rattle.vx_sites.specs.Shapes.{world_of, node_of, content_of}
use Rattle.vx_sites.proofs.Worlds.{node_changed, crashed_is}
use Rattle.vx_sites.proofs.world.World.go_down.Goals as goal

pub returns : goal.returns
returns c =
    let v = c.index_mut-node.result.now in
    let kept : c.newly_kept.result.now ≡ drop v.safe (take c.args.kept v.log.items) = c.newly_kept.ensures ∙ ap (λ (xs : List Write). drop v.safe (take c.args.kept xs)) c.deref.ensures.value in
    node_changed (world_of c.args.self.now) c.args.self.now.nodes.items c.args.site c.index_mut-node.result.now (record c.index_mut-node.result.now { base = c.put_all.new.self; log = c.truncate.new.self; state = Down; fed_by = v.other; safe = c.args.kept; halted = None })
    (λ (n : Node). crashed n c.args.kept) refl refl c.requires c.index_mut-node.ensures.value
    (crashed_is (node_of v) c.args.kept (content_of c.put_all.new.self) c.truncate.new.self.items (c.in_ok-put_all.ensures ∙ ap (λ (xs : List Write). fold_writes (content_of v.base) xs) kept) c.truncate.ensures.items)
