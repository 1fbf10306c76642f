-- `crash_site`: its result; what `take_down` asks.
use Rattle.std.proofs.Common.{◌≡◌, ◌∙◌, ◌<◌, ℕ, length, ap, sym, subst, arith}
use Rattle.vx_history.specs.World.{Node, World}
use Rattle.vx_history.specs.Events.{kept_of, crash_at}
use Rattle.vx_sites.specs.Shapes.{world_of, node_of}
use Rattle.vx_world.proofs.Downs.{crash_done}
use Rattle.vx_world.proofs.outages.crash_site.Goals as goal

pub take_down-requires : goal.take_down-requires
take_down-requires c =
    let sites : length c.mark_kept.new.self.nodes.items ≡ length c.args.world.now.nodes.items = ap (λ (x : World). x.sites) c.in_ok-mark_kept.ensures in
    subst (λ (n : ℕ). c.args.site < n) (sym sites) c.requires

pub returns : goal.returns
returns c =
    let w = world_of c.args.world.now in
    let n = node_of c.node-node.result.now in
    let long : c.len.result ≡ length n.log = omega (arith, c.len.ensures, c.node-node.result.now.log.ok.0) in
    let kept : c.min-kept.result ≡ kept_of n c.args.kept = omega (arith, c.min-kept.ensures, c.max.ensures, long) in
    crash_done w (world_of c.mark_kept.new.self) (world_of c.take_down.new.world) (world_of c.lose_touch.new.self)
    (world_of c.empty.new.self) c.args.site c.min-kept.result c.in_ok-mark_kept.ensures c.in_ok-take_down.ensures c.lose_touch.ensures c.empty.ensures
    ∙ ap (λ (k : ℕ). crash_at w c.args.site k) (kept ∙ ap (λ (m : Node). kept_of m c.args.kept) c.node-node.ensures)
