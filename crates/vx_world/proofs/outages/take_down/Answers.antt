-- `take_down`: its result.
use Rattle.std.proofs.Common.{◌≡◌, ◌∙◌, sym, ap, true}
use Rattle.vx_history.specs.World.{Node}
use Rattle.vx_model.specs.Sites.{is_origin}
use Rattle.vx_sites.specs.Shapes.{world_of}
use Rattle.vx_world.proofs.Downs.{crashed_origin}
use Rattle.vx_world.proofs.outages.take_down.Goals as goal

pub returns : goal.returns
returns c =
    let w = world_of c.args.world.now in
    let role : is_origin (w.nodes c.args.site).role ≡ true = ap (λ (n : Node). is_origin n.role) (sym c.node.ensures) ∙ sym c.if-not-is_origin.ensures in
    crashed_origin w (world_of c.keep_line.new.self)
    (world_of c.go_down-2.new.self) c.args.site c.args.kept role c.in_ok-keep_line.ensures c.in_ok-go_down-2.ensures
