-- `greet`: its result.
use Rattle.std.proofs.Common.{◌≡◌, ◌∙◌, ℕ, length, sym, ap, arith}
use Rattle.vx_history.specs.World.{Node, Hello}
use Rattle.vx_model.specs.Sites.{is_origin}
use Rattle.vx_history.specs.Sends.{sending, packets_of}
use Rattle.vx_sites.specs.Shapes.{world_of, node_of}
use Rattle.vx_world.proofs.Downs.{greets_none, greets_primary}
use Rattle.vx_world.proofs.recoveries.greet.Goals as goal

pub returns-then-is_origin : goal.returns-then-is_origin
returns-then-is_origin c =
    greets_none (world_of c.args.world.now) c.args.site (ap (λ (n : Node). is_origin n.role) (sym c.node-node.ensures) ∙ sym c.if-is_origin.ensures)

pub returns : goal.returns
returns c =
    let w = world_of c.args.world.now in
    let n : Node = node_of c.node-node.result.now in
    let long : c.len.result ≡ length n.log = omega (arith, c.len.ensures, c.node-node.result.now.log.ok.0) in
    greets_primary w (world_of c.send.new.self) c.args.site n (sym c.if-is_origin.ensures) c.node-node.ensures
    (c.in_ok-send.ensures ∙ ap (λ (k : ℕ). sending w (packets_of c.args.site n.other n.line (Hello n.session k n.safe))) long)
