-- `mark_after`: its result.
use Rattle.std.proofs.Common.{◌≡◌, ◌∙◌, ◌+◌, ℕ, length, sym, ap, refl, arith}
use Rattle.vx_history.specs.World.{Node}
use Rattle.vx_history.specs.LinkForms.{plain_receiver}
use Rattle.vx_history.specs.Receiving.{marked_by}
use Rattle.vx_history.specs.declared.receiver.RState.{RState}
use Rattle.vx_sites.specs.Shapes.{node_of}
use Rattle.vx_world.proofs.Downs.{back_origin, back_receiver}
use Rattle.vx_world.proofs.recoveries.mark_after.Goals as goal

pub returns-then-is_origin : goal.returns-then-is_origin
returns-then-is_origin c = back_origin (node_of c.args.node.now) c.args.node.now.mark (sym c.if-is_origin.ensures) refl

pub returns : goal.returns
returns c =
    let n : Node = node_of c.args.node.now in
    let s : RState = record (plain_receiver n) { last = length n.log; waiting = 0; session = n.session + 1 } in
    let long : c.len.result ≡ length n.log = omega (arith, c.len.ensures, c.args.node.now.log.ok.0) in
    back_receiver n c.mark_at.result (sym c.if-is_origin.ensures) (c.mark_at.ensures s refl refl refl ∙ ap (λ (k : ℕ). (marked_by s k).mark) long)
