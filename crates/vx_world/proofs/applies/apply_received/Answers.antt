-- `apply_received`: its result.
use Rattle.std.proofs.Common.{◌≡◌, ℕ, ◌-◌, min, length, refl, arith, subst, false}
use Rattle.std.specs.Prelude.{eqb}
use Rattle.std.proofs.lemmas.Bool.Decides.{nat_tests}
use Rattle.vx_history.specs.World.{Node}
use Rattle.vx_history.specs.LinkForms.{plain_receiver}
use Rattle.vx_sites.specs.Shapes.{world_of, node_of}
use Rattle.vx_world.proofs.Applying.{Due, apply_due, acked}
use Rattle.vx_world.proofs.applies.apply_received.Goals as goal

pub returns : goal.returns
returns c =
    let w = world_of c.args.world.now in
    let n = node_of c.node-node.result.now in
    let number : ℕ = c.len-last.result - c.saturating_sub.result in
    let long : c.len-last.result ≡ length n.log = omega (arith, c.len-last.ensures, c.node-node.result.now.log.ok.0) in
    let waits : c.saturating_sub-waiting.result ≡ length n.log - n.safe = omega (arith, c.saturating_sub-waiting.ensures, long) in
    let left : c.saturating_sub.result ≡ length n.log - n.safe - c.args.count = omega (arith, c.saturating_sub.ensures, waits) in
    let some : eqb (min c.args.count (length n.log - n.safe)) 0 ≡ false = grind (arith, nat_tests, waits) in
    let due : Due c.args.count number c.mark_at-mark.result n = record {
      some = some;
      number_is = omega (arith, long, left);
      mark_is = c.mark_at-mark.ensures (record (plain_receiver n) { waiting = length n.log - n.safe - c.args.count }) refl refl refl;
    } in
    apply_due w (world_of c.send.new.self) c.args.site c.args.count number c.mark_at-mark.result
    (subst (λ (m : Node). Due c.args.count number c.mark_at-mark.result m) c.node-node.ensures due)
    (acked w (world_of c.apply.new.self)
    (world_of c.send.new.self) c.args.site number c.mark_at-mark.result n c.node-node.ensures c.in_ok-apply.ensures c.in_ok-send.ensures)
