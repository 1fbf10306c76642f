-- `bring_up`: its result.
use Rattle.std.proofs.Common.{◌≡◌, ◌∙◌, ℕ, length, ap, subst, arith}
use Rattle.vx_history.specs.World.{World, Node}
use Rattle.vx_history.specs.Steps.{recovered}
use Rattle.vx_history.specs.Refusals.{says}
use Rattle.vx_history.specs.Events.{come_back, recovered_at}
use Rattle.vx_history.specs.declared.event.Said.TheVariants.{Recovered}
use Rattle.vx_sites.specs.Shapes.{world_of, node_of}
use Rattle.vx_world.proofs.Downs.{recovered_is}
use Rattle.vx_world.proofs.recoveries.bring_up.Goals as goal

pub returns : goal.returns
returns c =
    let w = world_of c.args.world.now in
    let n : Node = node_of c.node-node.result.now in
    let mark = c.mark_after-mark.result in
    let long : c.len-count.result ≡ length n.log = omega (arith, c.len-count.ensures, c.node-node.result.now.log.ok.0) in
    let back : come_back (w.nodes c.args.site) ≡ record (recovered (w.nodes c.args.site)) { mark = mark } =
    subst (λ (m : Node). come_back m ≡ record (recovered m) { mark = mark }) c.node-node.ensures c.mark_after-mark.ensures in
    let done : world_of c.greet.new.world ≡ recovered_at w c.args.site =
    recovered_is w (world_of c.come_up.new.self) (world_of c.restart_links.new.self)
    (world_of c.greet.new.world) c.args.site mark back c.come_up.ensures c.restart_links.ensures c.in_ok-greet.ensures in
    ap (λ (x : World). says x (Recovered c.len-count.result)) done
    ∙ ap (λ (k : ℕ). says (recovered_at w c.args.site) (Recovered k)) (long ∙ ap (λ (m : Node). length m.log) c.node-node.ensures)
