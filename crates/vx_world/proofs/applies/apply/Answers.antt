-- `apply`: its result.
use Rattle.std.proofs.Common.{◌≡◌, ◌∙◌, Bool, sym, ap, false}
use Rattle.std.specs.Prelude.{if◌then◌else◌}
use Rattle.vx_history.specs.World.{Node}
use Rattle.vx_model.specs.Sites.{is_origin}
use Rattle.vx_history.specs.Refusals.{Outcome, at_site, at_work}
use Rattle.vx_history.specs.Events.{reached_at, apply_at}
use Rattle.vx_sites.specs.Shapes.{world_of}
use Rattle.vx_world.proofs.Passing.{passed}
use Rattle.vx_world.proofs.applies.apply.Goals as goal

pub returns : goal.returns
returns c =
    let w = world_of c.args.world.now in
    let receives : is_origin (w.nodes c.args.site).role ≡ false = ap (λ (n : Node). is_origin n.role) (sym c.node-node.ensures) ∙ sym c.if-is_origin.ensures in
    let o : Outcome = apply_at w c.args.site c.args.count in
    let o2 : Outcome = if is_origin (w.nodes c.args.site).role then reached_at w c.args.site c.args.count c.args.reached else o in
    let chosen : o ≡ o2 = sym (ap (λ (b : Bool). if b then reached_at w c.args.site c.args.count c.args.reached else o) receives) in
    passed c.apply_received.result (world_of c.apply_received.new.world) o (at_site w c.args.site (at_work w c.args.site o2))
    (chosen ∙ c.in_default-refuse_work.ensures o2 ∙ c.in_default.ensures.refuses (at_work w c.args.site o2)) c.apply_received.ensures
