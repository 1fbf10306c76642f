-- `refuse_by_links`: its result.
use Rattle.std.proofs.Common.{◌∙◌, arith, ap}
use Rattle.vx_history.specs.Events.{admitted}
use Rattle.vx_policy.specs.declared.verdict.Verdict.{Verdict}
use Rattle.vx_sites.specs.Shapes.{world_of, node_of}
use Rattle.vx_world.specs.Counted.{refusal_by}
use Rattle.vx_world.proofs.Admitting.{held_write, refused_by_rule}
use Rattle.vx_world.proofs.admission.refuse_by_links.Goals as goal

pub returns : goal.returns
returns c = λ fails.
    let w = world_of c.args.world.now in
    let x = c.args.write.now in
    held_write (admitted w c.args.site x) w c.args.site x fails c.find_refusal.result
    (refused_by_rule w c.args.site x (node_of c.node-node.result.now) c.as_bytes.result.now c.args.links.now c.count_used.result c.room_of.result
    c.find_refusal.result
    c.node-node.ensures c.as_bytes.ensures.bytes c.requires.listed c.count_used.ensures.counted
    (omega (arith, c.count_used.ensures.long, c.requires.few)) c.room_of.ensures.is c.room_of.ensures.few
    (c.find_refusal.ensures ∙ ap (λ (v : Verdict). refusal_by v) c.decide.ensures))
