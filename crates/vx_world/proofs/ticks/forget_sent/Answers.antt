-- `forget_sent`: its result.
use Rattle.std.proofs.Common.{◌∙◌, ap, refl}
use Rattle.vx_history.specs.Events.{link_step}
use Rattle.vx_history.specs.Sending.{Sent}
use Rattle.vx_history.specs.declared.sender.SEvent.TheVariants.{Tick}
use Rattle.vx_sites.specs.Shapes.{world_of, link_of, node_of}
use Rattle.vx_world.proofs.Rules.{own_facts, step_is, ticked_is}
use Rattle.vx_world.proofs.ticks.forget_sent.Goals as goal

pub returns : goal.returns
returns c =
    let w = world_of c.args.world.now in
    let told = own_facts (node_of c.node.result.now) (w.nodes c.args.from) c.node.ensures in
    let stepped = step_is w c.args.from c.args.to Tick
    (link_of c.link-link.result) c.plain-state.result _ c.link-link.ensures c.plain-state.ensures told in
    ticked_is w (world_of c.set_link.new.self) c.args.from c.args.to (link_of c.link-link.result) (link_of c.with_plain.result) c.step.new.link
    (link_step w c.args.from c.args.to Tick)
    c.link-link.ensures (c.step.ensures.link ∙ ap (λ (r : Sent). r.link) stepped) c.with_plain.ensures refl c.in_ok-set_link.ensures
