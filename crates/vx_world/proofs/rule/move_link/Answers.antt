-- `move_link`: clauses moved and action.
use Rattle.std.proofs.Common.{◌∙◌, ap}
use Rattle.vx_history.specs.Events.{link_step}
use Rattle.vx_history.specs.Sending.{Sent}
use Rattle.vx_sites.specs.Shapes.{world_of, link_of, node_of}
use Rattle.vx_world.proofs.Rules.{own_facts, step_is, moved_is}
use Rattle.vx_world.proofs.rule.move_link.Goals as goal

pub returns-clause-moved : goal.returns-clause-moved
returns-clause-moved c =
    let w = world_of c.args.world.now in
    let told = own_facts (node_of c.node.result.now) (w.nodes c.args.from) c.node.ensures in
    let stepped = step_is w c.args.from c.args.to c.args.event.now
    (link_of c.link-link.result) c.plain-state.result _ c.link-link.ensures c.plain-state.ensures told in
    moved_is w (world_of c.set_link.new.self) c.args.from c.args.to (link_of c.link-link.result) (link_of c.with_plain.result) c.step-action.new.link
    (link_step w c.args.from c.args.to c.args.event.now)
    c.link-link.ensures (c.step-action.ensures.link ∙ ap (λ (r : Sent). r.link) stepped) c.with_plain.ensures c.in_ok-set_link.ensures

pub returns-clause-action : goal.returns-clause-action
returns-clause-action c =
    let w = world_of c.args.world.now in
    let told = own_facts (node_of c.node.result.now) (w.nodes c.args.from) c.node.ensures in
    let stepped = step_is w c.args.from c.args.to c.args.event.now
    (link_of c.link-link.result) c.plain-state.result _ c.link-link.ensures c.plain-state.ensures told in
    c.step-action.ensures.action ∙ ap (λ (r : Sent). r.action) stepped
