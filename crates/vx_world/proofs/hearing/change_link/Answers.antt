-- `change_link`: clauses moved and action.
use Rattle.std.proofs.Common.{◌∙◌, ap}
use Rattle.vx_history.specs.Events.{receiver_facts}
use Rattle.vx_history.specs.LinkForms.{plain_link}
use Rattle.vx_history.specs.Sending.{Sent, sent_step}
use Rattle.vx_sites.specs.Shapes.{world_of, link_of, node_of}
use Rattle.vx_world.proofs.Rules.{heard_facts, heard_is, moved_is}
use Rattle.vx_world.proofs.hearing.change_link.Goals as goal

pub returns-clause-moved : goal.returns-clause-moved
returns-clause-moved c =
    let w = world_of c.args.world.now in
    let p = c.args.packet.now in
    let told = heard_facts (node_of c.node-node.result.now) (w.nodes p.target) p.line c.is_same_line.result c.node-node.ensures c.is_same_line.ensures in
    let stepped = heard_is w p.target p.source p.line c.args.event.now (link_of c.link-link.result) c.plain-state.result _ c.link-link.ensures c.plain-state.ensures told in
    moved_is w (world_of c.set_link.new.self) p.target p.source (link_of c.link-link.result) (link_of c.with_plain.result) c.step-action.new.link
    (sent_step (plain_link p.source (w.links p.target p.source)) c.args.event.now (receiver_facts (w.nodes p.target) p.line))
    c.link-link.ensures (c.step-action.ensures.link ∙ ap (λ (r : Sent). r.link) stepped) c.with_plain.ensures c.in_ok-set_link.ensures

pub returns-clause-action : goal.returns-clause-action
returns-clause-action c =
    let w = world_of c.args.world.now in
    let p = c.args.packet.now in
    let told = heard_facts (node_of c.node-node.result.now) (w.nodes p.target) p.line c.is_same_line.result c.node-node.ensures c.is_same_line.ensures in
    let stepped = heard_is w p.target p.source p.line c.args.event.now (link_of c.link-link.result) c.plain-state.result _ c.link-link.ensures c.plain-state.ensures told in
    c.step-action.ensures.action ∙ ap (λ (r : Sent). r.action) stepped
