-- A packet within a line that settles a link.
use Rattle.std.proofs.Common.{◌∷◌, [], refl, subst, sym}
use Rattle.vx_history.specs.declared.event.Event.TheVariants.{Deliver as DeliverAt}
use Rattle.vx_script.specs.declared.line.ScriptLine.TheVariants.{Deliver}
use Rattle.vx_settling.proofs.WithinLines.{deliver_goes}
use Rattle.vx_settling.specs.Burnt.{noted_as}
use Rattle.vx_settling.specs.Works.{CalmTold}
use Rattle.vx_node.specs.Settling.{WentFor}
use Rattle.vx_yard.specs.Yards.{IsTold}
use Rattle.vx_node.specs.declared.going.Went.{Went}
use Rattle.vx_yard.proofs.OfSites.{all_still}
use Rattle.vx_node.proofs.SettleParts.{packet_at_one}
use Rattle.vx_node.proofs.StepWent.{good_noted, step_same, step_went}
use Rattle.vx_node.proofs.settle.deliver_step.Goals as goal

pub deliver_line-requires-clause-kept : goal.deliver_line-requires-clause-kept
deliver_line-requires-clause-kept g c = λ κs within. c.may.ensures.kept c.if-not-may.false

pub deliver_line-requires-clause-free : goal.deliver_line-requires-clause-free
deliver_line-requires-clause-free g c = λ κs within. c.may.ensures.free c.if-not-may.false

pub returns-then-not-may-clause-went : goal.returns-then-not-may-clause-went
returns-then-not-may-clause-went g c = λ d a b q serves at sent between.
    let y = c.args.yard.now in
    step_same c.args.first.now c.args.second.now a b d (DeliverAt c.args.number ∷ []) y y serves (λ told. told) (all_still y y refl) refl

pub returns-clause-went : goal.returns-clause-went
returns-clause-went g c = λ d a b q serves at sent between.
    let y = c.args.yard.now in
    let new = c.deliver_line.new.yard in
    let n = serves.noted in
    subst (λ (w : Went). WentFor c.args.first.now c.args.second.now a b d (DeliverAt c.args.number ∷ []) y new w) (sym c.answered.ensures)
    (step_went c.args.first.now c.args.second.now a b d (DeliverAt c.args.number ∷ []) y new serves c.deliver_line.ensures.told (c.deliver_line.ensures.asked (noted_as n.fuses d) n.stands) (Deliver c.args.number)
    (λ fails said e done. deliver_goes (CalmTold (IsTold new) d) a b d (λ t. t.1) serves.may n.fuses n.burns n.stands.links c.args.number q fails said e at sent between done.ends)
    c.deliver_line.result (c.deliver_line.ensures.leads (noted_as n.fuses d) n.stands n.carries (good_noted n.fuses d y serves.good))
    (packet_at_one c.args.first.now c.args.second.now a b d y new serves c.args.number q c.deliver_line.result at sent between (c.deliver_line.ensures.called (noted_as n.fuses d) n.stands n.carries)))
