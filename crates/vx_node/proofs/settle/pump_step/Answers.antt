-- A pump within a line that settles a link.
use Rattle.std.proofs.Common.{◌∙◌, ◌∷◌, [], refl, subst, sym}
use Rattle.vx_history.specs.declared.event.Event.TheVariants.{Pump as PumpAt}
use Rattle.vx_script.specs.declared.line.ScriptLine.TheVariants.{Pump}
use Rattle.vx_settling.proofs.WithinLines.{pump_goes}
use Rattle.vx_settling.proofs.WithinOne.{number_burnt}
use Rattle.vx_settling.specs.Burnt.{noted_as}
use Rattle.vx_settling.specs.Works.{CalmTold}
use Rattle.vx_node.specs.Settling.{WentFor}
use Rattle.vx_yard.specs.Yards.{IsTold}
use Rattle.vx_node.specs.declared.going.Went.{Went}
use Rattle.vx_yard.proofs.OfSites.{all_still}
use Rattle.vx_node.proofs.SettleParts.{first_at}
use Rattle.vx_node.proofs.StepWent.{all_alone, step_same, step_went}
use Rattle.vx_node.proofs.settle.pump_step.Goals as goal

pub pump_line-requires-clause-kept : goal.pump_line-requires-clause-kept
pump_line-requires-clause-kept g c = λ κs within. c.may.ensures.kept c.if-not-may.false

pub pump_line-requires-clause-free : goal.pump_line-requires-clause-free
pump_line-requires-clause-free g c = λ κs within. c.may.ensures.free c.if-not-may.false

pub returns-then-not-may-clause-went : goal.returns-then-not-may-clause-went
returns-then-not-may-clause-went g c = λ d a b serves.
    let y = c.args.yard.now in
    step_same c.args.first.now c.args.second.now a b d (PumpAt a b ∷ []) y y serves (λ told. told) (all_still y y refl) refl

pub returns-clause-went : goal.returns-clause-went
returns-clause-went g c = λ d a b serves.
    let y = c.args.yard.now in
    let new = c.pump_line.new.yard in
    let n = serves.noted in
    subst (λ (w : Went). WentFor c.args.first.now c.args.second.now a b d (PumpAt a b ∷ []) y new w) (sym c.answered.ensures)
    (step_went c.args.first.now c.args.second.now a b d (PumpAt a b ∷ []) y new serves c.pump_line.ensures.told (all_alone _ y new (c.pump_line.ensures.asked (noted_as n.fuses d) n.stands)) (Pump c.args.first.now c.args.second.now)
    (λ fails said e done. pump_goes (CalmTold (IsTold new) d) a b d (λ t. t.1) serves.may n.fuses n.burns n.stands.links c.args.first.now c.args.second.now fails said e serves.from serves.to done.ends)
    c.pump_line.result (c.pump_line.ensures.leads (noted_as n.fuses d) n.stands n.carries)
    (first_at c.args.first.now c.args.second.now a b d y new serves _ c.pump_line.result (number_burnt n.fuses d.world c.args.first.now ∙ serves.from) (c.pump_line.ensures.called (noted_as n.fuses d) n.stands)))
