-- A connect within a line that settles a link.
use Rattle.std.proofs.Common.{◌∷◌, [], ap, refl, subst, sym}
use Rattle.vx_history.specs.declared.event.Event.TheVariants.{Connect as ConnectAt}
use Rattle.vx_script.specs.declared.line.ScriptLine.TheVariants.{Connect}
use Rattle.vx_settling.proofs.WithinLines.{connect_goes}
use Rattle.vx_settling.specs.Burnt.{noted_as}
use Rattle.vx_settling.specs.Works.{CalmTold}
use Rattle.vx_node.specs.Settling.{WentFor}
use Rattle.vx_yard.specs.Yards.{IsTold}
use Rattle.vx_node.specs.declared.going.Went.{Went}
use Rattle.vx_yard.proofs.OfSites.{all_still}
use Rattle.vx_node.proofs.SettleParts.{done_at}
use Rattle.vx_node.proofs.StepWent.{step_same, step_went, told_same}
use Rattle.vx_node.proofs.settle.connect_step.Goals as goal

pub connect_line-requires-clause-kept : goal.connect_line-requires-clause-kept
connect_line-requires-clause-kept g c = λ κs within. c.may.ensures.kept c.if-not-may.false

pub connect_line-requires-clause-free : goal.connect_line-requires-clause-free
connect_line-requires-clause-free g c = λ κs within. c.may.ensures.free c.if-not-may.false

pub returns-then-not-may-clause-went : goal.returns-then-not-may-clause-went
returns-then-not-may-clause-went g c = λ d a b serves.
    let y = c.args.yard.now in
    step_same c.args.first.now c.args.second.now a b d (ConnectAt a b ∷ []) y y serves (λ told. told) (all_still y y refl) refl

pub returns-clause-went : goal.returns-clause-went
returns-clause-went g c = λ d a b serves.
    let y = c.args.yard.now in
    let new = c.connect_line.new.yard in
    let n = serves.noted in
    subst (λ (w : Went). WentFor c.args.first.now c.args.second.now a b d (ConnectAt a b ∷ []) y new w) (sym c.answered.ensures)
    (step_went c.args.first.now c.args.second.now a b d (ConnectAt a b ∷ []) y new serves (told_same y new (ap (λ es. es.items) c.connect_line.ensures.still)) (all_still y new (ap (λ es. es.items) c.connect_line.ensures.still)) (Connect c.args.first.now c.args.second.now)
    (λ fails said e done. connect_goes (CalmTold (IsTold new) d) a b d (λ t. t.1) serves.may n.fuses n.burns n.stands.links c.args.first.now c.args.second.now fails said e serves.from serves.to done.ends)
    c.connect_line.result (c.connect_line.ensures.leads (noted_as n.fuses d) n.stands n.carries)
    (done_at c.args.first.now c.args.second.now a b d y new serves c.connect_line.result c.connect_line.ensures.done (ap (λ es. es.items) c.connect_line.ensures.still)))

pub returns-clause-told : goal.returns-clause-told
returns-clause-told g c = told_same c.args.yard.now c.connect_line.new.yard (ap (λ es. es.items) c.connect_line.ensures.still)
