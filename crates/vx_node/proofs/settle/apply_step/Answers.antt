-- What waits is applied within a line that settles a link.
use Rattle.vx_model.specs.Sites.{is_origin}
use Rattle.std.proofs.Common.{◌≡◌, ◌∙◌, ◌∷◌, ◌-◌, [], length, ℕ, ap, refl, subst, sym}
use Rattle.vx_history.specs.declared.event.Event.TheVariants.{Apply as ApplyAt}
use Rattle.vx_script.specs.declared.line.ScriptLine.TheVariants.{Apply}
use Rattle.vx_settling.proofs.WithinApply.{apply_goes}
use Rattle.vx_settling.specs.Burnt.{noted_as}
use Rattle.vx_settling.specs.Works.{CalmTold}
use Rattle.vx_settling.proofs.WithinOne.{number_burnt}
use Rattle.vx_node.specs.Settling.{WentFor, went_of}
use Rattle.vx_yard.specs.Yards.{IsTold}
use Rattle.vx_node.specs.declared.going.Went.{Went}
use Rattle.vx_yard.proofs.OfSites.{all_of_site, all_still}
use Rattle.vx_node.proofs.SettleParts.{second_at}
use Rattle.vx_node.proofs.SettleRaw.{apply_raw}
use Rattle.vx_node.proofs.StepWent.{step_same, step_went}
use Rattle.vx_node.proofs.settle.apply_step.Goals as goal

pub apply_line-requires-clause-kept : goal.apply_line-requires-clause-kept
apply_line-requires-clause-kept g c = λ κs within. c.may.ensures.kept c.if-not-may.false

pub apply_line-requires-clause-free : goal.apply_line-requires-clause-free
apply_line-requires-clause-free g c = λ κs within. c.may.ensures.free c.if-not-may.false

pub returns-in_default-clause-went : goal.returns-in_default-clause-went
returns-in_default-clause-went g c = λ d a b serves.
    let y = c.args.yard.now in
    step_same c.args.first.now c.args.second.now a b d (ApplyAt b (length (d.world.nodes b).log - (d.world.nodes b).safe) 0 ∷ []) y y serves (λ told. told) (all_still y y refl) refl

pub returns-then-not-may-clause-went : goal.returns-then-not-may-clause-went
returns-then-not-may-clause-went g c = λ d a b serves.
    let y = c.args.yard.now in
    step_same c.args.first.now c.args.second.now a b d (ApplyAt b (length (d.world.nodes b).log - (d.world.nodes b).safe) 0 ∷ []) y y serves (λ told. told) (all_still y y refl) refl

pub returns-clause-went : goal.returns-clause-went
returns-clause-went g c = λ d a b serves.
    let y = c.args.yard.now in
    let new = c.apply_line.new.yard in
    let n = serves.noted in
    let can = serves.may.can in
    let off = apply_raw c.args.first.now c.args.second.now a b d y serves c.in-Some.count in
    let count : c.in-Some.count ≡ length (d.world.nodes b).log - (d.world.nodes b).safe
    = c.in-Some.ensures (noted_as n.fuses d) n.stands b (number_burnt n.fuses d.world c.args.second.now ∙ serves.to) can.there can.runs_there in
    subst (λ (w : Went). WentFor c.args.first.now c.args.second.now a b d (ApplyAt b (length (d.world.nodes b).log - (d.world.nodes b).safe) 0 ∷ []) y new w) (sym c.answered.ensures)
    (subst (λ (k : ℕ). WentFor c.args.first.now c.args.second.now a b d (ApplyAt b k 0 ∷ []) y new (went_of c.apply_line.result)) count
    (step_went c.args.first.now c.args.second.now a b d (ApplyAt b c.in-Some.count 0 ∷ []) y new serves c.apply_line.ensures.told (all_of_site _ y new (c.apply_line.ensures.asked (noted_as n.fuses d) n.stands off)) (Apply c.args.second.now c.in-Some.count)
    (λ fails said e done. apply_goes (CalmTold (IsTold new) d) a b d serves.may (ap is_origin serves.may.can.secondary) n.fuses n.burns n.stands.links c.args.second.now c.in-Some.count fails said e serves.to done.ends)
    c.apply_line.result (c.apply_line.ensures.leads (noted_as n.fuses d) n.stands off n.carries)
    (second_at c.args.first.now c.args.second.now a b d y new serves _ c.apply_line.result (number_burnt n.fuses d.world c.args.second.now ∙ serves.to) (c.apply_line.ensures.called (noted_as n.fuses d) n.stands off))))
