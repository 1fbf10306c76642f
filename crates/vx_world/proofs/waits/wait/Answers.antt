-- `wait`: its result.
use Rattle.std.proofs.Common.{◌≡◌, ◌∙◌}
use Rattle.std.proofs.lemmas.Result.{IfOk-weaker}
use Rattle.vx_history.specs.World.{World}
use Rattle.vx_history.specs.Refusals.{Outcome, says, at_work}
use Rattle.vx_history.specs.Step.{outcome_of}
use Rattle.vx_history.specs.declared.event.Said.{Said}
use Rattle.vx_history.specs.declared.event.Event.TheVariants.{Wait}
use Rattle.vx_sites.specs.Shapes.{world_of}
use Rattle.vx_world.specs.Confirming.{may_confirm, confirmed}
use Rattle.vx_world.proofs.waits.wait.Goals as goal

pub returns-in-Some-refuse_number : goal.returns-in-Some-refuse_number
returns-in-Some-refuse_number c =
    c.in-Some-refuse_number.ensures (confirmed (world_of c.args.world.now) c.args.site c.args.number) ∙ c.in_default-refuse_work.ensures _
    ∙ c.in_default.ensures.refuses _

pub returns : goal.returns
returns c =
    let w : World = world_of c.args.world.now in
    let new : World = world_of c.confirm.new.world in
    let o : Outcome = confirmed w c.args.site c.args.number in
    let tested : Outcome = may_confirm w c.args.site c.args.number o in
    let at_hand : Outcome = at_work w c.args.site tested in
    IfOk-weaker c.confirm.result (λ (said : Said). says new said ≡ o) (λ (said : Said). says new said ≡ outcome_of w (Wait c.args.site c.args.number))
    (λ said is. is ∙ c.in_default-refuse_number.ensures o ∙ c.in_default-refuse_work.ensures tested ∙ c.in_default.ensures.refuses at_hand) c.confirm.ensures
