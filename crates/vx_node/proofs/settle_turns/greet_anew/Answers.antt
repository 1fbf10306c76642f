-- A greeting, and what was sent by it.
use Rattle.std.proofs.Common.{◌∙◌, [], ◌∷◌, List, arith, refl}
use Rattle.vx_history.specs.Settling.{deliver_new}
use Rattle.vx_history.specs.Step.{run}
use Rattle.vx_history.specs.declared.event.Event.{Event}
use Rattle.vx_history.specs.declared.event.Event.TheVariants.{Connect}
use Rattle.vx_node.proofs.SettleSent.{sent_many}
use Rattle.vx_node.proofs.SettleTurns.{more_sent, new_went}
use Rattle.vx_node.proofs.WentOn.{went_on}
use Rattle.vx_node.proofs.WentThen.{went_more}
use Rattle.vx_node.proofs.settle_turns.greet_anew.Goals as goal

pub returns-in-On-clause-went : goal.returns-in-On-clause-went
returns-in-On-clause-went g c = λ d serves.
    let p = c.args.first.now in
    let q = c.args.second.now in
    let a = c.args.here in
    let b = c.args.there in
    let y = c.args.yard.now in
    let mid = c.connect_step.new.yard in
    let new = c.deliver_sent.new.yard in
    let xs : List Event = Connect a b ∷ [] in
    let sent = c.count-before.ensures.count ∙ sent_many p q a b d y serves in
    let one = c.in-On.ensures.went d a b serves in
    let more = more_sent p q a b d xs y mid one in
    went_on p q a b d xs (λ v. deliver_new a b d.world v) y mid new c.deliver_sent.result (refl, tt) one
    (new_went p q a b d.world c.count-before.result one.next mid new c.deliver_sent.result sent (c.deliver_sent.ensures.went one.next one.serves (omega (arith, sent, more))))

pub returns-in_default-clause-went : goal.returns-in_default-clause-went
returns-in_default-clause-went g c = λ d serves.
    let p = c.args.first.now in
    let q = c.args.second.now in
    let a = c.args.here in
    let b = c.args.there in
    let y = c.args.yard.now in
    let xs : List Event = Connect a b ∷ [] in
    went_more p q a b d xs (deliver_new a b d.world (run d.world xs)) y c.connect_step.new.yard c.connect_step.result c.in_default.not-On (c.connect_step.ensures.went d a b serves)

pub returns-in-On-clause-told : goal.returns-in-On-clause-told
returns-in-On-clause-told g c = λ told. c.in-On.ensures.told (c.deliver_sent.ensures.told told)

pub returns-in_default-clause-told : goal.returns-in_default-clause-told
returns-in_default-clause-told g c = λ told. c.connect_step.ensures.told told
