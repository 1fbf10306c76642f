-- What waits is applied, and that is acknowledged.
use Rattle.std.proofs.Common.{◌∙◌, ◌-◌, [], ◌∷◌, List, arith, length, refl, sym}
use Rattle.vx_history.specs.Settling.{delivery}
use Rattle.vx_history.specs.Step.{run}
use Rattle.vx_history.specs.declared.event.Event.{Event}
use Rattle.vx_history.specs.declared.event.Event.TheVariants.{Apply}
use Rattle.vx_node.proofs.SettleSent.{sent_many}
use Rattle.vx_node.proofs.SettleTurns.{more_sent}
use Rattle.vx_node.proofs.WentOn.{went_on}
use Rattle.vx_node.proofs.WentThen.{went_more}
use Rattle.vx_node.proofs.settle_turns.apply_all.Goals as goal

pub returns-in-On-clause-went : goal.returns-in-On-clause-went
returns-in-On-clause-went g c = λ d serves.
    let p = c.args.first.now in
    let q = c.args.second.now in
    let a = c.args.here in
    let b = c.args.there in
    let y = c.args.yard.now in
    let mid = c.apply_step.new.yard in
    let new = c.deliver_all.new.yard in
    let xs : List Event = Apply b (length (d.world.nodes b).log - (d.world.nodes b).safe) 0 ∷ [] in
    let sent = c.count-before.ensures.count ∙ sent_many p q a b d y serves in
    let one = c.in-On.ensures.went d a b serves in
    let more = more_sent p q a b d xs y mid one in
    went_on p q a b d xs (λ v. delivery a b d.world v) y mid new c.deliver_all.result (refl, tt) one
    (c.deliver_all.ensures.went one.next d.world one.serves (sym sent) (omega (arith, sent, more)))

pub returns-in_default-clause-went : goal.returns-in_default-clause-went
returns-in_default-clause-went g c = λ d serves.
    let p = c.args.first.now in
    let q = c.args.second.now in
    let a = c.args.here in
    let b = c.args.there in
    let y = c.args.yard.now in
    let xs : List Event = Apply b (length (d.world.nodes b).log - (d.world.nodes b).safe) 0 ∷ [] in
    went_more p q a b d xs (delivery a b d.world (run d.world xs)) y c.apply_step.new.yard c.apply_step.result c.in_default.not-On (c.apply_step.ensures.went d a b serves)

pub returns-in-On-clause-told : goal.returns-in-On-clause-told
returns-in-On-clause-told g c = λ told. c.in-On.ensures.told (c.deliver_all.ensures.told told)

pub returns-in_default-clause-told : goal.returns-in_default-clause-told
returns-in_default-clause-told g c = λ told. c.apply_step.ensures.told told
