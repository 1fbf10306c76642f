-- What was sent counts as lost, and is sent again.
use Rattle.std.proofs.Common.{[], ◌∷◌, List, refl}
use Rattle.vx_history.specs.declared.event.Event.{Event}
use Rattle.vx_history.specs.declared.event.Event.TheVariants.{Pump, Tick}
use Rattle.vx_node.proofs.WentThen.{went_more, went_then}
use Rattle.vx_node.proofs.settle_turns.send_lost.Goals as goal

pub returns-in-On-clause-went : goal.returns-in-On-clause-went
returns-in-On-clause-went g c = λ d serves.
    let p = c.args.first.now in
    let q = c.args.second.now in
    let a = c.args.here in
    let b = c.args.there in
    let y = c.args.yard.now in
    let xs : List Event = Tick a b ∷ [] in
    let ys : List Event = Pump a b ∷ [] in
    let one = c.in-On.ensures.went d a b serves in
    went_then p q a b d xs ys y c.tick_step.new.yard c.pump_step.new.yard c.pump_step.result (refl, tt) one (c.pump_step.ensures.went one.next a b one.serves)

pub returns-in_default-clause-went : goal.returns-in_default-clause-went
returns-in_default-clause-went g c = λ d serves.
    let p = c.args.first.now in
    let q = c.args.second.now in
    let a = c.args.here in
    let b = c.args.there in
    let y = c.args.yard.now in
    let xs : List Event = Tick a b ∷ [] in
    let ys : List Event = Pump a b ∷ [] in
    went_more p q a b d xs ys y c.tick_step.new.yard c.tick_step.result c.in_default.not-On (c.tick_step.ensures.went d a b serves)

pub returns-in-On-clause-told : goal.returns-in-On-clause-told
returns-in-On-clause-told g c = λ told. c.in-On.ensures.told (c.pump_step.ensures.told told)

pub returns-in_default-clause-told : goal.returns-in_default-clause-told
returns-in_default-clause-told g c = λ told. c.tick_step.ensures.told told
