-- The next packet, case by case.
use Rattle.std.proofs.Common.{◌≡◌, ◌∙◌, ◌+◌, suc, ap, arith, sym}
use Rattle.std.specs.Prelude.{option_map}
use Rattle.vx_courier.specs.UnderWay.{part_carried}
use Rattle.vx_history.specs.Events.{packet_at}
use Rattle.vx_node.proofs.Handing.{carried_at, goes_so, handed_none, handed_some}
use Rattle.vx_node.proofs.WentThen.{went_as, went_none, went_short}
use Rattle.vx_node.specs.Handing.{handing_over}
use Rattle.vx_node.specs.declared.going.Went.TheVariants.{On}
use Rattle.vx_node.proofs.settle_packets.hand_next.Goals as goal

pub returns-in_default-clause-went : goal.returns-in_default-clause-went
returns-in_default-clause-went g c = λ d serves low. went_short c.args.first.now c.args.second.now c.args.here c.args.there d (handing_over c.args.here c.args.there c.args.past d.world.packets) c.args.yard.now serves

pub returns-in_default-way_of-clause-went : goal.returns-in_default-way_of-clause-went
returns-in_default-way_of-clause-went g c = λ d serves low. went_short c.args.first.now c.args.second.now c.args.here c.args.there d (handing_over c.args.here c.args.there c.args.past d.world.packets) c.args.yard.now serves

pub returns-then-not-goes-clause-went : goal.returns-then-not-goes-clause-went
returns-then-not-goes-clause-went g c = λ d serves low.
    let p = c.args.first.now in
    let q = c.args.second.now in
    let a = c.args.here in
    let b = c.args.there in
    let y = c.args.yard.now in
    let ps = d.world.packets in
    let next : c.args.past + 1 ≡ suc c.args.past = omega arith in
    let at = carried_at ps c.args.past c.in-Some.part (c.in-Some.ensures ps serves.noted.carries.flight ∙ ap (λ k. option_map part_carried (packet_at ps k)) next) in
    let so = goes_so a b at.packet c.in-Some.part c.in-Some-way_of.goes at.is (sym c.in-Some-way_of.ensures) in
    went_as p q a b d _ (handing_over a b c.args.past ps) y y On (λ _. handed_none a b c.args.past ps c.in-Some.part at (sym so.is ∙ c.if-not-goes.true)) (went_none p q a b d y serves)

pub returns-clause-went : goal.returns-clause-went
returns-clause-went g c = λ d serves low.
    let p = c.args.first.now in
    let q = c.args.second.now in
    let a = c.args.here in
    let b = c.args.there in
    let y = c.args.yard.now in
    let ps = d.world.packets in
    let next : c.args.past + 1 ≡ suc c.args.past = omega arith in
    let at = carried_at ps c.args.past c.in-Some.part (c.in-Some.ensures ps serves.noted.carries.flight ∙ ap (λ k. option_map part_carried (packet_at ps k)) next) in
    let so = goes_so a b at.packet c.in-Some.part c.in-Some-way_of.goes at.is (sym c.in-Some-way_of.ensures) in
    let goes = sym so.is ∙ c.if-not-goes.false in
    went_as p q a b d _ (handing_over a b c.args.past ps) y c.deliver_step.new.yard c.deliver_step.result (λ _. handed_some a b c.args.past (c.args.past + 1) ps c.in-Some.part at goes next)
    (c.deliver_step.ensures.went d a b at.packet serves (ap (packet_at ps) next ∙ at.at) (so.sent c.if-not-goes.false) goes)

pub returns-in_default-clause-told : goal.returns-in_default-clause-told
returns-in_default-clause-told g c = λ told. told

pub returns-in_default-way_of-clause-told : goal.returns-in_default-way_of-clause-told
returns-in_default-way_of-clause-told g c = λ told. told

pub returns-then-not-goes-clause-told : goal.returns-then-not-goes-clause-told
returns-then-not-goes-clause-told g c = λ told. told

pub returns-clause-told : goal.returns-clause-told
returns-clause-told g c = λ told. c.deliver_step.ensures.told told
