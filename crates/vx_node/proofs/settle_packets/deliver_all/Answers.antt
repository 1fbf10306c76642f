-- Packets, and what was sent in answer to them.
use Rattle.std.proofs.Common.{◌∙◌, arith, sym}
use Rattle.vx_history.specs.Settling.{deliver_new}
use Rattle.vx_history.specs.Step.{run}
use Rattle.vx_settling.proofs.Running.{are_new}
use Rattle.vx_node.proofs.SettleSent.{sent_many}
use Rattle.vx_node.proofs.SettleTurns.{more_sent, new_went}
use Rattle.vx_node.proofs.WentOn.{went_on}
use Rattle.vx_node.proofs.WentThen.{went_more}
use Rattle.vx_node.specs.declared.going.Went.TheVariants.{On}
use Rattle.vx_node.proofs.settle_packets.deliver_all.Goals as goal

pub returns-in-On-clause-went : goal.returns-in-On-clause-went
returns-in-On-clause-went g c = λ d w serves many low.
    let p = c.args.first.now in
    let q = c.args.second.now in
    let a = c.args.here in
    let b = c.args.there in
    let y = c.args.yard.now in
    let mid = c.deliver_sent.new.yard in
    let new = c.deliver_sent-in-On.new.yard in
    let sent = c.count-sent.ensures.count ∙ sent_many p q a b d y serves in
    let one = new_went p q a b w c.args.before d y mid On (sym many) (c.in-On.ensures.went d serves low) in
    let more = more_sent p q a b d (deliver_new a b w d.world) y mid one in
    went_on p q a b d (deliver_new a b w d.world) (λ v. deliver_new a b d.world v) y mid new c.deliver_sent-in-On.result (are_new a b w d.world) one
    (new_went p q a b d.world c.count-sent.result one.next mid new c.deliver_sent-in-On.result sent (c.deliver_sent-in-On.ensures.went one.next one.serves (omega (arith, sent, more))))

pub returns-in_default-clause-went : goal.returns-in_default-clause-went
returns-in_default-clause-went g c = λ d w serves many low.
    let p = c.args.first.now in
    let q = c.args.second.now in
    let a = c.args.here in
    let b = c.args.there in
    let y = c.args.yard.now in
    let mid = c.deliver_sent.new.yard in
    let first = deliver_new a b w d.world in
    went_more p q a b d first (deliver_new a b d.world (run d.world first)) y mid c.deliver_sent.result c.in_default.not-On
    (new_went p q a b w c.args.before d y mid c.deliver_sent.result (sym many) (c.deliver_sent.ensures.went d serves low))

pub returns-in-On-clause-told : goal.returns-in-On-clause-told
returns-in-On-clause-told g c = λ told. c.in-On.ensures.told (c.deliver_sent-in-On.ensures.told told)

pub returns-in_default-clause-told : goal.returns-in_default-clause-told
returns-in_default-clause-told g c = λ told. c.deliver_sent.ensures.told told
