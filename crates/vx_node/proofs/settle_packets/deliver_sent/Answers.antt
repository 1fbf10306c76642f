-- Packets, one by one.
use Rattle.std.proofs.Common.{◌∙◌, ◌+◌, arith, refl}
use Rattle.vx_node.proofs.SettleSent.{sent_all, sent_ends, sent_many, sent_more}
use Rattle.vx_node.proofs.WentThen.{went_none}
use Rattle.vx_node.proofs.settle_packets.deliver_sent.Goals as goal

pub returns-then-end-before-clause-went : goal.returns-then-end-before-clause-went
returns-then-end-before-clause-went g c = λ d serves low.
    let p = c.args.first.now in
    let q = c.args.second.now in
    let a = c.args.here in
    let b = c.args.there in
    let y = c.args.yard.now in
    let sent = c.count-end.ensures.count ∙ sent_many p q a b d y serves in
    absurd (omega (arith, sent, low, c.if-end-before.true))

pub loop-done-init : goal.loop-done-init
loop-done-init g c = (λ d serves low. went_none c.args.first.now c.args.second.now c.args.here c.args.there d c.args.yard.now serves, refl, λ told. told)

pub loop-done-preserved : goal.loop-done-preserved
loop-done-preserved g c = (
  λ d serves low.
      let p = c.args.first.now in
      let q = c.args.second.now in
      let a = c.args.here in
      let b = c.args.there in
      let y = c.args.yard.now in
      let sent = c.count-end.ensures.count ∙ sent_many p q a b d y serves in
      let n = c.loop-done.done in
      let one = c.loop-done.invariant.0 d serves low in
      sent_more p q a b c.args.before n d y c.loop-done.yard c.hand_next.new.yard one (omega (arith, sent, c.loop-done-test.true)) (n + 1) (omega arith) (λ m now more. c.in-On.ensures.went m now more),
  c.hand_next.ensures.files ∙ c.loop-done.invariant.1,
  λ told. c.loop-done.invariant.2 (c.hand_next.ensures.told told),
)

pub returns-in_default-clause-went : goal.returns-in_default-clause-went
returns-in_default-clause-went g c = λ d serves low.
    let p = c.args.first.now in
    let q = c.args.second.now in
    let a = c.args.here in
    let b = c.args.there in
    let y = c.args.yard.now in
    let sent = c.count-end.ensures.count ∙ sent_many p q a b d y serves in
    let n = c.loop-done.done in
    let one = c.loop-done.invariant.0 d serves low in
    sent_ends p q a b c.args.before n d y c.loop-done.yard c.hand_next.new.yard one (omega (arith, sent, c.loop-done-test.true)) c.hand_next.result c.in_default.not-On (λ m now more. c.hand_next.ensures.went m now more)

pub returns-clause-went : goal.returns-clause-went
returns-clause-went g c = λ d serves low.
    let p = c.args.first.now in
    let q = c.args.second.now in
    let a = c.args.here in
    let b = c.args.there in
    let y = c.args.yard.now in
    let sent = c.count-end.ensures.count ∙ sent_many p q a b d y serves in
    sent_all p q a b c.args.before c.loop-done.done d y c.loop-done.yard (c.loop-done.invariant.0 d serves low) (omega (arith, sent, low, c.if-end-before.false, c.loop-done-test.false))

pub returns-then-end-before-clause-told : goal.returns-then-end-before-clause-told
returns-then-end-before-clause-told g c = λ told. told

pub returns-in_default-clause-told : goal.returns-in_default-clause-told
returns-in_default-clause-told g c = λ told. c.loop-done.invariant.2 (c.hand_next.ensures.told told)

pub returns-clause-told : goal.returns-clause-told
returns-clause-told g c = λ told. c.loop-done.invariant.2 told
