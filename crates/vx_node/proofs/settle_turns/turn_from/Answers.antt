-- The parts of a turn.
use Rattle.vx_history.specs.Step.{run}
use Rattle.vx_settling.specs.Turning.{applying_all, greeting_if, sending_again}
use Rattle.vx_node.proofs.SettleTurns.{are_again, are_applying, turn_later, turn_went}
use Rattle.vx_node.proofs.WentOn.{went_on}
use Rattle.vx_node.proofs.WentThen.{went_more}
use Rattle.vx_node.proofs.settle_turns.turn_from.Goals as goal

pub returns-in-On-apply_all-clause-went : goal.returns-in-On-apply_all-clause-went
returns-in-On-apply_all-clause-went g c = λ d serves is.
    let p = c.args.first.now in
    let q = c.args.second.now in
    let a = c.args.here in
    let b = c.args.there in
    let y = c.args.yard.now in
    let mid = c.send_again.new.yard in
    let far = c.apply_all.new.yard in
    let new = c.greet_if.new.yard in
    let one = c.in-On.ensures.went d serves in
    let two = c.in-On-apply_all.ensures.went one.next one.serves in
    turn_went p q a b d c.args.before y new c.greet_if.result is
    (went_on p q a b d (sending_again d.world a b) (turn_later c.args.before a b) y mid new c.greet_if.result (are_again d.world a b) one
    (went_on p q a b one.next (applying_all one.next.world a b) (λ v. greeting_if c.args.before v a b) mid far new c.greet_if.result (are_applying one.next.world a b) two (c.greet_if.ensures.went two.next two.serves)))

pub returns-in_default-apply_all-clause-went : goal.returns-in_default-apply_all-clause-went
returns-in_default-apply_all-clause-went g c = λ d serves is.
    let p = c.args.first.now in
    let q = c.args.second.now in
    let a = c.args.here in
    let b = c.args.there in
    let y = c.args.yard.now in
    let mid = c.send_again.new.yard in
    let far = c.apply_all.new.yard in
    let one = c.in-On.ensures.went d serves in
    let v = one.next.world in
    turn_went p q a b d c.args.before y far c.apply_all.result is
    (went_on p q a b d (sending_again d.world a b) (turn_later c.args.before a b) y mid far c.apply_all.result (are_again d.world a b) one
    (went_more p q a b one.next (applying_all v a b) (greeting_if c.args.before (run v (applying_all v a b)) a b) mid far c.apply_all.result c.in_default-apply_all.not-On (c.apply_all.ensures.went one.next one.serves)))

pub returns-in_default-clause-went : goal.returns-in_default-clause-went
returns-in_default-clause-went g c = λ d serves is.
    let p = c.args.first.now in
    let q = c.args.second.now in
    let a = c.args.here in
    let b = c.args.there in
    let y = c.args.yard.now in
    let again = sending_again d.world a b in
    turn_went p q a b d c.args.before y c.send_again.new.yard c.send_again.result is
    (went_more p q a b d again (turn_later c.args.before a b (run d.world again)) y c.send_again.new.yard c.send_again.result c.in_default.not-On (c.send_again.ensures.went d serves))

pub returns-in-On-apply_all-clause-told : goal.returns-in-On-apply_all-clause-told
returns-in-On-apply_all-clause-told g c = λ told. c.in-On.ensures.told (c.in-On-apply_all.ensures.told (c.greet_if.ensures.told told))

pub returns-in_default-apply_all-clause-told : goal.returns-in_default-apply_all-clause-told
returns-in_default-apply_all-clause-told g c = λ told. c.in-On.ensures.told (c.apply_all.ensures.told told)

pub returns-in_default-clause-told : goal.returns-in_default-clause-told
returns-in_default-clause-told g c = λ told. c.send_again.ensures.told told
