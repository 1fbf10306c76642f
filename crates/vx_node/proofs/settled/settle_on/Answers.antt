-- What was sent by the connect is delivered, and turns follow.
use Rattle.std.specs.Prelude.{drop}
use Rattle.vx_history.specs.Settling.{deliver_between, turns}
use Rattle.vx_history.specs.Step.{run}
use Rattle.vx_settling.proofs.Running.{are_delivered}
use Rattle.vx_node.proofs.WentOn.{went_on}
use Rattle.vx_node.proofs.WentThen.{went_more}
use Rattle.vx_node.proofs.settled.settle_on.Goals as goal

pub returns-in-On-clause-went : goal.returns-in-On-clause-went
returns-in-On-clause-went g c = λ d serves low.
    let p = c.args.first.now in
    let q = c.args.second.now in
    let a = c.args.here in
    let b = c.args.there in
    let before = c.args.before in
    let one = c.in-On.ensures.went d serves low in
    went_on p q a b d (deliver_between a b before (drop before d.world.packets)) (λ v. turns c.args.head v a b) c.args.yard.now c.deliver_sent.new.yard c.turns.new.yard c.turns.result
    (are_delivered a b before (drop before d.world.packets)) one (c.turns.ensures.went one.next one.serves)

pub returns-in-On-clause-told : goal.returns-in-On-clause-told
returns-in-On-clause-told g c = λ told. c.in-On.ensures.told (c.turns.ensures.told told)

pub returns-in_default-clause-went : goal.returns-in_default-clause-went
returns-in_default-clause-went g c = λ d serves low.
    let a = c.args.here in
    let b = c.args.there in
    let before = c.args.before in
    let came = deliver_between a b before (drop before d.world.packets) in
    went_more c.args.first.now c.args.second.now a b d came (turns c.args.head (run d.world came) a b) c.args.yard.now c.deliver_sent.new.yard c.deliver_sent.result c.in_default.not-On (c.deliver_sent.ensures.went d serves low)

pub returns-in_default-clause-told : goal.returns-in_default-clause-told
returns-in_default-clause-told g c = λ told. c.deliver_sent.ensures.told told
