-- Each case of the connect and what follows on it.
use Rattle.std.proofs.Common.{◌∙◌, ap, refl}
use Rattle.vx_script.specs.declared.line.ScriptLine.TheVariants.{Settle}
use Rattle.vx_settling.specs.Burnt.{noted_as}
use Rattle.vx_yard.proofs.OfSites.{all_still}
use Rattle.vx_node.proofs.SettleLine.{connected, line_asked, line_by, line_called, sent_before, stays_so, still}
use Rattle.vx_node.proofs.SettleParts.{still_at}
use Rattle.vx_node.proofs.SettleSent.{sent_many}
use Rattle.vx_node.proofs.StepWent.{told_same}
use Rattle.vx_node.proofs.settled.settle_begun.Goals as goal

pub connect_line-requires-clause-kept : goal.connect_line-requires-clause-kept
connect_line-requires-clause-kept g c = λ κs within. c.may.ensures.kept c.if-not-may.false

pub connect_line-requires-clause-free : goal.connect_line-requires-clause-free
connect_line-requires-clause-free g c = λ κs within. c.may.ensures.free c.if-not-may.false

pub returns-then-not-may-clause-leads : goal.returns-then-not-may-clause-leads
returns-then-not-may-clause-leads g c = λ d stands carries serves. still d (Settle c.args.first.now c.args.second.now) c.args.yard.now stands

pub returns-then-not-may-clause-asked : goal.returns-then-not-may-clause-asked
returns-then-not-may-clause-asked g c = λ d serves. all_still c.args.yard.now c.args.yard.now refl

pub returns-in_default-clause-leads : goal.returns-in_default-clause-leads
returns-in_default-clause-leads g c = λ d stands carries serves. still d (Settle c.args.first.now c.args.second.now) c.args.yard.now stands

pub returns-in_default-clause-asked : goal.returns-in_default-clause-asked
returns-in_default-clause-asked g c = λ d serves. all_still c.args.yard.now c.args.yard.now refl

pub returns-in-Err-clause-leads : goal.returns-in-Err-clause-leads
returns-in-Err-clause-leads g c = λ d stands carries serves.
    stays_so d (Settle c.args.first.now c.args.second.now) c.args.yard.now c.connect_line.new.yard (c.in-Err.ensures.leads d stands carries)

pub returns-in-Err-clause-asked : goal.returns-in-Err-clause-asked
returns-in-Err-clause-asked g c = λ d serves. all_still c.args.yard.now c.connect_line.new.yard (ap (λ es. es.items) c.in-Err.ensures.still)

pub returns-in-Err-clause-told : goal.returns-in-Err-clause-told
returns-in-Err-clause-told g c = told_same c.args.yard.now c.connect_line.new.yard (ap (λ es. es.items) c.in-Err.ensures.still)

pub returns-clause-leads : goal.returns-clause-leads
returns-clause-leads g c = λ d stands carries serves.
    let p = c.args.first.now in
    let q = c.args.second.now in
    let a = c.args.here in
    let b = c.args.there in
    let y = c.args.yard.now in
    let mid = c.connect_line.new.yard in
    let new = c.settle_on-went.new.yard in
    let n = serves.noted in
    let same = ap (λ es. es.items) c.in-Ok.ensures.still in
    let one = connected d y mid p q a b _ serves (told_same y mid same) (all_still y mid same) (still_at p q a b d y mid serves same) (c.in-Ok.ensures.leads (noted_as n.fuses d) n.stands n.carries) in
    let sent = c.count-before.ensures.count ∙ sent_many p q a b d y serves in
    let durable = (c.in-Some.ensures d p q serves).1 in
    let low = sent_before d y mid new p q a b c.count-before.result c.in-Some.shown.head serves one sent durable in
    line_by d y mid new p q a b c.count-before.result c.in-Some.shown.head serves one sent durable c.settle_on-went.result c.is_settled-settled.result c.end_of.result c.end_of.ensures (c.settle_on-went.ensures.went one.next one.serves low)
    (λ is e so. c.is_settled-settled.ensures is e p q so)

pub returns-clause-asked : goal.returns-clause-asked
returns-clause-asked g c = λ d serves.
    let p = c.args.first.now in
    let q = c.args.second.now in
    let a = c.args.here in
    let b = c.args.there in
    let y = c.args.yard.now in
    let mid = c.connect_line.new.yard in
    let new = c.settle_on-went.new.yard in
    let n = serves.noted in
    let same = ap (λ es. es.items) c.in-Ok.ensures.still in
    let one = connected d y mid p q a b _ serves (told_same y mid same) (all_still y mid same) (still_at p q a b d y mid serves same) (c.in-Ok.ensures.leads (noted_as n.fuses d) n.stands n.carries) in
    let sent = c.count-before.ensures.count ∙ sent_many p q a b d y serves in
    let durable = (c.in-Some.ensures d p q serves).1 in
    let low = sent_before d y mid new p q a b c.count-before.result c.in-Some.shown.head serves one sent durable in
    line_asked d y mid new p q a b c.count-before.result c.in-Some.shown.head serves one sent durable c.settle_on-went.result (c.settle_on-went.ensures.went one.next one.serves low)

pub returns-clause-told : goal.returns-clause-told
returns-clause-told g c = λ told. told_same c.args.yard.now c.connect_line.new.yard (ap (λ es. es.items) c.in-Ok.ensures.still) (c.settle_on-went.ensures.told told)

pub returns-then-not-may-clause-called : goal.returns-then-not-may-clause-called
returns-then-not-may-clause-called g c = λ d stands carries serves. tt

pub returns-in_default-clause-called : goal.returns-in_default-clause-called
returns-in_default-clause-called g c = λ d stands carries serves. tt

pub returns-in-Err-clause-called : goal.returns-in-Err-clause-called
returns-in-Err-clause-called g c = λ d stands carries serves. tt

pub returns-clause-called : goal.returns-clause-called
returns-clause-called g c = λ d stands carries serves.
    let p = c.args.first.now in
    let q = c.args.second.now in
    let a = c.args.here in
    let b = c.args.there in
    let y = c.args.yard.now in
    let mid = c.connect_line.new.yard in
    let new = c.settle_on-went.new.yard in
    let n = serves.noted in
    let same = ap (λ es. es.items) c.in-Ok.ensures.still in
    let one = connected d y mid p q a b _ serves (told_same y mid same) (all_still y mid same) (still_at p q a b d y mid serves same) (c.in-Ok.ensures.leads (noted_as n.fuses d) n.stands n.carries) in
    let sent = c.count-before.ensures.count ∙ sent_many p q a b d y serves in
    let durable = (c.in-Some.ensures d p q serves).1 in
    let low = sent_before d y mid new p q a b c.count-before.result c.in-Some.shown.head serves one sent durable in
    line_called d y mid new p q a b c.count-before.result c.in-Some.shown.head serves one sent durable c.settle_on-went.result c.is_settled-settled.result c.end_of.result c.end_of.ensures (c.settle_on-went.ensures.went one.next one.serves low)
