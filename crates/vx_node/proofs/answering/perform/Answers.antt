-- What a line that no test refuses does.
use Rattle.std.proofs.Common.{◌∙◌, refl, subst, sym}
use Rattle.std.specs.Prelude.{IfOk}
use Rattle.vx_yard.specs.OfSites.{AsAsked, AsSettled, HasCalled}
use Rattle.vx_yard.specs.Working.{IsFree}
use Rattle.vx_link_lines.proofs.AnswerFor.{memory_taken, other_settled}
use Rattle.vx_yard.specs.AboveLines.{WorksIs}
use Rattle.vx_events.specs.OpenLines.{is_open}
use Rattle.std.specs.Prelude.{◌≡◌, false}
use Rattle.vx_node.proofs.Built.{goes_whole, not_alone}
use Rattle.vx_above.proofs.Works.{works_plain}
use Rattle.vx_node.proofs.answering.perform.Goals as goal

pub settle_line-requires-clause-free : goal.settle_line-requires-clause-free
settle_line-requires-clause-free g c = λ κs lives. subst (λ line. IsFree c.args.yard.now line) c.in-Settle.is c.requires.free

pub work_group-requires-clause-goes : goal.work_group-requires-clause-goes
work_group-requires-clause-goes g c = λ κs lives. c.is_of_group.ensures.kind c.if-is_of_group.true

pub work-requires-clause-whole : goal.work-requires-clause-whole
work-requires-clause-whole g c = λ κs lives. goes_whole c.args.words.now (λ p s is. c.in_default.not-Settle p s is)

pub work-requires-clause-other : goal.work-requires-clause-other
work-requires-clause-other g c = λ κs lives. not_alone _ _ c.is_of_group.ensures.always c.if-is_of_group.false

pub returns-in-Settle-clause-leads : goal.returns-in-Settle-clause-leads
returns-in-Settle-clause-leads g c = λ d stands closed carries good.
    let shut = subst (λ line. is_open d.world line ≡ false) c.in-Settle.is closed in
    subst (λ line. WorksIs d line c.args.yard.now c.settle_line.new.yard c.settle_line.result) (sym c.in-Settle.is)
    (works_plain d _ c.args.yard.now c.settle_line.new.yard tt shut refl c.settle_line.result refl (c.settle_line.ensures.leads d stands carries good))

pub returns-in-Settle-clause-asked : goal.returns-in-Settle-clause-asked
returns-in-Settle-clause-asked g c = λ d stands off links. subst (λ line. AsAsked d.world line c.args.yard.now c.settle_line.new.yard) (sym c.in-Settle.is) tt

pub returns-in-Settle-clause-settled : goal.returns-in-Settle-clause-settled
returns-in-Settle-clause-settled g c = λ d stands links carries good.
    subst (λ line. AsSettled line c.args.yard.now c.settle_line.new.yard) (sym c.in-Settle.is)
    (c.settle_line.ensures.asked d stands carries good)

pub returns-in-Settle-clause-called : goal.returns-in-Settle-clause-called
returns-in-Settle-clause-called g c = λ d stands off links carries good.
    subst (λ line. IfOk c.settle_line.result (λ said. HasCalled d.world line said c.args.yard.now c.settle_line.new.yard)) (sym c.in-Settle.is)
    (c.settle_line.ensures.called d stands carries good)

pub returns-in-Settle-clause-whole : goal.returns-in-Settle-clause-whole
returns-in-Settle-clause-whole g c = λ none. memory_taken c.args.words.now _ c.in-Settle.is refl none

pub returns-then-is_of_group-clause-leads : goal.returns-then-is_of_group-clause-leads
returns-then-is_of_group-clause-leads g c = λ d stands closed carries good. c.work_group.ensures.leads d stands (sym (c.is_of_group.ensures.is d stands) ∙ c.if-is_of_group.true) closed

pub returns-then-is_of_group-clause-asked : goal.returns-then-is_of_group-clause-asked
returns-then-is_of_group-clause-asked g c = λ d stands off links. c.work_group.ensures.asked d stands (sym (c.is_of_group.ensures.is d stands) ∙ c.if-is_of_group.true) off

pub returns-then-is_of_group-clause-settled : goal.returns-then-is_of_group-clause-settled
returns-then-is_of_group-clause-settled g c = λ d stands links carries good. other_settled c.args.words.now c.args.yard.now c.work_group.new.yard (λ p s is. c.in_default.not-Settle p s is)

pub returns-then-is_of_group-clause-called : goal.returns-then-is_of_group-clause-called
returns-then-is_of_group-clause-called g c = λ d stands off links carries good. c.work_group.ensures.called d stands (sym (c.is_of_group.ensures.is d stands) ∙ c.if-is_of_group.true) off

pub returns-then-is_of_group-clause-whole : goal.returns-then-is_of_group-clause-whole
returns-then-is_of_group-clause-whole g c = λ none. c.work_group.ensures.whole none

pub returns-else-is_of_group-clause-leads : goal.returns-else-is_of_group-clause-leads
returns-else-is_of_group-clause-leads g c = λ d stands closed carries good.
    let not = sym (c.is_of_group.ensures.is d stands) ∙ c.if-is_of_group.false in
    c.work.ensures.leads d stands not closed carries good

pub returns-else-is_of_group-clause-asked : goal.returns-else-is_of_group-clause-asked
returns-else-is_of_group-clause-asked g c = λ d stands off links. c.work.ensures.asked d stands (sym (c.is_of_group.ensures.is d stands) ∙ c.if-is_of_group.false) off links

pub returns-else-is_of_group-clause-settled : goal.returns-else-is_of_group-clause-settled
returns-else-is_of_group-clause-settled g c = λ d stands links carries good. other_settled c.args.words.now c.args.yard.now c.work.new.yard (λ p s is. c.in_default.not-Settle p s is)

pub returns-else-is_of_group-clause-called : goal.returns-else-is_of_group-clause-called
returns-else-is_of_group-clause-called g c = λ d stands off links carries good. c.work.ensures.called d stands (sym (c.is_of_group.ensures.is d stands) ∙ c.if-is_of_group.false) off links carries good

pub returns-else-is_of_group-clause-whole : goal.returns-else-is_of_group-clause-whole
returns-else-is_of_group-clause-whole g c = λ none. c.work.ensures.whole none
