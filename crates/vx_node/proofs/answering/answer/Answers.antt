-- What a line is answered.
use Rattle.std.proofs.Common.{◌∙◌, ⊎_elim, false, refl, sym, subst, true}
use Rattle.std.specs.Prelude.{◌≡◌, IsSome, Option, None, Some}
use Rattle.vx_model.specs.declared.no.No.{No}
use Rattle.vx_yard.specs.Working.{refused_in}
use Rattle.vx_link_lines.proofs.AnswerFor.{refusal_answer}
use Rattle.vx_node.proofs.Works.{works_answer}
use Rattle.vx_node.proofs.answering.answer.Goals as goal

pub returns-in-None-clause-leads : goal.returns-in-None-clause-leads
returns-in-None-clause-leads g c = λ d stands closed carries good.
    let free : refused_in c.args.yard.now c.args.words.now ≡ None = sym c.refusal.ensures ∙ c.in-None.is in
    works_answer d c.args.words.now c.args.yard.now c.perform.new.yard c.perform.result stands carries free (c.perform.ensures.leads d stands (closed free) carries good)

pub returns-in-None-clause-settled : goal.returns-in-None-clause-settled
returns-in-None-clause-settled g c = λ d stands links carries good free. c.perform.ensures.settled d stands links carries good

pub returns-in-Some-clause-settled : goal.returns-in-Some-clause-settled
returns-in-Some-clause-settled g c = λ d stands links carries good free.
    let some : refused_in c.args.yard.now c.args.words.now ≡ Some c.in-Some.no = sym c.refusal.ensures ∙ c.in-Some.is in
    let none : refused_in c.args.yard.now c.args.words.now ≡ None = free in absurd (cc)

pub returns-in-Some-clause-leads : goal.returns-in-Some-clause-leads
returns-in-Some-clause-leads g c = λ d stands closed carries good.
    refusal_answer d c.args.words.now c.args.yard.now c.in-Some.no stands carries (sym c.refusal.ensures ∙ c.in-Some.is)

pub returns-in-Some-clause-whole : goal.returns-in-Some-clause-whole
returns-in-Some-clause-whole g c = λ none. refl

pub returns-in-None-clause-whole : goal.returns-in-None-clause-whole
returns-in-None-clause-whole g c = λ none.
    ⊎_elim (λ taken. c.perform.ensures.whole taken) (λ some. absurd (let e : false ≡ true = subst (λ (o : Option No). IsSome o) (sym c.refusal.ensures ∙ c.in-None.is) some in cc)) none
