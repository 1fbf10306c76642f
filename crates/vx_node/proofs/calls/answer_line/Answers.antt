-- A line, answered and sent, or one at which the run ends.
use Rattle.std.proofs.Common.{◌≡◌, ◌∙◌, false, inl, inr, refl, subst, sym, true}
use Rattle.std.specs.Io.KnownBytes.{Appends}
use Rattle.vx_yard.specs.Replies.{text_of}
use Rattle.vx_yard.specs.Working.{IsFree}
use Rattle.vx_stream.proofs.SendLemmas.{appends_none}
use Rattle.vx_link_lines.proofs.AnswerFor.{answer_steps, settled_still, stays_still}
use Rattle.vx_node.proofs.calls.answer_line.Goals as goal

pub returns-then-ends_run-clause-line : goal.returns-then-ends_run-clause-line
returns-then-ends_run-clause-line g c = λ d s.
    (c.ends_run.ensures.ends c.if-ends_run.true d s.stands s.carries, stays_still d c.args.yard.now s.stands, appends_none (g.O.Sink.written c.args.out.now))

pub returns-in_default-clause-line : goal.returns-in_default-clause-line
returns-in_default-clause-line g c = λ d s. (
  inl (c.in_default.ensures.leads d s.stands (λ free. c.ends_run.ensures.closed c.if-ends_run.false free d s.stands s.carries) s.carries s.good),
  appends_none (g.O.Sink.written c.args.out.now),
)

pub returns-in_default-replied-clause-line : goal.returns-in_default-replied-clause-line
returns-in_default-replied-clause-line g c = λ d s.
    let closed = λ (free : IsFree c.args.yard.now c.args.words.now). c.ends_run.ensures.closed c.if-ends_run.false free d s.stands s.carries in (
      inr (
        text_of c.in-Ok.said c.sent_since.result,
        answer_steps d c.args.words.now c.args.yard.now c.answer.new.yard c.in-Ok.said c.count-before.result c.count.result c.sent_since.result s.carries c.count-before.ensures.count c.count.ensures.count c.sent_since.ensures (c.in-Ok.ensures.leads d s.stands closed s.carries s.good)
            (λ free off. c.in-Ok.ensures.called d s.stands off (closed free) s.carries s.good free),
      ),
      appends_none (g.O.Sink.written c.args.out.now),
    )

pub returns-in-Ok-send-clause-line : goal.returns-in-Ok-send-clause-line
returns-in-Ok-send-clause-line g c = λ d s.
    let closed = λ (free : IsFree c.args.yard.now c.args.words.now). c.ends_run.ensures.closed c.if-ends_run.false free d s.stands s.carries in (
      text_of c.in-Ok.said c.sent_since.result,
      answer_steps d c.args.words.now c.args.yard.now c.answer.new.yard c.in-Ok.said c.count-before.result c.count.result c.sent_since.result s.carries c.count-before.ensures.count c.count.ensures.count c.sent_since.ensures (c.in-Ok.ensures.leads d s.stands closed s.carries s.good)
          (λ free off. c.in-Ok.ensures.called d s.stands off (closed free) s.carries s.good free),
      subst (λ xs. Appends (g.O.Sink.written c.args.out.now) (g.O.Sink.written c.send.new.sink) xs) (c.deref.ensures.value ∙ c.in-Ok-replied.ensures) c.in-Ok-send.ensures.bytes,
    )

pub returns-clause-line : goal.returns-clause-line
returns-clause-line g c = λ d s.
    let closed = λ (free : IsFree c.args.yard.now c.args.words.now). c.ends_run.ensures.closed c.if-ends_run.false free d s.stands s.carries in
    let bytes = c.in-Err.ensures.bytes in (
      text_of c.in-Ok.said c.sent_since.result,
      bytes.0,
      bytes.1,
      answer_steps d c.args.words.now c.args.yard.now c.answer.new.yard c.in-Ok.said c.count-before.result c.count.result c.sent_since.result s.carries c.count-before.ensures.count c.count.ensures.count c.sent_since.ensures (c.in-Ok.ensures.leads d s.stands closed s.carries s.good)
          (λ free off. c.in-Ok.ensures.called d s.stands off (closed free) s.carries s.good free),
      sym (c.deref.ensures.value ∙ c.in-Ok-replied.ensures) ∙ bytes.2,
      bytes.3,
      bytes.4,
    )

pub returns-then-ends_run-clause-asked : goal.returns-then-ends_run-clause-asked
returns-then-ends_run-clause-asked g c = λ d s free off links.
    absurd (let clash : true ≡ false = sym (c.ends_run.ensures.ends c.if-ends_run.true d s.stands s.carries).is ∙ links in cc)

pub returns-in_default-clause-asked : goal.returns-in_default-clause-asked
returns-in_default-clause-asked g c = λ d s free off links. c.in_default.ensures.asked d s.stands free off links

pub returns-in_default-replied-clause-asked : goal.returns-in_default-replied-clause-asked
returns-in_default-replied-clause-asked g c = λ d s free off links. c.in-Ok.ensures.asked d s.stands free off links

pub returns-in-Ok-send-clause-asked : goal.returns-in-Ok-send-clause-asked
returns-in-Ok-send-clause-asked g c = λ d s free off links. c.in-Ok.ensures.asked d s.stands free off links

pub returns-clause-asked : goal.returns-clause-asked
returns-clause-asked g c = λ d s free off links. c.in-Ok.ensures.asked d s.stands free off links

pub returns-then-ends_run-clause-settled : goal.returns-then-ends_run-clause-settled
returns-then-ends_run-clause-settled g c = λ d s free. settled_still c.args.words.now c.args.yard.now

pub returns-in_default-clause-settled : goal.returns-in_default-clause-settled
returns-in_default-clause-settled g c = λ d s free.
    c.in_default.ensures.settled d s.stands (c.ends_run.ensures.closed c.if-ends_run.false free d s.stands s.carries) s.carries s.good free

pub returns-in_default-replied-clause-settled : goal.returns-in_default-replied-clause-settled
returns-in_default-replied-clause-settled g c = λ d s free.
    c.in-Ok.ensures.settled d s.stands (c.ends_run.ensures.closed c.if-ends_run.false free d s.stands s.carries) s.carries s.good free

pub returns-in-Ok-send-clause-settled : goal.returns-in-Ok-send-clause-settled
returns-in-Ok-send-clause-settled g c = λ d s free.
    c.in-Ok.ensures.settled d s.stands (c.ends_run.ensures.closed c.if-ends_run.false free d s.stands s.carries) s.carries s.good free

pub returns-clause-settled : goal.returns-clause-settled
returns-clause-settled g c = λ d s free.
    c.in-Ok.ensures.settled d s.stands (c.ends_run.ensures.closed c.if-ends_run.false free d s.stands s.carries) s.carries s.good free

pub returns-then-ends_run-clause-done : goal.returns-then-ends_run-clause-done
returns-then-ends_run-clause-done g c = λ d s none goes. absurd (goes refl)

pub returns-in_default-clause-done : goal.returns-in_default-clause-done
returns-in_default-clause-done g c = λ d s none goes. absurd (let e : false ≡ true = c.in_default.ensures.whole none in cc)

pub returns-in_default-replied-clause-done : goal.returns-in_default-replied-clause-done
returns-in_default-replied-clause-done g c = λ d s none goes.
    let closed = λ (free : IsFree c.args.yard.now c.args.words.now). c.ends_run.ensures.closed c.if-ends_run.false free d s.stands s.carries in (
      text_of c.in-Ok.said c.sent_since.result,
      answer_steps d c.args.words.now c.args.yard.now c.answer.new.yard c.in-Ok.said c.count-before.result c.count.result c.sent_since.result s.carries c.count-before.ensures.count c.count.ensures.count c.sent_since.ensures (c.in-Ok.ensures.leads d s.stands closed s.carries s.good)
          (λ free off. c.in-Ok.ensures.called d s.stands off (closed free) s.carries s.good free),
    )

pub returns-in-Ok-send-clause-done : goal.returns-in-Ok-send-clause-done
returns-in-Ok-send-clause-done g c = λ d s none goes.
    let closed = λ (free : IsFree c.args.yard.now c.args.words.now). c.ends_run.ensures.closed c.if-ends_run.false free d s.stands s.carries in (
      text_of c.in-Ok.said c.sent_since.result,
      answer_steps d c.args.words.now c.args.yard.now c.answer.new.yard c.in-Ok.said c.count-before.result c.count.result c.sent_since.result s.carries c.count-before.ensures.count c.count.ensures.count c.sent_since.ensures (c.in-Ok.ensures.leads d s.stands closed s.carries s.good)
          (λ free off. c.in-Ok.ensures.called d s.stands off (closed free) s.carries s.good free),
    )

pub returns-clause-done : goal.returns-clause-done
returns-clause-done g c = λ d s none goes.
    let closed = λ (free : IsFree c.args.yard.now c.args.words.now). c.ends_run.ensures.closed c.if-ends_run.false free d s.stands s.carries in (
      text_of c.in-Ok.said c.sent_since.result,
      answer_steps d c.args.words.now c.args.yard.now c.answer.new.yard c.in-Ok.said c.count-before.result c.count.result c.sent_since.result s.carries c.count-before.ensures.count c.count.ensures.count c.sent_since.ensures (c.in-Ok.ensures.leads d s.stands closed s.carries s.good)
          (λ free off. c.in-Ok.ensures.called d s.stands off (closed free) s.carries s.good free),
    )
