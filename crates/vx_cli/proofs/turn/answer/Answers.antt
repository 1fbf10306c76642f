-- `answer`: clause answer; what `answer_line` asks.
use Rattle.std.proofs.Common.{[], ℕ, Ok, ap, arith, subst, ◌∙◌}
use Rattle.vx_stream.proofs.SendLemmas.{appends_none}
use Rattle.vx_cli.specs.Turns.{BadIs, StopsAtReply, StopsBefore}
use Rattle.vx_events.proofs.Places.{some_same}
use Rattle.vx_cli.proofs.TurnLemmas.{stays, did_nothing, did_line, bad_answer, memory_answer, open_answer, rose_behind}
use Rattle.vx_cli.proofs.StepLemmas.{line_built}
use Rattle.vx_cli.proofs.turn.answer.Goals as goal

pub returns-in-Ok-None-clause-answer : goal.returns-in-Ok-None-clause-answer
returns-in-Ok-None-clause-answer g c =
    let says = c.in-Ok-None.ensures ∙ ap Ok c.in-Ok-None.field-0-is in
    λ w stands. ([], did_nothing w c.args.line.now c.args.yard.now says stands, appends_none _)

pub returns-in-Ok-clause-answer : goal.returns-in-Ok-clause-answer
returns-in-Ok-clause-answer g c =
    let says = c.in-Ok-Some.ensures ∙ ap Ok c.in-Ok-Some.field-0-is in
    λ w stands. let is = c.in-Ok.ensures.line w stands in (is.0, did_line w c.args.line.now c.in-Ok-Some.words _ _ is.0 says stands c.in-Ok.ensures.told is.1, is.2)

pub returns-in-Err-WriteFault-clause-answer : goal.returns-in-Err-WriteFault-clause-answer
returns-in-Err-WriteFault-clause-answer g c =
    let says = c.in-Ok-Some.ensures ∙ ap Ok c.in-Ok-Some.field-0-is in
    λ w stands. let is = rw c.in-Err-WriteFault.field-0-is at c.in-Err-WriteFault.ensures.line w stands in
    StopsAtReply is.0 is.1 (did_line w c.args.line.now c.in-Ok-Some.words _ _ is.0 says stands c.in-Err-WriteFault.ensures.told is.3) (record { unsent = is.2; is = is.4; some = is.5 }) is.6

pub returns-in-Ok-Some-clause-answer : goal.returns-in-Ok-Some-clause-answer
returns-in-Ok-Some-clause-answer g c =
    let says = c.in-Ok-Some.ensures ∙ ap Ok c.in-Ok-Some.field-0-is in
    λ w stands. let is = rw c.in-Err-OutOfMemory-answer_line.field-0-is at c.in-Err-OutOfMemory-answer_line.ensures.line w stands in
    (memory_answer w c.args.line.now c.in-Ok-Some.words _ _ says stands c.in-Err-OutOfMemory-answer_line.ensures.told is.0, is.1)

pub returns-in-Err-Open-clause-answer : goal.returns-in-Err-Open-clause-answer
returns-in-Err-Open-clause-answer g c =
    let says = c.in-Ok-Some.ensures ∙ ap Ok c.in-Ok-Some.field-0-is in
    λ w stands. let is = rw c.in-Err-Open.field-0-is at c.in-Err-Open.ensures.line w stands in
    open_answer c.args.number w c.args.line.now c.in-Ok-Some.words c.unbuilt.result _ _ _ _ _ says stands c.in-Err-Open.ensures.told is c.unbuilt.ensures.bad

pub returns-in-Err-Open-clause-later : goal.returns-in-Err-Open-clause-later
returns-in-Err-Open-clause-later g c = omega (arith, c.in-Err-Open.ensures.later, c.unbuilt.ensures.later)

pub returns-in-Err-Open-clause-cause : goal.returns-in-Err-Open-clause-cause
returns-in-Err-Open-clause-cause g c = λ is. rose_behind _ _ _ c.in-Err-Open.ensures.later (c.unbuilt.ensures.cause (some_same is))

pub returns-in-Err-Bad-clause-answer : goal.returns-in-Err-Bad-clause-answer
returns-in-Err-Bad-clause-answer g c =
    let says = rw c.in-Err-Bad.field-0-is at c.in-Err-Bad.ensures in
    let is = subst (λ (k : ℕ). BadIs k c.in-Err-Bad.column c.bad.result (g.O.Sink.written c.args.sink.now) (g.O.Sink.written c.bad.new.sink)) says.0 c.bad.ensures.bad in
    λ w stands. bad_answer c.args.number w c.args.line.now c.in-Err-Bad.column c.bad.result c.args.yard.now _ _ says.1 stands is

pub returns-clause-answer : goal.returns-clause-answer
returns-clause-answer g c = λ w stands. (StopsBefore (stays w c.args.yard.now stands), appends_none _)

pub answer_line-requires-clause-built : goal.answer_line-requires-clause-built
answer_line-requires-clause-built g c = λ κs lives. line_built c.args.line.now c.in-Ok-Some.words (c.in-Ok-Some.ensures ∙ ap Ok c.in-Ok-Some.field-0-is)
