-- `turn`: clause turn.
use Rattle.std.proofs.Common.{ℕ, List, Some, subst, arith}
use Rattle.vx_cli.specs.Turns.{AnswerIs}
use Rattle.vx_cli.proofs.TurnLemmas.{turn_line, turn_last, turn_last_stop, turn_end, turn_long, turn_fault, turn_memory}
use Rattle.vx_cli.proofs.turn.turn.Goals as goal

pub returns-in-Ok-Line-clause-turn : goal.returns-in-Ok-Line-clause-turn
returns-in-Ok-Line-clause-turn g c =
    let answer = rw c.deref.ensures.value at c.answer.ensures.answer in
    λ w stands. turn_line c.args.number w _ _ c.next_line.new.line.items c.answer.result _ _ _ _ _ _ (rw c.in-Ok-Line.field-0-is at c.in-Ok-Line.ensures.next) (answer w stands) c.requires.few

pub returns-in-Some-clause-turn : goal.returns-in-Some-clause-turn
returns-in-Some-clause-turn g c =
    λ w stands.
    let answer = subst (λ (l : List ℕ). AnswerIs c.args.number w l (Some c.in-Some.status) c.args.yard.now c.answer-in-Ok-Last.new.yard (g.O.Sink.written c.args.sink.now) (g.O.Sink.written c.answer-in-Ok-Last.new.sink)) c.deref-in-Ok-Last.ensures.value (c.in-Some.ensures.answer w stands) in
    turn_last_stop c.args.number w _ _ c.next_line.new.line.items c.in-Some.status _ _ c.next_line.new.held.items _ _ _ (rw c.in-Ok-Last.field-0-is at c.in-Ok-Last.ensures.next) answer c.requires.few

pub returns-in-None-clause-turn : goal.returns-in-None-clause-turn
returns-in-None-clause-turn g c =
    let answer = rw c.deref-in-Ok-Last.ensures.value at c.in-None.ensures.answer in
    λ w stands. turn_last c.args.number w _ _ c.next_line.new.line.items _ _ c.next_line.new.held.items _ _ _ (rw c.in-Ok-Last.field-0-is at c.in-Ok-Last.ensures.next) (answer w stands) c.requires.few

pub returns-in-Ok-End-clause-turn : goal.returns-in-Ok-End-clause-turn
returns-in-Ok-End-clause-turn g c =
    let next = rw c.in-Ok-End.field-0-is at c.in-Ok-End.ensures.next in
    λ w stands. turn_end c.args.number w _ _ c.args.yard.now _ _ next.0 next.1 (omega (arith, c.requires.few)) stands

pub returns-in-Ok-Long-clause-turn : goal.returns-in-Ok-Long-clause-turn
returns-in-Ok-Long-clause-turn g c =
    let next = rw c.in-Ok-Long.field-0-is at c.in-Ok-Long.ensures.next in
    λ w stands. turn_long c.args.number w _ _ c.bad.result c.args.yard.now _ _ _ next c.bad.ensures.bad c.requires.few stands

pub returns-in-Err-Fault-clause-turn : goal.returns-in-Err-Fault-clause-turn
returns-in-Err-Fault-clause-turn g c =
    let next = rw c.in-Err-Fault.field-0-is at c.in-Err-Fault.ensures.next in
    λ w stands. turn_fault c.args.number w _ _ c.args.yard.now _ _ _ next.0 next.1 (omega (arith, c.requires.few)) stands

pub returns-in-Err-Memory-clause-turn : goal.returns-in-Err-Memory-clause-turn
returns-in-Err-Memory-clause-turn g c =
    λ w stands. turn_memory c.args.number w _ _ c.args.yard.now _ _ (omega (arith, c.requires.few)) stands
