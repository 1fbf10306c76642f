-- `send`: clause bytes; what stays true in its loop over `sent`.
use Rattle.std.proofs.Common.{take, drop, arith, sym, ap, subst, List, [], ℕ, ◌≡◌, length, length-drop}
use Rattle.std.proofs.lemmas.Result.{err_from_is_err_and}
use Rattle.std.proofs.lemmas.List.{take-append-drop, take_rest}
use Rattle.std.specs.Io.KnownBytes.{Appends}
use Rattle.std.proofs.Math.Seq.{take-add}
use Rattle.vx_stream.proofs.SendLemmas.{appends_then, appends_kept}
use Rattle.vx_stream.proofs.sending.send.Goals as goal

pub returns-in_err-sent-clause-bytes : goal.returns-in_err-sent-clause-bytes
returns-in_err-sent-clause-bytes g c =
    let p = err_from_is_err_and c.from_residual.result c.from_residual.ensures.1 in
    rw p.1 (
      take c.loop-sent.sent c.args.bytes.now,
      drop c.loop-sent.sent c.args.bytes.now,
      sym (take-append-drop c.loop-sent.sent c.args.bytes.now),
      λ (none : drop c.loop-sent.sent c.args.bytes.now ≡ []). omega (arith, ap length none, length-drop c.loop-sent.sent c.args.bytes.now),
      appends_kept _ _ _ _ c.loop-sent.invariant.bytes c.in_err-sent.ensures.bytes,
    )

pub loop-sent-preserved : goal.loop-sent-preserved
loop-sent-preserved g c =
    let rest = rw (take_rest c.args.bytes.now c.loop-sent.sent) at c.in_ok-sent.ensures.bytes in
    let bound = rw (take_rest c.args.bytes.now c.loop-sent.sent) at c.in_ok-sent.ensures.bound in
    record {
      within = omega (arith, bound.1, length-drop c.loop-sent.sent c.args.bytes.now);
      bytes = subst (λ (t : List ℕ). Appends (g.O.Sink.written c.args.sink.now) (g.O.Sink.written c.put.new.self) t)
          (sym (take-add c.loop-sent.sent c.in_ok-sent.field-0 c.args.bytes.now))
          (appends_then _ _ _ _ _ c.loop-sent.invariant.bytes rest);
      later = omega (arith, c.loop-sent.invariant.later, c.in_ok-sent.ensures.cause.later);
    }
