-- `seek`: clause is; what stays true in its loop over `back`; that no number grows too large.
use Rattle.std.proofs.Common.{◌≡◌, ◌∙◌, ℕ, ◌+◌, ◌-◌, length, take, ap, arith}
use Rattle.vx_sites.specs.Messages.{packets_in}
use Rattle.vx_sites.proofs.Dispatching.{one_before}
use Rattle.vx_sites.proofs.dispatches.seek.Goals as goal

pub overflow_sub-first : goal.overflow_sub-first
overflow_sub-first c =
    let first : ℕ = length (packets_in (take (length c.args.sent.now - 1 - c.loop-back.back) c.args.sent.now)) in
    let ends : c.loop-back.end ≡ first + c.from.result =
    one_before c.args.sent.now c.loop-back.back c.loop-back.end c.from.result c.index-sent-place.result c.loop-back-test.true c.index-sent-place.is (c.from.ensures ∙ c.parts_of.ensures) c.loop-back.invariant.0 in
    omega (arith, ends)

pub returns-then-first-number-clause-is : goal.returns-then-first-number-clause-is
returns-then-first-number-clause-is c =
    let first : ℕ = length (packets_in (take (length c.args.sent.now - 1 - c.loop-back.back) c.args.sent.now)) in
    let ends : c.loop-back.end ≡ first + c.from.result =
    one_before c.args.sent.now c.loop-back.back c.loop-back.end c.from.result c.index-sent-place.result c.loop-back-test.true c.index-sent-place.is (c.from.ensures ∙ c.parts_of.ensures) c.loop-back.invariant.0 in
    omega (arith, ends, c.if-first-number.true)

pub loop-back-preserved : goal.loop-back-preserved
loop-back-preserved c =
    let sent = c.args.sent.now in
    let first : ℕ = length (packets_in (take (length sent - 1 - c.loop-back.back) sent)) in
    let ends : c.loop-back.end ≡ first + c.from.result =
    one_before sent c.loop-back.back c.loop-back.end c.from.result c.index-sent-place.result c.loop-back-test.true c.index-sent-place.is (c.from.ensures ∙ c.parts_of.ensures) c.loop-back.invariant.0 in
    let next : length sent - 1 - c.loop-back.back ≡ length sent - (c.loop-back.back + 1) = omega arith in
    let left : c.loop-back.end - c.from.result ≡ first = omega (arith, ends) in
    (left ∙ ap (λ (k : ℕ). length (packets_in (take k sent))) next, c.if-first-number.false)
