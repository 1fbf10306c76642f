-- `first_line`: clause ends; what stays true in its loop over `k`.
use Rattle.std.proofs.Common.{◌≡◌, ℕ, length, subst, arith}
use Rattle.vx_node.proofs.SentText.{GoesOn, byte_at, ends_last, ends_there, goes_first, goes_further}
use Rattle.vx_node.proofs.sent.first_line.Goals as goal

pub loop-k-init : goal.loop-k-init
loop-k-init c = goes_first c.args.text.now

pub returns-then-text-k-eq10-clause-ends : goal.returns-then-text-k-eq10-clause-ends
returns-then-text-k-eq10-clause-ends c = ends_there c.args.text.now c.loop-k.k _ (byte_at c.args.text.now c.loop-k.k c.loop-k-test.true) c.if-text-k-eq10.true c.loop-k.invariant

pub loop-k-preserved : goal.loop-k-preserved
loop-k-preserved c = goes_further c.args.text.now c.loop-k.k _ (byte_at c.args.text.now c.loop-k.k c.loop-k-test.true) c.if-text-k-eq10.false c.loop-k.invariant

pub returns-clause-ends : goal.returns-clause-ends
returns-clause-ends c =
    let whole : c.loop-k.k ≡ length c.args.text.now = omega (arith, c.loop-k-test.false, c.loop-k.auto.k-end) in
    ends_last c.args.text.now (subst (λ (n : ℕ). GoesOn c.args.text.now n) whole c.loop-k.invariant)
