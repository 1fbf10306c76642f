-- `patch`: what stays true in its loop over `k`.
use Rattle.std.proofs.Common.{sym, ap, Some, subst, ℕ, arith, ◌+◌, ◌∙◌, List}
use Rattle.vx_overlay.specs.Pending.{newest}
use Rattle.vx_rvg.proofs.PatchFacts.{IsPatchedTo, patched_none, patched_put, got, got_none}
use Rattle.vx_rvg.proofs.patch.patch.Goals as goal
use Rattle.vx_rvg.proofs.patch.patch.Goals.{then-get, else-get}

pub loop-k-preserved : goal.loop-k-preserved
loop-k-preserved c =
    let es : _ = c.args.pending.now.entries in
    let here : _ = newest es c.args.vol (c.args.start + c.loop-k.k) in
    elim c.if-get.branch [
      | then-get w ↦
          patched_put es c.args.vol c.args.start c.loop-k.k c.args.into.now c.loop-k.into c.loop-k.invariant c.loop-k-test.true _ w.copy_from_slice.new.self c.if-get.into (omega arith) (omega (arith, w.copy_from_slice.ensures.len))
          (got here c.get.result _ c.get.new.into c.get.ensures w.if-get.true ∙ ap (λ (l : List ℕ). Some l) (sym w.copy_from_slice.ensures.after)) w.into-is
      | else-get w ↦ subst (λ (l : List ℕ). IsPatchedTo es c.args.vol c.args.start (c.loop-k.k + 1) c.args.into.now l) (sym w.into-is)
          (patched_none es c.args.vol c.args.start c.loop-k.k c.args.into.now c.loop-k.into c.loop-k.invariant c.loop-k-test.true (got_none here c.get.result _ c.get.new.into c.get.ensures w.if-get.false))
    ]
