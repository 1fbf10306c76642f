-- `has_good`: what stays true in its loop over `k`.
use Rattle.std.proofs.Common.{◌∙◌, sym, inl, inr}
use Rattle.vx_copies.proofs.Settling.{failed_at as failed_is, no_disk}
use Rattle.vx_copies.proofs.Marked.{none_more}
use Rattle.vx_copies.proofs.marking.has_good.Goals.{else-not-disks-k-via-then-not-disks-k+else-is_member, else-not-disks-k-via-else-not-disks-k}
use Rattle.vx_copies.proofs.marking.has_good.Goals as goal

pub loop-k-preserved : goal.loop-k-preserved
loop-k-preserved c =
    none_more c.as_slice-disks.result.now c.loop-k.k c.args.good c.loop-k.invariant
    (elim c.else-not-disks-k.branch [
      | else-not-disks-k-via-then-not-disks-k+else-is_member w ↦ inr (sym w.is_member.ensures ∙ w.if-is_member.false)
      | else-not-disks-k-via-else-not-disks-k w ↦ inl (failed_is c.as_slice-disks.result.now c.loop-k.k no_disk c.loop-k-test.true ∙ w.if-not-disks-k.false)
    ])
