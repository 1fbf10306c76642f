-- `is_committed`: what stays true in its loop over `k`.
use Rattle.std.proofs.Common.{◌∙◌, arith}
use Rattle.vx_copies.proofs.Settling.{failed_at as failed_is, no_disk}
use Rattle.vx_group.proofs.TrustLemmas.{good_more}
use Rattle.vx_group.proofs.marking.is_committed.Goals as goal

pub loop-k-init : goal.loop-k-init
loop-k-init c = record { each = λ u lt. absurd (omega (arith, lt)) }

pub loop-k-preserved : goal.loop-k-preserved
loop-k-preserved c =
    good_more c.as_slice-disks.result.now c.loop-k.k c.loop-k.invariant (failed_is c.as_slice-disks.result.now c.loop-k.k no_disk c.loop-k-test.true ∙ c.if-disks-k.false)
