-- `lowest_missing`: its result; what stays true in its loop over `k`.
use Rattle.std.proofs.Common.{arith, ◌≡◌, ◌∙◌, ◌<◌, length, get_or, ap, sym, inl, inr, List}
use Rattle.std.proofs.lemmas.Bool.{not-false}
use Rattle.vx_config.specs.declared.entry.DiskEntry.{DiskEntry}
use Rattle.vx_copies.specs.Answers.{flag_at}
use Rattle.vx_copies.specs.Bodies.{failed_in}
use Rattle.vx_copies.proofs.Settling.{failed_at, missing_is, missing_more, not_true, no_disk}
use Rattle.vx_copies.proofs.settle.lowest_missing.Goals.{else-not-disk-via-then-not-disk+else-not-readable-k, else-not-disk-via-else-not-disk}
use Rattle.vx_copies.proofs.settle.lowest_missing.Goals as goal

pub returns-then-not-readable-k : goal.returns-then-not-readable-k
returns-then-not-readable-k c =
    let count : length c.args.config.now.disks ≡ length c.as_slice-disks.result.now = sym (ap length c.as_slice-disks.ensures.disks) in
    let lt : c.loop-k.k < length c.args.config.now.disks = omega (arith, count, c.loop-k-test.true) in
    let same : failed_in c.args.config.now c.loop-k.k ≡ (get_or c.as_slice-disks.result.now c.loop-k.k no_disk).failed =
    failed_at c.args.config.now.disks c.loop-k.k no_disk lt ∙ ap (λ (xs : List DiskEntry). (get_or xs c.loop-k.k no_disk).failed) (sym c.as_slice-disks.ensures.disks) in
    missing_is (failed_in c.args.config.now) (flag_at c.args.readable.now) c.loop-k.k (length c.args.config.now.disks) c.loop-k.invariant lt
    (same ∙ not_true (get_or c.as_slice-disks.result.now c.loop-k.k no_disk).failed c.if-not-disk.true) c.if-not-readable-k.true

pub loop-k-preserved : goal.loop-k-preserved
loop-k-preserved c =
    let count : length c.args.config.now.disks ≡ length c.as_slice-disks.result.now = sym (ap length c.as_slice-disks.ensures.disks) in
    let lt : c.loop-k.k < length c.args.config.now.disks = omega (arith, count, c.loop-k-test.true) in
    let same : failed_in c.args.config.now c.loop-k.k ≡ (get_or c.as_slice-disks.result.now c.loop-k.k no_disk).failed =
    failed_at c.args.config.now.disks c.loop-k.k no_disk lt ∙ ap (λ (xs : List DiskEntry). (get_or xs c.loop-k.k no_disk).failed) (sym c.as_slice-disks.ensures.disks) in
    missing_more (failed_in c.args.config.now) (flag_at c.args.readable.now) c.loop-k.k c.loop-k.invariant
    (elim c.else-not-disk.branch [
      | else-not-disk-via-then-not-disk+else-not-readable-k w ↦ inr w.if-not-readable-k.false
      | else-not-disk-via-else-not-disk w ↦ inl (same ∙ not-false (get_or c.as_slice-disks.result.now c.loop-k.k no_disk).failed w.if-not-disk.false)
    ])
