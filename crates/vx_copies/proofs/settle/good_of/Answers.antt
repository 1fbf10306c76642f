-- `good_of`: that no number grows too large.
use Rattle.std.proofs.Common.{arith, ◌≤◌, ◌<◌, ◌-◌, drop, length, ap}
use Rattle.std.proofs.lemmas.List.{length-drop}
use Rattle.vx_copies.specs.Answers.{good_set}
use Rattle.vx_copies.proofs.Settling.{good_small}
use Rattle.vx_copies.proofs.settle.good_of.Goals.{then-disk, else-disk}
use Rattle.vx_copies.proofs.settle.good_of.Goals as goal

pub overflow_mul-good : goal.overflow_mul-good
overflow_mul-good c =
    let ds = c.as_slice-disks.result.now in
    let few : length (drop (length ds - c.loop-k.k) ds) ≤ 7 = omega (arith, length-drop (length ds - c.loop-k.k) ds, ap length c.as_slice-disks.ensures.disks, c.as_slice-disks.ensures.few, c.loop-k-test.true) in
    let lt : good_set (drop (length ds - c.loop-k.k) ds) < 128 = good_small (drop (length ds - c.loop-k.k) ds) few in
    omega (arith, lt, c.loop-k.invariant)

pub overflow_add-good : goal.overflow_add-good
overflow_add-good c =
    let ds = c.as_slice-disks.result.now in
    let few : length (drop (length ds - c.loop-k.k) ds) ≤ 7 = omega (arith, length-drop (length ds - c.loop-k.k) ds, ap length c.as_slice-disks.ensures.disks, c.as_slice-disks.ensures.few, c.loop-k-test.true) in
    let lt : good_set (drop (length ds - c.loop-k.k) ds) < 128 = good_small (drop (length ds - c.loop-k.k) ds) few in
    let bit : c.if-disk.good ≤ 1 = elim c.if-disk.branch [ then-disk w ↦ omega (arith, w.good-is) | else-disk w ↦ omega (arith, w.good-is) ] in
    omega (arith, lt, c.loop-k.invariant, bit)
