-- The loop of `disks_of` over `unit`: what stays true.
use Rattle.std.proofs.Common.{◌≡◌, length, true, false, ℕ}
use Rattle.vx_copies.specs.Bodies.{have_blocks}
use Rattle.vx_copies.specs.Marks.{failed_at}
use Rattle.vx_group.proofs.create.disks_of.Given as goal

abbrev pub invariant-loop-unit : goal.invariant-loop-unit
invariant-loop-unit g l = (length l.disks ≡ l.unit) × (have_blocks (g.S.Shelf.meaning l.shelf).size 0 l.disks ≡ true) × ((u : ℕ) → failed_at l.disks u ≡ false)
