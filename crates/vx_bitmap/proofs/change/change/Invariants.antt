-- The loop of `change` over `block`: what stays true.
use Rattle.std.proofs.Common.{◌≡◌, ◌*◌, IsTrue}
use Rattle.vx_bitmap.specs.Bits.{AllAre, is_marked}
use Rattle.vx_bitmap.specs.Maps.{ChangedAt}
use Rattle.vx_disk.specs.Shelf.{Goes}
use Rattle.vx_disk.specs.Spends.{Spends}
use Rattle.vx_bitmap.proofs.Runs.{DoneTo}
use Rattle.vx_bitmap.proofs.change.change.Given as goal

abbrev pub invariant-loop-block : goal.invariant-loop-block
invariant-loop-block g l =
    DoneTo l.unit l.first l.start l.end l.value (4096 * l.block) l.initial.bytes l.bytes (g.S.Shelf.meaning l.initial.shelf) (g.S.Shelf.meaning l.shelf)
    × (AllAre l.start l.end l.value (is_marked l.initial.bytes) → l.shelf ≡ l.initial.shelf)
    × Goes (ChangedAt (record { unit = l.unit; first = l.first; bytes = l.initial.bytes }) l.start l.end l.value (g.S.Shelf.meaning l.initial.shelf)) (g.S.Shelf.meaning l.initial.shelf) (g.S.Shelf.meaning l.shelf)
    × (IsTrue (g.S.Shelf.meaning l.shelf).down → IsTrue (g.S.Shelf.meaning l.initial.shelf).down)
    × Spends (g.S.Shelf.meaning l.initial.shelf) (g.S.Shelf.meaning l.shelf)
