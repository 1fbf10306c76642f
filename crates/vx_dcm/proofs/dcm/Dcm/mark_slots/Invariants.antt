-- The loop of `mark_slots` over `slot`: what stays true.
use Rattle.std.proofs.Common.{◌≡◌, IsTrue}
use Rattle.vx_disk.specs.Spends.{Spends}
use Rattle.vx_dcm.specs.Places.{SlotsMarked}
use Rattle.vx_dcm.proofs.SlotMarks.{SlotsDone}
use Rattle.vx_dcm.proofs.dcm.Dcm.mark_slots.Given as goal

abbrev pub invariant-loop-slot : goal.invariant-loop-slot
invariant-loop-slot g l =
    SlotsDone l.initial.self l.marks l.vol l.first l.last l.slot l.self (g.S.Shelf.meaning l.initial.shelf) (g.S.Shelf.meaning l.shelf)
    × (SlotsMarked l.marks l.vol l.first l.last l.initial.self → l.shelf ≡ l.initial.shelf)
    × Spends (g.S.Shelf.meaning l.initial.shelf) (g.S.Shelf.meaning l.shelf)
    × (IsTrue (g.S.Shelf.meaning l.shelf).down → IsTrue (g.S.Shelf.meaning l.initial.shelf).down)
