-- The loop of `join` over `first`: what stays true, and what falls.
use Rattle.std.proofs.Common.{◌≡◌, ◌-◌, IsTrue}
use Rattle.vx_disk.specs.Spends.{Spends}
use Rattle.vx_dcm.specs.Joined.{BytesMarked}
use Rattle.vx_dcm.proofs.JoinMarks.{JoinedTo}
use Rattle.vx_dcm.proofs.dcm.Dcm.join.Given as goal

-- those before `first` are joined
abbrev pub invariant-loop-first : goal.invariant-loop-first
invariant-loop-first g l =
    JoinedTo l.initial.self l.slot l.vol l.bytes l.first l.self (g.S.Shelf.meaning l.initial.shelf) (g.S.Shelf.meaning l.shelf)
    × (BytesMarked l.slot l.vol l.bytes l.initial.self → l.shelf ≡ l.initial.shelf)
    × Spends (g.S.Shelf.meaning l.initial.shelf) (g.S.Shelf.meaning l.shelf)
    × (IsTrue (g.S.Shelf.meaning l.shelf).down → IsTrue (g.S.Shelf.meaning l.initial.shelf).down)

abbrev pub decreases-loop-first : goal.decreases-loop-first
decreases-loop-first g l = l.regions - l.first
