-- The loop of `mark_rest` over `before`: what stays true.
use Rattle.std.proofs.Common.{IsFalse}
use Rattle.vx_rvg.proofs.MarkAbove.{DoneTo}
use Rattle.vx_rvg.proofs.above.mark_rest.Given as goal

abbrev pub invariant-loop-before : goal.invariant-loop-before
invariant-loop-before g l =
    DoneTo l.initial.core (g.S.Shelf.meaning l.initial.shelf) l.slot l.above l.before l.core (g.S.Shelf.meaning l.shelf)
    × IsFalse (g.S.Shelf.meaning l.shelf).down
