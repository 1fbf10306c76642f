-- The loop of `clear` over `disk`: what stays true.
use Rattle.vx_copyio.proofs.Cleared.{Clearing}
use Rattle.vx_copyio.proofs.clearing.clear.Given as goal

abbrev pub invariant-loop-disk : goal.invariant-loop-disk
invariant-loop-disk g l = Clearing l.disk (g.S.Shelf.meaning l.initial.shelf) (g.S.Shelf.meaning l.shelf)
