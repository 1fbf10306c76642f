-- The loop of `mend_volumes` over `vol`: what stays true.
use Rattle.vx_group.specs.Mends.{Mending}
use Rattle.vx_group.proofs.mending.mend_volumes.Given as goal

abbrev pub invariant-loop-vol : goal.invariant-loop-vol
invariant-loop-vol g l = Mending l.fn.core l.stopped l.sources l.logs l.vol l.core (g.S.Shelf.meaning l.fn.shelf) (g.S.Shelf.meaning l.shelf)
