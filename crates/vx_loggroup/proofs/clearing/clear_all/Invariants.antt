-- The loop of `clear_all` over `vol`: what stays true.
use Rattle.vx_loggroup.proofs.ClearLemmas.{ClearedSoFar}
use Rattle.vx_loggroup.proofs.clearing.clear_all.Given as goal

abbrev pub invariant-loop-vol : goal.invariant-loop-vol
invariant-loop-vol g l = ClearedSoFar l.fn.core l.fn.logs.items l.fn.alike (g.S.Shelf.meaning l.fn.shelf) l.vol l.core l.logs.items (g.S.Shelf.meaning l.shelf)
