-- The loop of `take_all` over `vol`: what stays true.
use Rattle.vx_loggroup.proofs.TakenMaps.{TakenSoFar}
use Rattle.vx_loggroup.proofs.taking.take_all.Given as goal

abbrev pub invariant-loop-vol : goal.invariant-loop-vol
invariant-loop-vol g l = TakenSoFar l.fn.core l.fn.alike l.fn.good l.fn.stopped l.fn.rested l.fn.logs.items (g.S.Shelf.meaning l.fn.shelf) l.vol l.logs.items (g.S.Shelf.meaning l.shelf)
