-- The loop of `lose_all` over `vol`: what stays true.
use Rattle.vx_loggroup.proofs.SettleLemmas.{LostSoFar}
use Rattle.vx_loggroup.proofs.losing.lose_all.Given as goal

abbrev pub invariant-loop-vol : goal.invariant-loop-vol
invariant-loop-vol g l = LostSoFar l.fn.core l.fn.logs.items l.fn.alike l.fn.stopped (g.S.Shelf.meaning l.fn.shelf) l.core (g.S.Shelf.meaning l.shelf)
