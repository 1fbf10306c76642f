-- The loop of `give_up_all` over `vol`: what stays true.
use Rattle.vx_loggroup.proofs.HeldMaps.{HeldSoFar}
use Rattle.vx_loggroup.proofs.failed_maps.give_up_all.Given as goal

abbrev pub invariant-loop-vol : goal.invariant-loop-vol
invariant-loop-vol g l = HeldSoFar l.fn.core l.fn.alike l.fn.stopped l.fn.logs.items (g.S.Shelf.meaning l.fn.shelf) l.vol l.logs.items
