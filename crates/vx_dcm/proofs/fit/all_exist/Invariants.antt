-- The loop of `all_exist` over `v`: what stays true.
use Rattle.vx_dcm.proofs.Fits.{ExistBelow}
use Rattle.vx_dcm.proofs.fit.all_exist.Given as goal

abbrev pub invariant-loop-v : goal.invariant-loop-v
invariant-loop-v g l = ExistBelow l.v l.vols (g.S.Shelf.meaning l.shelf)
