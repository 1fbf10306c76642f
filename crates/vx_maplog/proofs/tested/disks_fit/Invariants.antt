-- The loop of `disks_fit` over `k`: what stays true.
use Rattle.vx_maplog.proofs.Fits.{FitBelow}
use Rattle.vx_maplog.proofs.tested.disks_fit.Given as goal

abbrev pub invariant-loop-k : goal.invariant-loop-k
invariant-loop-k g l = FitBelow l.k l.disks (g.S.Shelf.meaning l.shelf)
