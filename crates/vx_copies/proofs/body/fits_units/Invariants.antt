-- The loop of `fits_units` over `k`: what stays true.
use Rattle.std.proofs.Common.{◌≡◌, drop}
use Rattle.vx_copies.specs.Bodies.{have_blocks}
use Rattle.vx_copies.proofs.body.fits_units.Given as goal

abbrev pub invariant-loop-k : goal.invariant-loop-k
invariant-loop-k g l = have_blocks (g.S.Shelf.meaning l.shelf).size l.k (drop l.k l.config.disks) ≡ have_blocks (g.S.Shelf.meaning l.shelf).size 0 l.config.disks
