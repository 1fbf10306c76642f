-- The loop of `sizes_of` over `unit`: what stays true.
use Rattle.std.proofs.Common.{◌≡◌, map, take}
use Rattle.vx_dcm.proofs.sizes.sizes_of.Given as goal

abbrev pub invariant-loop-unit : goal.invariant-loop-unit
invariant-loop-unit g l = l.sizes.items ≡ map (g.S.Shelf.meaning l.shelf).size (take l.unit-index l.vols)
