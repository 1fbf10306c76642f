-- The loop of `are_same` over `volume`: what stays true.
use Rattle.std.proofs.Common.{◌≡◌, take, true}
use Rattle.vx_history.specs.Refusals.{agree}
use Rattle.vx_sites.specs.Shapes.{named_volumes}
use Rattle.vx_sites.proofs.bounds.are_same.Given as goal

abbrev pub invariant-loop-volume : goal.invariant-loop-volume
invariant-loop-volume l = agree (named_volumes 1 (take l.volume l.here)) (named_volumes 1 (take l.volume l.there)) ≡ true
