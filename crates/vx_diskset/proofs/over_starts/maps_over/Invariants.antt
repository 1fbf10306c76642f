-- The loop of `maps_over` over `k`: what stays true.
use Rattle.std.proofs.Common.{◌≡◌, ◌*◌, ◌≤◌, take}
use Rattle.vx_disk.specs.Maps.{maps_of}
use Rattle.vx_ground.specs.Lifted.{laid_volumes}
use Rattle.vx_diskset.proofs.over_starts.maps_over.Given as goal

abbrev pub invariant-loop-k : goal.invariant-loop-k
invariant-loop-k g l = (l.total ≡ maps_of (take l.k l.vols) (laid_volumes l.laid)) × (l.total ≤ l.k * 70368744177664)
