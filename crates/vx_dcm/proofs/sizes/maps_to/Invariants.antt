-- The loop of `maps_to` over `v`: what stays true.
use Rattle.std.proofs.Common.{◌≡◌, ◌*◌, ◌≤◌, take}
use Rattle.vx_dcm.specs.Places.{maps_in}
use Rattle.vx_dcm.proofs.sizes.maps_to.Given as goal

abbrev pub invariant-loop-v : goal.invariant-loop-v
invariant-loop-v l = (l.total ≡ maps_in (take l.v l.sizes)) × (l.total ≤ l.v * 70368744177664)
