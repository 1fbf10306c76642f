-- The loop of `has_maps` over `disk`: what stays true.
use Rattle.std.proofs.Common.{◌≡◌, ◌≤◌, ◌*◌, ◌-◌}
use Rattle.vx_disk.specs.Maps.{maps_of}
use Rattle.vx_events.specs.Facts.{values_from}
use Rattle.vx_diskset.proofs.starting.has_maps.Given as goal

abbrev pub invariant-loop-disk : goal.invariant-loop-disk
invariant-loop-disk g l = (l.maps ≡ maps_of (values_from (λ j. j) 1 (l.disk - 1)) (g.R.Shelf.meaning l.rack)) × (l.maps ≤ (l.disk - 1) * 70368744177664)
