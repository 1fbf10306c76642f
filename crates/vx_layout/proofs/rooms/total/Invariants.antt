-- The loop of `total` over `disk`: what stays true.
use Rattle.std.proofs.Common.{◌≡◌, ◌+◌, ◌*◌, ◌-◌, ◌≤◌}
use Rattle.std.specs.Prelude.{slice_index}
use Rattle.vx_layout.specs.Space.{room_sum}
use Rattle.vx_layout.proofs.rooms.total.Given as goal

abbrev pub invariant-loop-disk : goal.invariant-loop-disk
invariant-loop-disk l = (l.sum + room_sum (slice_index l.rooms) l.disk (8 - l.disk) ≡ room_sum (slice_index l.rooms) 0 8) × (l.sum ≤ 18446744073709551616 * l.disk)
