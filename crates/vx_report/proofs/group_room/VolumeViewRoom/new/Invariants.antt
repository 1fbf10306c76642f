-- The loop of `VolumeViewRoom::new` over `_volume`: what stays true.
use Rattle.std.proofs.Common.{◌≡◌, [], length}
use Rattle.std.specs.Prelude.{All}
use Rattle.vx_report.proofs.group_room.VolumeViewRoom.new.Given as goal

abbrev pub invariant-loop-volume : goal.invariant-loop-volume
invariant-loop-volume l = (length l.rooms.items ≡ l._volume) × All (λ p. p ≡ []) l.rooms.items
