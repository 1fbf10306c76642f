-- The loop of `rooms_of` over `disk`: what stays true.
use Rattle.vx_layout.specs.Space.{disk_room}
use Rattle.vx_layout.specs.Steps.{AreRooms}
use Rattle.vx_layout.proofs.rooms.rooms_of.Given as goal

abbrev pub invariant-loop-disk : goal.invariant-loop-disk
invariant-loop-disk l = AreRooms (disk_room l.used l.disks l.found) l.disk l.rooms
