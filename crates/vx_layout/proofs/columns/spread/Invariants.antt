-- The loop of `spread` over `disk`: what stays true.
use Rattle.vx_layout.specs.Space.{disk_room}
use Rattle.vx_layout.specs.Steps.{Spreading}
use Rattle.vx_layout.proofs.columns.spread.Given as goal

abbrev pub invariant-loop-disk : goal.invariant-loop-disk
invariant-loop-disk l = Spreading l.used l.disks (disk_room l.used l.disks l.fn.found.items) l.disk l.wanted l.left l.fn.found.items l.found.items
