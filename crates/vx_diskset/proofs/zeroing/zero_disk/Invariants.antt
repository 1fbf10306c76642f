-- The loop of `zero_disk` over `done`: what stays true, and what falls.
use Rattle.std.proofs.Common.{◌-◌}
use Rattle.vx_diskset.specs.Zeroing.{ZeroesDisk}
use Rattle.vx_diskset.proofs.zeroing.zero_disk.Given as goal

abbrev pub invariant-loop-done : goal.invariant-loop-done
invariant-loop-done g l = ZeroesDisk l.disk l.done (g.R.Shelf.meaning l.initial.rack) (g.R.Shelf.meaning l.rack)

abbrev pub decreases-loop-done : goal.decreases-loop-done
decreases-loop-done g l = l.blocks - l.done
