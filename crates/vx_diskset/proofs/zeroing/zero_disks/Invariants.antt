-- The loop of `zero_disks` over `disk`: what stays true.
use Rattle.vx_diskset.specs.Zeroing.{ZeroesDisks}
use Rattle.vx_diskset.proofs.zeroing.zero_disks.Given as goal

abbrev pub invariant-loop-disk : goal.invariant-loop-disk
invariant-loop-disk g l = ZeroesDisks l.disk (g.R.Shelf.meaning l.initial.rack) (g.R.Shelf.meaning l.rack)
