-- The loop of `unlabel_disks` over `disk`: what stays true.
use Rattle.vx_diskset.specs.Unlabels.{Unlabels}
use Rattle.vx_diskset.proofs.labels.unlabel_disks.Given as goal

abbrev pub invariant-loop-disk : goal.invariant-loop-disk
invariant-loop-disk g l = Unlabels (g.R.Shelf.meaning l.initial.rack) (g.R.Shelf.meaning l.rack)
