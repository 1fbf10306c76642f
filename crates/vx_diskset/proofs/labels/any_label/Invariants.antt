-- The loop of `any_label` over `disk`: what stays true.
use Rattle.vx_diskset.specs.Unlabels.{OnlyReads}
use Rattle.vx_diskset.proofs.labels.any_label.Given as goal

abbrev pub invariant-loop-disk : goal.invariant-loop-disk
invariant-loop-disk g l = OnlyReads (g.R.Shelf.meaning l.initial.rack) (g.R.Shelf.meaning l.rack)
