-- The loop of `write_labels` over `unit`: what stays true.
use Rattle.vx_copyio.proofs.Labels.{SoFar}
use Rattle.vx_copyio.proofs.labelling.write_labels.Given as goal

abbrev pub invariant-loop-unit : goal.invariant-loop-unit
invariant-loop-unit g l = SoFar l.site l.unit (g.S.Shelf.meaning l.initial.shelf) (g.S.Shelf.meaning l.shelf)
