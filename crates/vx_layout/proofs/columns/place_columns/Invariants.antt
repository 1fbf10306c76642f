-- The loop of `place_columns` over `column`: what stays true.
use Rattle.vx_layout.specs.Steps.{Columning}
use Rattle.vx_layout.proofs.columns.place_columns.Given as goal

abbrev pub invariant-loop-column : goal.invariant-loop-column
invariant-loop-column l = Columning l.used l.disks l.wanted l._column l.fn.found.items l.found.items
