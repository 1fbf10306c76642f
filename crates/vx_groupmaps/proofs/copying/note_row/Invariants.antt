-- The loop of `note_row` over `region`: what stays true.
use Rattle.vx_groupmaps.proofs.CopyRows.{Noting}
use Rattle.vx_groupmaps.proofs.copying.note_row.Given as goal

abbrev pub invariant-loop-region : goal.invariant-loop-region
invariant-loop-region g l = Noting l.to l.from l.region l.count l.initial.map l.map (g.S.Shelf.meaning l.initial.shelf) (g.S.Shelf.meaning l.shelf)
