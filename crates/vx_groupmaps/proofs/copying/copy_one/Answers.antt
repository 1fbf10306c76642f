-- The map of a plex that becomes another one's, or its log that is lost.
use Rattle.vx_groupmaps.proofs.CopyRows.{copied_some, has_both}
use Rattle.vx_groupmaps.proofs.copying.copy_one.Goals as goal

pub copy_row-requires : goal.copy_row-requires
copy_row-requires g c = record { has = has_both c.args.to c.args.from c.args.count c.args.fmr.now c.in-Some.map (g.S.Shelf.meaning c.args.shelf.now) c.in-Some.is c.requires.has }

pub returns-in-Ok-clause-answers : goal.returns-in-Ok-clause-answers
returns-in-Ok-clause-answers g c = (
  copied_some c.args.to c.args.from c.args.fmr.now c.in-Some.map c.copy_row.new.map (g.S.Shelf.meaning c.args.shelf.now) (g.S.Shelf.meaning c.copy_row.new.shelf) c.in-Some.is c.in-Ok.ensures.ok,
  c.in-Ok.ensures.unit,
)
