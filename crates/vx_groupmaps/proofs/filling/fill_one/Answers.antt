-- The map of a plex that is filled, or its log that is lost.
use Rattle.vx_groupmaps.proofs.FillLemmas.{filled_map, filled_ok, last_in}
use Rattle.vx_groupmaps.proofs.filling.fill_one.Goals as goal

pub returns-in-Ok-clause-answers : goal.returns-in-Ok-clause-answers
returns-in-Ok-clause-answers g c = (
  filled_ok c.args.plex c.args.last c.args.fmr.now c.in-Some.map c.note.new.self (g.S.Shelf.meaning c.args.shelf.now) (g.S.Shelf.meaning c.note.new.shelf) c.in-Some.is
      (filled_map c.in-Some.map c.note.new.self c.args.plex c.args.last (g.S.Shelf.meaning c.args.shelf.now) (g.S.Shelf.meaning c.note.new.shelf)
      (last_in c.args.plex c.args.last c.args.fmr.now c.in-Some.map (g.S.Shelf.meaning c.args.shelf.now) c.in-Some.is c.requires.has) c.note.ensures.place c.note.ensures.shape c.note.ensures.others c.in-Ok.ensures.changed c.in-Ok.ensures.stands),
  c.in-Ok.ensures.unit,
)
