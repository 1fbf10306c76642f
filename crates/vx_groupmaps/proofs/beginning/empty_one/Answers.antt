-- The map of a plex that is emptied, or its log that is lost.
use Rattle.vx_groupmaps.proofs.BeginLemmas.{begun, begun_ok}
use Rattle.vx_groupmaps.proofs.beginning.empty_one.Goals as goal

pub returns-in-Ok-clause-answers : goal.returns-in-Ok-clause-answers
returns-in-Ok-clause-answers g c = (
  begun_ok c.args.plex c.args.fmr.now c.in-Some.map c.begin.new.self (g.S.Shelf.meaning c.args.shelf.now) (g.S.Shelf.meaning c.begin.new.shelf) c.in-Some.is
      (begun c.in-Some.map c.begin.new.self c.args.plex (g.S.Shelf.meaning c.args.shelf.now) (g.S.Shelf.meaning c.begin.new.shelf) c.begin.ensures.place c.begin.ensures.shape c.begin.ensures.others c.in-Ok.ensures.changed c.in-Ok.ensures.stands),
  c.in-Ok.ensures.unit,
)
