-- `read_log`: clause read.
use Rattle.std.proofs.Common.{◌∙◌, inl, inr, sym}
use Rattle.vx_logimport.proofs.ReadLemmas.{read_of}
use Rattle.vx_logimport.proofs.reading.read_log.Goals as goal

pub returns-in-Ok-clause-read : goal.returns-in-Ok-clause-read
returns-in-Ok-clause-read g c = read_of c.args.good c.args.told.now c.args.config.now c.args.vol _ _ (g.S.Shelf.meaning c.args.shelf.now) (g.S.Shelf.meaning c.load_marks.new.shelf) c.in-Ok.ensures.full (sym c.lies_within.ensures ∙ c.if-not-lies_within.false) c.if-not-told-vol.false c.in-Ok.ensures.takes

pub returns-then-not-lies_within-clause-read : goal.returns-then-not-lies_within-clause-read
returns-then-not-lies_within-clause-read g c = inr (inr (inr (inr (inl (sym c.lies_within.ensures ∙ c.if-not-lies_within.true)))))

pub returns-then-not-told-vol-clause-read : goal.returns-then-not-told-vol-clause-read
returns-then-not-told-vol-clause-read g c = inr (inr (inr (inr (inr c.if-not-told-vol.true))))
