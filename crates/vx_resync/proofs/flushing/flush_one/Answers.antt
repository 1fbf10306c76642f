-- `flush_one`: clauses ok, cause and blamed.
use Rattle.vx_resync.proofs.CauseLemmas.{plex_refused, target_refused}
use Rattle.vx_resync.proofs.CopyLemmas.{one_flushed}
use Rattle.vx_resync.proofs.flushing.flush_one.Goals as goal

pub returns-in-Ok-clause-ok : goal.returns-in-Ok-clause-ok
returns-in-Ok-clause-ok g c = one_flushed c.args.config.now c.args.vol c.args.plex (g.S.Shelf.meaning c.args.shelf.now) (g.S.Shelf.meaning c.flush_plex.new.shelf) c.in-Ok.ensures.cause c.in-Ok.ensures.ok

pub returns-in-Err-clause-cause : goal.returns-in-Err-clause-cause
returns-in-Err-clause-cause g c = plex_refused c.args.config.now c.args.vol c.args.plex (g.S.Shelf.meaning c.args.shelf.now) (g.S.Shelf.meaning c.flush_plex.new.shelf) c.in-Err.error c.refusal.result c.refusal.ensures c.in-Err.ensures.cause

pub returns-in-Ok-clause-blamed : goal.returns-in-Ok-clause-blamed
returns-in-Ok-clause-blamed g c = c.in-Ok.ensures.cause

pub returns-in-Err-clause-blamed : goal.returns-in-Err-clause-blamed
returns-in-Err-clause-blamed g c = target_refused (Unit {0}) c.args.config.now c.args.vol c.args.plex (g.S.Shelf.meaning c.args.shelf.now) (g.S.Shelf.meaning c.flush_plex.new.shelf) c.in-Err.error c.refusal.result c.refusal.ensures c.in-Err.ensures.cause
