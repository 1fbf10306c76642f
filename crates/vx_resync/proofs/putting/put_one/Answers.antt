-- `put_one`: clauses goes, ok, cause and blamed.
use Rattle.vx_resync.proofs.CauseLemmas.{plex_refused, target_refused}
use Rattle.vx_resync.proofs.CopyLemmas.{one_wrote, put_one_Goes}
use Rattle.vx_resync.proofs.putting.put_one.Goals as goal

pub returns-in-Ok-clause-goes : goal.returns-in-Ok-clause-goes
returns-in-Ok-clause-goes g c = put_one_Goes c.args.config.now c.args.vol c.args.plex c.args.block _ c.args.bytes.now (g.S.Shelf.meaning c.args.shelf.now) (g.S.Shelf.meaning c.write_plex.new.shelf) c.write_plex.ensures.goes

pub returns-in-Ok-clause-ok : goal.returns-in-Ok-clause-ok
returns-in-Ok-clause-ok g c = one_wrote c.args.config.now c.args.vol c.args.plex c.args.block _ c.args.bytes.now (g.S.Shelf.meaning c.args.shelf.now) (g.S.Shelf.meaning c.write_plex.new.shelf) c.in-Ok.ensures.cause c.in-Ok.ensures.ok

pub returns-in-Err-clause-goes : goal.returns-in-Err-clause-goes
returns-in-Err-clause-goes g c = put_one_Goes c.args.config.now c.args.vol c.args.plex c.args.block _ c.args.bytes.now (g.S.Shelf.meaning c.args.shelf.now) (g.S.Shelf.meaning c.write_plex.new.shelf) c.write_plex.ensures.goes

pub returns-in-Err-clause-cause : goal.returns-in-Err-clause-cause
returns-in-Err-clause-cause g c = plex_refused c.args.config.now c.args.vol c.args.plex (g.S.Shelf.meaning c.args.shelf.now) (g.S.Shelf.meaning c.write_plex.new.shelf) c.in-Err.error c.refusal.result c.refusal.ensures c.in-Err.ensures.cause

pub returns-in-Ok-clause-blamed : goal.returns-in-Ok-clause-blamed
returns-in-Ok-clause-blamed g c = c.in-Ok.ensures.cause

pub returns-in-Err-clause-blamed : goal.returns-in-Err-clause-blamed
returns-in-Err-clause-blamed g c = target_refused (Unit {0}) c.args.config.now c.args.vol c.args.plex (g.S.Shelf.meaning c.args.shelf.now) (g.S.Shelf.meaning c.write_plex.new.shelf) c.in-Err.error c.refusal.result c.refusal.ensures c.in-Err.ensures.cause
