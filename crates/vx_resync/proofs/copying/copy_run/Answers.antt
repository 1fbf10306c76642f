-- `copy_run`: clauses goes, ok, cause and blamed; what `read_plex` and `put_run` ask.
use Rattle.vx_resync.proofs.CauseLemmas.{copy_refused, later_cause, ok_by, plex_refused, source_refused}
use Rattle.vx_resync.proofs.CopyLemmas.{asked_of, disks_after, run_alike, run_fits, run_goes, run_in}
use Rattle.vx_disk.proofs.Runs.{none_written}
use Rattle.vx_resync.proofs.copying.copy_run.Goals as goal

pub read_plex-requires-clause-asked : goal.read_plex-requires-clause-asked
read_plex-requires-clause-asked g c = asked_of c.args.config.now c.args.vol c.args.source c.args.to c.args.block _ (g.S.Shelf.meaning c.args.shelf.now) c.requires.ready c.requires.within c.requires.end c.args.source c.requires.ready.source_on

pub read_plex-requires-clause-fits : goal.read_plex-requires-clause-fits
read_plex-requires-clause-fits g c = run_fits c.args.config.now c.args.vol c.args.source c.args.to c.args.block _ (g.S.Shelf.meaning c.args.shelf.now) c.requires.ready c.requires.within c.requires.end c.args.source c.requires.ready.source_on

pub put_run-requires-clause-disks : goal.put_run-requires-clause-disks
put_run-requires-clause-disks g c = disks_after c.args.config.now (g.S.Shelf.meaning c.args.shelf.now) (g.S.Shelf.meaning c.read_plex.new.shelf) c.read_plex.ensures.goes.units c.read_plex.ensures.goes.size c.requires.ready.disks

pub put_run-requires-clause-some : goal.put_run-requires-clause-some
put_run-requires-clause-some g c = record { plex = c.args.source; is_on = c.requires.ready.source_on }

pub returns-in-Ok-clause-goes : goal.returns-in-Ok-clause-goes
returns-in-Ok-clause-goes g c = run_goes c.args.config.now c.args.vol c.args.source c.args.to c.args.block _ c.read_plex.new.into c.read_plex.auto.into (g.S.Shelf.meaning c.args.shelf.now) (g.S.Shelf.meaning c.read_plex.new.shelf) (g.S.Shelf.meaning c.put_run.new.shelf)
    (run_in c.args.config.now c.args.vol c.args.source c.args.to c.args.block _ (g.S.Shelf.meaning c.args.shelf.now) c.requires.ready c.requires.within c.requires.end) c.read_plex.ensures.goes c.in-Ok.ensures.ok c.put_run.ensures.goes

pub returns-in-Ok-clause-ok : goal.returns-in-Ok-clause-ok
returns-in-Ok-clause-ok g c = ok_by _ _ c.put_run.result c.put_run.ensures.ok (run_alike c.args.config.now c.args.vol c.args.source c.args.to c.args.block _ c.read_plex.new.into c.read_plex.auto.into (g.S.Shelf.meaning c.args.shelf.now) (g.S.Shelf.meaning c.read_plex.new.shelf) (g.S.Shelf.meaning c.put_run.new.shelf)
    (run_in c.args.config.now c.args.vol c.args.source c.args.to c.args.block _ (g.S.Shelf.meaning c.args.shelf.now) c.requires.ready c.requires.within c.requires.end) c.read_plex.ensures.goes c.in-Ok.ensures.ok c.put_run.ensures.goes)

pub returns-in-Ok-clause-cause : goal.returns-in-Ok-clause-cause
returns-in-Ok-clause-cause g c = later_cause (g.S.Shelf.meaning c.args.shelf.now) (g.S.Shelf.meaning c.read_plex.new.shelf) (g.S.Shelf.meaning c.put_run.new.shelf) c.read_plex.ensures.goes.disk_faults c.put_run.result c.put_run.ensures.cause

pub returns-in-Err-clause-goes : goal.returns-in-Err-clause-goes
returns-in-Err-clause-goes g c = none_written _ (g.S.Shelf.meaning c.args.shelf.now) (g.S.Shelf.meaning c.read_plex.new.shelf) c.read_plex.ensures.goes

pub returns-in-Err-clause-cause : goal.returns-in-Err-clause-cause
returns-in-Err-clause-cause g c = plex_refused c.args.config.now c.args.vol c.args.source (g.S.Shelf.meaning c.args.shelf.now) (g.S.Shelf.meaning c.read_plex.new.shelf) c.in-Err.error c.refusal.result c.refusal.ensures c.in-Err.ensures.cause

pub returns-in-Ok-clause-blamed : goal.returns-in-Ok-clause-blamed
returns-in-Ok-clause-blamed g c = copy_refused c.args.config.now c.args.vol c.args.source c.args.to (g.S.Shelf.meaning c.args.shelf.now) (g.S.Shelf.meaning c.read_plex.new.shelf) (g.S.Shelf.meaning c.put_run.new.shelf) c.read_plex.ensures.goes.faults c.read_plex.ensures.goes.disk_faults c.put_run.result c.put_run.ensures.blamed

pub returns-in-Err-clause-blamed : goal.returns-in-Err-clause-blamed
returns-in-Err-clause-blamed g c = source_refused (Unit {0}) c.args.config.now c.args.vol c.args.source c.args.to (g.S.Shelf.meaning c.args.shelf.now) (g.S.Shelf.meaning c.read_plex.new.shelf) c.in-Err.error c.refusal.result c.refusal.ensures c.in-Err.ensures.cause
