-- `copy_plex`: clauses goes, ok and cause; what `flush_plex` asks.
use Rattle.vx_volume.proofs.CopyLemmas.{copied_all, copy_flushed, disks_still, plex_cause}
use Rattle.vx_volume.proofs.copying.copy_plex.Goals as goal

pub flush_plex-requires-clause-disks : goal.flush_plex-requires-clause-disks
flush_plex-requires-clause-disks g c = disks_still c.args.config.now.disks (g.S.Shelf.meaning c.args.shelf.now) (g.S.Shelf.meaning c.copy_blocks.new.shelf) c.requires.disks c.copy_blocks.ensures.goes.units c.copy_blocks.ensures.goes.size

pub returns-clause-goes : goal.returns-clause-goes
returns-clause-goes g c = copy_flushed c.args.config.now c.args.vol c.args.plex (g.S.Shelf.meaning c.args.shelf.now) (g.S.Shelf.meaning c.copy_blocks.new.shelf) (g.S.Shelf.meaning c.flush_plex.new.shelf) c.copy_blocks.ensures.goes c.flush_plex.ensures.goes

pub returns-clause-ok : goal.returns-clause-ok
returns-clause-ok g c = copied_all c.args.config.now c.args.vol c.args.source c.args.plex (g.S.Shelf.meaning c.args.shelf.now) (g.S.Shelf.meaning c.copy_blocks.new.shelf) (g.S.Shelf.meaning c.flush_plex.new.shelf) c.in-Ok.ensures.ok c.flush_plex.result c.flush_plex.ensures.ok

pub returns-clause-cause : goal.returns-clause-cause
returns-clause-cause g c = plex_cause c.args.config.now c.args.vol c.args.source c.args.plex (g.S.Shelf.meaning c.args.shelf.now) (g.S.Shelf.meaning c.copy_blocks.new.shelf) (g.S.Shelf.meaning c.flush_plex.new.shelf) c.copy_blocks.ensures.goes.faults c.copy_blocks.ensures.goes.disk_faults c.flush_plex.result c.flush_plex.ensures.cause
