-- `copy_blocks`: clauses goes, cause and ok; what `copy_run` asks; what stays true in its loop over `done`.
use Rattle.std.proofs.Common.{arith}
use Rattle.vx_config.specs.Checks.{blocks_of}
use Rattle.vx_volume.proofs.CopyLemmas.{cause_later, copy_end, copy_more, copy_start, copy_then, disks_still}
use Rattle.vx_volume.proofs.copying.copy_blocks.Goals as goal

pub loop-done-init : goal.loop-done-init
loop-done-init g c = copy_start c.args.config.now c.args.vol c.args.source c.args.plex (blocks_of c.args.config.now.volumes c.args.vol) (g.S.Shelf.meaning c.args.shelf.now) c.requires.up

pub loop-done-preserved : goal.loop-done-preserved
loop-done-preserved g c = copy_more c.args.config.now c.args.vol c.args.source c.args.plex c.loop-done.done c.min-count.result (blocks_of c.args.config.now.volumes c.args.vol) (g.S.Shelf.meaning c.args.shelf.now) (g.S.Shelf.meaning c.loop-done.shelf) (g.S.Shelf.meaning c.copy_run.new.shelf) c.loop-done.invariant c.copy_run.ensures.goes c.requires.checked c.requires.from c.requires.to c.requires.apart c.in-Ok.ensures.cause c.copy_run.ensures.within c.in-Ok.ensures.ok

pub returns-in-Err-clause-goes : goal.returns-in-Err-clause-goes
returns-in-Err-clause-goes g c = copy_then c.args.config.now c.args.vol c.args.source c.args.plex c.loop-done.done c.min-count.result (blocks_of c.args.config.now.volumes c.args.vol) (g.S.Shelf.meaning c.args.shelf.now) (g.S.Shelf.meaning c.loop-done.shelf) (g.S.Shelf.meaning c.copy_run.new.shelf) c.loop-done.invariant c.copy_run.ensures.goes

pub returns-in-Err-clause-cause : goal.returns-in-Err-clause-cause
returns-in-Err-clause-cause g c = cause_later c.args.config.now c.args.vol c.args.source c.args.plex (g.S.Shelf.meaning c.args.shelf.now) (g.S.Shelf.meaning c.loop-done.shelf) (g.S.Shelf.meaning c.copy_run.new.shelf) c.loop-done.invariant.goes.faults c.loop-done.invariant.goes.disk_faults c.in-Err.error c.in-Err.ensures.cause

pub returns-clause-ok : goal.returns-clause-ok
returns-clause-ok g c = copy_end c.args.config.now c.args.vol c.args.source c.args.plex c.loop-done.done (blocks_of c.args.config.now.volumes c.args.vol) c.blocks_of-blocks.result (g.S.Shelf.meaning c.args.shelf.now) (g.S.Shelf.meaning c.loop-done.shelf) c.loop-done.invariant c.blocks_of-blocks.ensures (omega (arith, c.loop-done-test.false))

pub copy_run-requires-clause-disks : goal.copy_run-requires-clause-disks
copy_run-requires-clause-disks g c = disks_still c.args.config.now.disks (g.S.Shelf.meaning c.args.shelf.now) (g.S.Shelf.meaning c.loop-done.shelf) c.requires.disks c.loop-done.invariant.goes.units c.loop-done.invariant.goes.size
