-- `resync`: clauses moved, done and cause; what `copy_regions` and `flush_targets` ask.
use Rattle.std.specs.Option.{option_copied}
use Rattle.vx_disk.proofs.Causing.{cause_before}
use Rattle.vx_resync.specs.Picks.{is_picked}
use Rattle.vx_resync.proofs.CopyLemmas.{disks_after, flushed_Resynced, flushed_Resyncs, plain_Resyncs, source_some}
use Rattle.vx_resync.proofs.PickLemmas.{gives_active}
use Rattle.vx_resync.proofs.resync.resync.Goals as goal

pub copy_regions-requires-clause-ready : goal.copy_regions-requires-clause-ready
copy_regions-requires-clause-ready g c = record {
  sound = c.requires.checked;
  volume = c.requires.volume;
  source_on = gives_active c.args.config.now c.args.vol c.find_source-source.result c.args.to c.find_source-source.ensures.can;
  targets = c.requires.active;
  disks = c.requires.disks;
  up = c.requires.up;
}

pub flush_targets-requires-clause-disks : goal.flush_targets-requires-clause-disks
flush_targets-requires-clause-disks g c = disks_after c.args.config.now (g.S.Shelf.meaning c.args.shelf.now) (g.S.Shelf.meaning c.copy_regions.new.shelf) c.copy_regions.ensures.goes.units c.copy_regions.ensures.goes.size c.requires.disks

pub flush_targets-requires-clause-some : goal.flush_targets-requires-clause-some
flush_targets-requires-clause-some g c = source_some c.args.config.now c.args.vol c.find_source-source.result c.args.to c.find_source-source.ensures

pub returns-in-Ok-flush_targets-clause-moved : goal.returns-in-Ok-flush_targets-clause-moved
returns-in-Ok-flush_targets-clause-moved g c = flushed_Resyncs c.args.config.now c.args.vol c.find_source-source.result c.args.to (is_picked c.args.to (option_copied c.args.drl) (option_copied c.args.fmr)) (g.S.Shelf.meaning c.args.shelf.now) (g.S.Shelf.meaning c.copy_regions.new.shelf) (g.S.Shelf.meaning c.flush_targets.new.shelf) c.copy_regions.ensures.goes c.flush_targets.ensures.goes c.find_source-source.ensures

pub returns-in-Ok-flush_targets-clause-done : goal.returns-in-Ok-flush_targets-clause-done
returns-in-Ok-flush_targets-clause-done g c = flushed_Resynced c.args.config.now c.args.vol c.find_source-source.result c.args.to (is_picked c.args.to (option_copied c.args.drl) (option_copied c.args.fmr)) (g.S.Shelf.meaning c.args.shelf.now) (g.S.Shelf.meaning c.copy_regions.new.shelf) (g.S.Shelf.meaning c.flush_targets.new.shelf) c.copy_regions.ensures.goes c.flush_targets.ensures.goes c.find_source-source.ensures c.in-Ok.ensures.ok c.in-Ok-flush_targets.ensures.ok

pub returns-in-Err-flush_targets-clause-moved : goal.returns-in-Err-flush_targets-clause-moved
returns-in-Err-flush_targets-clause-moved g c = flushed_Resyncs c.args.config.now c.args.vol c.find_source-source.result c.args.to (is_picked c.args.to (option_copied c.args.drl) (option_copied c.args.fmr)) (g.S.Shelf.meaning c.args.shelf.now) (g.S.Shelf.meaning c.copy_regions.new.shelf) (g.S.Shelf.meaning c.flush_targets.new.shelf) c.copy_regions.ensures.goes c.flush_targets.ensures.goes c.find_source-source.ensures

pub returns-in-Err-flush_targets-clause-cause : goal.returns-in-Err-flush_targets-clause-cause
returns-in-Err-flush_targets-clause-cause g c = cause_before (g.S.Shelf.meaning c.args.shelf.now) (g.S.Shelf.meaning c.copy_regions.new.shelf) (g.S.Shelf.meaning c.flush_targets.new.shelf) c.copy_regions.ensures.goes.disk_faults c.in-Err-flush_targets.no c.in-Err-flush_targets.ensures.cause

pub returns-in-Err-clause-moved : goal.returns-in-Err-clause-moved
returns-in-Err-clause-moved g c = plain_Resyncs c.args.config.now c.args.vol c.find_source-source.result c.args.to (is_picked c.args.to (option_copied c.args.drl) (option_copied c.args.fmr)) (g.S.Shelf.meaning c.args.shelf.now) (g.S.Shelf.meaning c.copy_regions.new.shelf) c.find_source-source.ensures c.copy_regions.ensures.goes
