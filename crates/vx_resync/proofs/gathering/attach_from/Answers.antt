-- `attach_from`: clauses moved, done, copied, blamed and cause; what `copy_regions` and `flush_targets` ask.
use Rattle.std.proofs.Common.{ℕ, Err, refl}
use Rattle.std.specs.Prelude.{Some}
use Rattle.std.specs.Option.{option_copied}
use Rattle.vx_disk.proofs.Causing.{cause_before}
use Rattle.vx_volume.proofs.PlaceLemmas.{apart_of}
use Rattle.vx_resync.specs.Picks.{missed_or}
use Rattle.vx_resync.proofs.CauseLemmas.{copy_refused, retyped}
use Rattle.vx_resync.proofs.CopyLemmas.{disks_after, flushed_goes, flushed_left}
use Rattle.vx_resync.proofs.GatherLemmas.{all_copied}
use Rattle.vx_resync.proofs.PickLemmas.{one_active}
use Rattle.vx_resync.proofs.gathering.attach_from.Goals as goal

pub copy_regions-requires-clause-ready : goal.copy_regions-requires-clause-ready
copy_regions-requires-clause-ready g c = record {
  sound = c.requires.checked;
  volume = c.requires.volume;
  source_on = c.requires.from;
  targets = one_active c.args.config.now c.args.vol c.args.plex c.requires.to;
  disks = c.requires.disks;
  up = c.requires.up;
}

pub copy_regions-requires-clause-reach : goal.copy_regions-requires-clause-reach
copy_regions-requires-clause-reach g c = c.requires.reach

pub flush_targets-requires-clause-disks : goal.flush_targets-requires-clause-disks
flush_targets-requires-clause-disks g c = disks_after c.args.config.now (g.S.Shelf.meaning c.args.shelf.now) (g.S.Shelf.meaning c.copy_regions.new.shelf) c.copy_regions.ensures.goes.units c.copy_regions.ensures.goes.size c.requires.disks

pub flush_targets-requires-clause-some : goal.flush_targets-requires-clause-some
flush_targets-requires-clause-some g c = record { plex = c.args.source; is_on = c.requires.from }

pub flush_targets-requires-clause-active : goal.flush_targets-requires-clause-active
flush_targets-requires-clause-active g c = one_active c.args.config.now c.args.vol c.args.plex c.requires.to

pub flush_targets-requires-clause-up : goal.flush_targets-requires-clause-up
flush_targets-requires-clause-up g c = c.in-Ok.ensures.ok.up

pub returns-in-Ok-flush_targets-clause-moved : goal.returns-in-Ok-flush_targets-clause-moved
returns-in-Ok-flush_targets-clause-moved g c = flushed_goes c.args.config.now c.args.vol c.args.source (Some c.args.plex) (missed_or c.args.plex (option_copied c.args.fmr)) (g.S.Shelf.meaning c.args.shelf.now) (g.S.Shelf.meaning c.copy_regions.new.shelf) (g.S.Shelf.meaning c.flush_targets.new.shelf) c.copy_regions.ensures.goes c.flush_targets.ensures.goes

pub returns-in-Ok-flush_targets-clause-done : goal.returns-in-Ok-flush_targets-clause-done
returns-in-Ok-flush_targets-clause-done g c = flushed_left c.args.config.now c.args.vol c.args.source (Some c.args.plex) (missed_or c.args.plex (option_copied c.args.fmr)) (g.S.Shelf.meaning c.args.shelf.now) (g.S.Shelf.meaning c.copy_regions.new.shelf) (g.S.Shelf.meaning c.flush_targets.new.shelf) c.copy_regions.ensures.goes c.flush_targets.ensures.goes c.in-Ok.ensures.ok c.in-Ok-flush_targets.ensures.ok

pub returns-in-Ok-flush_targets-clause-copied : goal.returns-in-Ok-flush_targets-clause-copied
returns-in-Ok-flush_targets-clause-copied g c = λ misses.
    all_copied c.args.config.now c.args.vol c.args.source c.args.plex (apart_of c.args.config.now c.requires.checked) c.requires.to (missed_or c.args.plex (option_copied c.args.fmr)) (g.S.Shelf.meaning c.args.shelf.now) (g.S.Shelf.meaning c.copy_regions.new.shelf) c.copy_regions.ensures.goes c.in-Ok.ensures.ok.up
    (g.S.Shelf.meaning c.flush_targets.new.shelf) (g.met.S.Shelf.lawful c.args.shelf.now) (g.met.S.Shelf.lawful c.flush_targets.new.shelf) c.flush_targets.ensures.goes c.in-Ok.ensures.ok (c.in-Ok-flush_targets.ensures.ok.each c.args.plex refl) misses

pub returns-in-Ok-flush_targets-clause-blamed : goal.returns-in-Ok-flush_targets-clause-blamed
returns-in-Ok-flush_targets-clause-blamed g c = c.in-Ok-flush_targets.ensures.ok.up

pub returns-in-Err-flush_targets-clause-moved : goal.returns-in-Err-flush_targets-clause-moved
returns-in-Err-flush_targets-clause-moved g c = flushed_goes c.args.config.now c.args.vol c.args.source (Some c.args.plex) (missed_or c.args.plex (option_copied c.args.fmr)) (g.S.Shelf.meaning c.args.shelf.now) (g.S.Shelf.meaning c.copy_regions.new.shelf) (g.S.Shelf.meaning c.flush_targets.new.shelf) c.copy_regions.ensures.goes c.flush_targets.ensures.goes

pub returns-in-Err-flush_targets-clause-copied : goal.returns-in-Err-flush_targets-clause-copied
returns-in-Err-flush_targets-clause-copied g c = λ misses. tt

pub returns-in-Err-flush_targets-clause-cause : goal.returns-in-Err-flush_targets-clause-cause
returns-in-Err-flush_targets-clause-cause g c = cause_before (g.S.Shelf.meaning c.args.shelf.now) (g.S.Shelf.meaning c.copy_regions.new.shelf) (g.S.Shelf.meaning c.flush_targets.new.shelf) c.copy_regions.ensures.goes.disk_faults c.in-Err-flush_targets.no c.in-Err-flush_targets.ensures.cause

pub returns-in-Err-flush_targets-clause-blamed : goal.returns-in-Err-flush_targets-clause-blamed
returns-in-Err-flush_targets-clause-blamed g c =
    copy_refused {T = ℕ} c.args.config.now c.args.vol c.args.source (Some c.args.plex) (g.S.Shelf.meaning c.args.shelf.now) (g.S.Shelf.meaning c.copy_regions.new.shelf) (g.S.Shelf.meaning c.flush_targets.new.shelf) c.copy_regions.ensures.goes.faults c.copy_regions.ensures.goes.disk_faults (Err c.in-Err-flush_targets.no)
    (retyped (Unit {0}) ℕ c.args.config.now c.args.vol (Some c.args.plex) (g.S.Shelf.meaning c.copy_regions.new.shelf) (g.S.Shelf.meaning c.flush_targets.new.shelf) c.in-Err-flush_targets.no c.in-Err-flush_targets.ensures.blamed)

pub returns-in-Err-clause-copied : goal.returns-in-Err-clause-copied
returns-in-Err-clause-copied g c = λ misses. tt
