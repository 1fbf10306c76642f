-- The log of a volume behind its marks.
use Rattle.std.proofs.Common.{◌+◌, ◌-◌, ◌/◌, None, refl, arith}
use Rattle.vx_grouplogs.proofs.DirtyLemmas.{gone_only, marks_only}
use Rattle.vx_grouplogs.proofs.GoneLemmas.{drops_down, drops_marked}
use Rattle.vx_grouplogs.proofs.OnCalls.{mark_down, on_gone, on_others}
use Rattle.vx_grouplogs.proofs.KnowActs.{know_none, logs_off_plex}
use Rattle.vx_groupmaps.proofs.BetweenLemmas.{goes_reads}
use Rattle.vx_groupmaps.proofs.KnowLemmas.{note_none, noted_knows, noted_run}
use Rattle.vx_groupmaps.proofs.NotedLemmas.{noted_holds}
use Rattle.std.specs.Prelude.{Ok}
use Rattle.vx_grouplogs.specs.Covering.{OnLogs}
use Rattle.vx_grouplogs.proofs.guarding.guard_run.Goals as goal

pub returns-in-Ok-clause-on : goal.returns-in-Ok-clause-on
returns-in-Ok-clause-on g c =
    let on = c.requires.on in
    record {
      fits = c.mark_run.ensures.fits;
      stands = c.in-Ok.ensures.stands on.stands;
      memory = c.in-Ok.ensures.memory on.memory;
      disk = λ trusted. c.mark_run.ensures.covers on.stands on.memory (on.disk trusted);
    }

pub returns-in-Err-clause-on : goal.returns-in-Err-clause-on
returns-in-Err-clause-on g c =
    let on = c.requires.on in
    on_gone c.args.config.now c.args.vol (g.S.Shelf.meaning c.mark_run.new.shelf) (λ trusted. c.mark_run.ensures.covers on.stands on.memory (on.disk trusted))

pub returns-in-Ok-clause-others : goal.returns-in-Ok-clause-others
returns-in-Ok-clause-others g c =
    on_others c.args.config.now c.args.vol (g.S.Shelf.meaning c.args.shelf.now) (g.S.Shelf.meaning c.mark_run.new.shelf) c.mark_run.ensures.others

pub returns-in-Err-clause-others : goal.returns-in-Err-clause-others
returns-in-Err-clause-others g c =
    on_others c.args.config.now c.args.vol (g.S.Shelf.meaning c.args.shelf.now) (g.S.Shelf.meaning c.mark_run.new.shelf) c.mark_run.ensures.others

pub returns-in-Ok-clause-up : goal.returns-in-Ok-clause-up
returns-in-Ok-clause-up g c =
    c.in-Ok.ensures.marks.up

pub returns-in-Err-clause-down : goal.returns-in-Err-clause-down
returns-in-Err-clause-down g c =
    mark_down c.args.config.now c.args.vol (c.args.block / 64) ((c.args.block + c.args.count - 1) / 64) c.args.logs.now c.mark_run.new.logs (g.S.Shelf.meaning c.args.shelf.now) (g.S.Shelf.meaning c.mark_run.new.shelf) c.in-Err.no c.in-Err.ensures.marks

pub returns-in-Ok-clause-adds : goal.returns-in-Ok-clause-adds
returns-in-Ok-clause-adds g c =
    marks_only c.args.config.now c.requires.checked c.args.vol (omega (arith, c.requires.some, c.requires.within)) c.args.logs.now c.requires.on.fits (g.S.Shelf.meaning c.args.shelf.now) c.requires.disks
    (c.args.block / 64) ((c.args.block + c.args.count - 1) / 64) _ c.mark_run.new.logs (g.S.Shelf.meaning c.args.shelf.now) (g.S.Shelf.meaning c.mark_run.new.shelf) c.in-Ok.ensures.marks.drl

pub returns-in-Err-clause-adds : goal.returns-in-Err-clause-adds
returns-in-Err-clause-adds g c = gone_only _ _ _ c.args.logs.now _ refl

pub returns-in-Ok-clause-knows : goal.returns-in-Ok-clause-knows
returns-in-Ok-clause-knows g c =
    noted_knows c.args.config.now c.requires.checked c.args.vol (omega (arith, c.requires.some, c.requires.within)) c.args.logs.now c.requires.on.fits (OnLogs c.args.config.now c.args.vol) (g.S.Shelf.meaning c.args.shelf.now) (g.S.Shelf.meaning c.mark_run.new.shelf)
    (goes_reads (OnLogs c.args.config.now c.args.vol) (g.S.Shelf.meaning c.args.shelf.now) (g.S.Shelf.meaning c.mark_run.new.shelf) c.mark_run.ensures.goes) (λ p b x has on. logs_off_plex c.args.config.now c.requires.checked c.args.vol c.args.vol p b x has on)
    (c.args.block / 64) ((c.args.block + c.args.count - 1) / 64) _ c.mark_run.new.logs c.in-Ok.ensures.marks

pub returns-in-Ok-clause-notes : goal.returns-in-Ok-clause-notes
returns-in-Ok-clause-notes g c =
    noted_run c.args.config.now c.requires.checked c.args.vol (omega (arith, c.requires.some, c.requires.within)) c.args.logs.now c.requires.on.fits (OnLogs c.args.config.now c.args.vol) (g.S.Shelf.meaning c.args.shelf.now) (g.S.Shelf.meaning c.mark_run.new.shelf)
    (goes_reads (OnLogs c.args.config.now c.args.vol) (g.S.Shelf.meaning c.args.shelf.now) (g.S.Shelf.meaning c.mark_run.new.shelf) c.mark_run.ensures.goes) (λ p b x has on. logs_off_plex c.args.config.now c.requires.checked c.args.vol c.args.vol p b x has on)
    (c.args.block / 64) ((c.args.block + c.args.count - 1) / 64) _ c.mark_run.new.logs c.in-Ok.ensures.marks

pub returns-in-Err-clause-knows : goal.returns-in-Err-clause-knows
returns-in-Err-clause-knows g c = λ spare know. know_none c.args.config.now c.args.vol spare (record { drl = None; fmr = None }) (g.S.Shelf.meaning c.mark_run.new.shelf) refl

pub returns-in-Err-clause-notes : goal.returns-in-Err-clause-notes
returns-in-Err-clause-notes g c = note_none _ _ _ c.args.logs.now (record { drl = None; fmr = None }) refl

pub returns-in-Ok-clause-missed : goal.returns-in-Ok-clause-missed
returns-in-Ok-clause-missed g c =
    noted_holds c.args.config.now c.requires.checked c.args.vol (omega (arith, c.requires.some, c.requires.within)) c.args.logs.now c.requires.on.fits (g.S.Shelf.meaning c.args.shelf.now) c.requires.disks (c.args.block / 64) ((c.args.block + c.args.count - 1) / 64)
    c.mark_run.new.logs (g.S.Shelf.meaning c.mark_run.new.shelf) (omega (arith, c.requires.some, c.requires.within)) (Ok c.in-Ok.field-0) c.in-Ok.ensures.marks

pub returns-in-Ok-clause-drops : goal.returns-in-Ok-clause-drops
returns-in-Ok-clause-drops g c =
    drops_marked c.args.config.now c.args.vol (c.args.block / 64) ((c.args.block + c.args.count - 1) / 64) c.in-Ok.field-0 c.args.logs.now c.mark_run.new.logs (g.S.Shelf.meaning c.args.shelf.now) (g.S.Shelf.meaning c.mark_run.new.shelf) c.requires.on.fits c.in-Ok.ensures.marks

pub returns-in-Err-clause-drops : goal.returns-in-Err-clause-drops
returns-in-Err-clause-drops g c =
    drops_down c.args.config.now c.args.vol c.args.logs.now (g.S.Shelf.meaning c.args.shelf.now) (g.S.Shelf.meaning c.mark_run.new.shelf)
    (mark_down c.args.config.now c.args.vol (c.args.block / 64) ((c.args.block + c.args.count - 1) / 64) c.args.logs.now c.mark_run.new.logs (g.S.Shelf.meaning c.args.shelf.now) (g.S.Shelf.meaning c.mark_run.new.shelf) c.in-Err.no c.in-Err.ensures.marks)
