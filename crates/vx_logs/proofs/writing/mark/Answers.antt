-- A mark in both logs.
use Rattle.std.proofs.Common.{◌∙◌, false, sym}
use Rattle.vx_logs.specs.Noting.{is_one}
use Rattle.vx_volume.proofs.CopyLemmas.{disks_still}
use Rattle.vx_logs.proofs.LogLemmas.{stale_below}
use Rattle.vx_logs.proofs.MarkLemmas.{both_marked, both_write, drl_has, drl_refused, first_writes, fmr_refused, fits_later, fmr_ready, same_fmr, some_blocks, stale_still}
use Rattle.vx_logs.proofs.writing.mark.Goals as goal

pub mark_dirty-requires-clause-has : goal.mark_dirty-requires-clause-has
mark_dirty-requires-clause-has g c =
    drl_has c.args.config.now c.requires.checked c.args.vol (some_blocks _ c.args.last c.requires.inside) c.args.logs.now c.requires.fits c.args.last (g.S.Shelf.meaning c.args.shelf.now) c.requires.disks c.requires.inside

pub note_missed-requires-clause-ready : goal.note_missed-requires-clause-ready
note_missed-requires-clause-ready g c =
    fmr_ready c.args.config.now c.requires.checked c.args.vol (some_blocks _ c.args.last c.requires.inside) c.args.logs.now c.requires.fits c.stale_set-stale.result c.args.last (g.S.Shelf.meaning c.mark_dirty.new.shelf)
    (disks_still c.args.config.now.disks (g.S.Shelf.meaning c.args.shelf.now) (g.S.Shelf.meaning c.mark_dirty.new.shelf) c.requires.disks c.mark_dirty.ensures.writes.units c.mark_dirty.ensures.writes.size) c.requires.inside
    (λ p is. stale_below c.args.config.now c.args.vol p (sym (c.stale_set-stale.ensures p) ∙ is))

pub returns-in-Ok-note_missed-clause-writes : goal.returns-in-Ok-note_missed-clause-writes
returns-in-Ok-note_missed-clause-writes g c =
    both_write c.args.config.now c.requires.checked c.args.vol (some_blocks _ c.args.last c.requires.inside) c.args.logs.now c.requires.fits c.args.first c.args.last c.stale_set-stale.result c.stale_set-stale.ensures
    (g.S.Shelf.meaning c.args.shelf.now) (g.S.Shelf.meaning c.mark_dirty.new.shelf) c.requires.disks c.mark_dirty.ensures.writes (g.S.Shelf.meaning c.note_missed.new.shelf) c.note_missed.ensures.writes

pub returns-in-Ok-note_missed-clause-marks : goal.returns-in-Ok-note_missed-clause-marks
returns-in-Ok-note_missed-clause-marks g c =
    both_marked c.args.config.now c.requires.checked c.args.vol (some_blocks _ c.args.last c.requires.inside) c.args.logs.now c.requires.fits c.args.first c.args.last c.stale_set-stale.result c.stale_set-stale.ensures
    (g.S.Shelf.meaning c.args.shelf.now) (g.S.Shelf.meaning c.mark_dirty.new.shelf) c.requires.disks c.mark_dirty.ensures.writes (g.S.Shelf.meaning c.note_missed.new.shelf) c.note_missed.ensures.writes
    (record { drl = c.in-Ok.drl; fmr = c.in-Ok-note_missed.fmr }) (record { drl = c.mark_dirty.new.drl; fmr = c.note_missed.new.fmr }) c.mark_dirty.ensures.keeps c.in-Ok.ensures.answers.0 c.in-Ok.ensures.answers.1
    c.in-Ok-note_missed.ensures.answers.0 c.in-Ok-note_missed.ensures.answers.1

pub returns-in-Ok-note_missed-clause-fits : goal.returns-in-Ok-note_missed-clause-fits
returns-in-Ok-note_missed-clause-fits g c =
    fits_later c.args.config.now c.args.vol c.args.logs.now (record { drl = c.mark_dirty.new.drl; fmr = c.note_missed.new.fmr }) c.requires.fits c.mark_dirty.ensures.keeps c.note_missed.ensures.keeps

pub returns-in-Ok-note_missed-clause-nothing : goal.returns-in-Ok-note_missed-clause-nothing
returns-in-Ok-note_missed-clause-nothing g c = λ drl fmr.
    c.note_missed.ensures.nothing (stale_still c.args.config.now c.args.vol c.stale_set-stale.result c.args.first c.args.last c.args.logs.now.fmr c.stale_set-stale.ensures fmr) ∙ c.mark_dirty.ensures.nothing drl

pub returns-in-Err-note_missed-clause-writes : goal.returns-in-Err-note_missed-clause-writes
returns-in-Err-note_missed-clause-writes g c =
    both_write c.args.config.now c.requires.checked c.args.vol (some_blocks _ c.args.last c.requires.inside) c.args.logs.now c.requires.fits c.args.first c.args.last c.stale_set-stale.result c.stale_set-stale.ensures
    (g.S.Shelf.meaning c.args.shelf.now) (g.S.Shelf.meaning c.mark_dirty.new.shelf) c.requires.disks c.mark_dirty.ensures.writes (g.S.Shelf.meaning c.note_missed.new.shelf) c.note_missed.ensures.writes

pub returns-in-Err-note_missed-clause-fits : goal.returns-in-Err-note_missed-clause-fits
returns-in-Err-note_missed-clause-fits g c =
    fits_later c.args.config.now c.args.vol c.args.logs.now (record { drl = c.mark_dirty.new.drl; fmr = c.note_missed.new.fmr }) c.requires.fits c.mark_dirty.ensures.keeps c.note_missed.ensures.keeps

pub returns-in-Err-note_missed-clause-nothing : goal.returns-in-Err-note_missed-clause-nothing
returns-in-Err-note_missed-clause-nothing g c = λ drl fmr.
    c.note_missed.ensures.nothing (stale_still c.args.config.now c.args.vol c.stale_set-stale.result c.args.first c.args.last c.args.logs.now.fmr c.stale_set-stale.ensures fmr) ∙ c.mark_dirty.ensures.nothing drl

pub returns-in-Err-clause-writes : goal.returns-in-Err-clause-writes
returns-in-Err-clause-writes g c =
    first_writes c.args.config.now c.requires.checked c.args.vol (some_blocks _ c.args.last c.requires.inside) c.args.logs.now c.requires.fits c.args.first c.args.last c.stale_set-stale.result c.stale_set-stale.ensures
    (g.S.Shelf.meaning c.args.shelf.now) (g.S.Shelf.meaning c.mark_dirty.new.shelf) c.requires.disks c.mark_dirty.ensures.writes

pub returns-in-Err-clause-fits : goal.returns-in-Err-clause-fits
returns-in-Err-clause-fits g c =
    fits_later c.args.config.now c.args.vol c.args.logs.now (record { drl = c.mark_dirty.new.drl; fmr = c.args.logs.now.fmr }) c.requires.fits c.mark_dirty.ensures.keeps (same_fmr c.args.logs.now.fmr)

pub returns-in-Err-note_missed-clause-marks : goal.returns-in-Err-note_missed-clause-marks
returns-in-Err-note_missed-clause-marks g c =
    fmr_refused c.args.config.now c.args.vol (is_one c.stale_set-stale.result) false c.args.first c.args.last c.args.logs.now.fmr c.note_missed.new.fmr c.args.logs.now (record { drl = c.mark_dirty.new.drl; fmr = c.note_missed.new.fmr }) (g.S.Shelf.meaning c.args.shelf.now) (g.S.Shelf.meaning c.mark_dirty.new.shelf) (g.S.Shelf.meaning c.note_missed.new.shelf) c.in-Err-note_missed.no c.in-Err-note_missed.ensures.answers

pub returns-in-Err-clause-marks : goal.returns-in-Err-clause-marks
returns-in-Err-clause-marks g c =
    drl_refused c.args.config.now c.args.vol c.args.first c.args.last c.args.logs.now.drl c.mark_dirty.new.drl c.args.logs.now (record { drl = c.mark_dirty.new.drl; fmr = c.args.logs.now.fmr }) (g.S.Shelf.meaning c.args.shelf.now) (g.S.Shelf.meaning c.mark_dirty.new.shelf) c.in-Err.no c.in-Err.ensures.answers

pub returns-in-Err-clause-nothing : goal.returns-in-Err-clause-nothing
returns-in-Err-clause-nothing g c = λ drl fmr. c.mark_dirty.ensures.nothing drl
