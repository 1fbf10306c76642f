-- `miss_all`: what `miss_run` asks; its clauses.
use Rattle.std.proofs.Common.{◌+◌, ◌-◌, ◌/◌, None, refl, arith, false}
use Rattle.vx_config.specs.Checks.{plexes_of}
use Rattle.vx_group.specs.Holding.{wide}
use Rattle.vx_group.proofs.HoldLemmas.{narrow_sound}
use Rattle.vx_group.proofs.Standing.{fit_of, sound_of}
use Rattle.vx_grouplogs.proofs.LogShape.{fits_same, same_count}
use Rattle.vx_groupmaps.proofs.KnowLemmas.{note_none}
use Rattle.vx_logged.specs.Behind.{all_those}
use Rattle.vx_logged.proofs.RefuseLemmas.{ends_know, ends_note, ends_on, maps_Stands, maps_nothing, maps_others, missed_goes, none_know, none_on, maps_finds}
use Rattle.vx_logged.proofs.StandLemmas.{inner_wide}
use Rattle.vx_grouplogs.proofs.GoneLemmas.{drops_maps, drops_noted, noted_down}
use Rattle.vx_groupmaps.specs.Refusing.{first_plexes}
use Rattle.vx_logged.proofs.refusing.miss_all.Goals as goal

pub miss_run-requires-clause-checked : goal.miss_run-requires-clause-checked
miss_run-requires-clause-checked g c = narrow_sound c.args.core.now (g.S.Shelf.meaning c.args.shelf.now) c.requires.stands

pub miss_run-requires-clause-fits : goal.miss_run-requires-clause-fits
miss_run-requires-clause-fits g c =
    let shape = inner_wide c.args.core.now (g.S.Shelf.meaning c.args.shelf.now) c.requires.stands in
    fits_same (wide c.args.core.now).config c.args.core.now.inner.config c.args.vol (shape.frames c.args.vol) (shape.blocks c.args.vol) (shape.logs c.args.vol) c.args.logs.now c.requires.log.fits

pub miss_run-requires-clause-within : goal.miss_run-requires-clause-within
miss_run-requires-clause-within g c =
    let same = (inner_wide c.args.core.now (g.S.Shelf.meaning c.args.shelf.now) c.requires.stands).blocks c.args.vol in
    omega (arith, c.requires.within, same)

pub miss_run-requires-clause-disks : goal.miss_run-requires-clause-disks
miss_run-requires-clause-disks g c = fit_of (wide c.args.core.now) (g.S.Shelf.meaning c.args.shelf.now) c.requires.stands.stands

pub returns-in-Ok-clause-stands : goal.returns-in-Ok-clause-stands
returns-in-Ok-clause-stands g c = maps_Stands c.args.core.now c.args.vol (g.S.Shelf.meaning c.args.shelf.now) (g.S.Shelf.meaning c.miss_run.new.shelf) c.requires.stands (missed_goes (wide c.args.core.now).config (sound_of (wide c.args.core.now) (g.S.Shelf.meaning c.args.shelf.now) c.requires.stands.stands) c.args.vol (omega (arith, c.requires.some, c.requires.within)) c.args.logs.now c.miss_run.new.logs (g.S.Shelf.meaning c.args.shelf.now) (g.S.Shelf.meaning c.miss_run.new.shelf) (fit_of (wide c.args.core.now) (g.S.Shelf.meaning c.args.shelf.now) c.requires.stands.stands) c.requires.log c.miss_run.ensures.drl c.miss_run.ensures.goes) (g.met.S.Shelf.lawful c.args.shelf.now) (g.met.S.Shelf.lawful c.miss_run.new.shelf)

pub returns-in-Ok-clause-below : goal.returns-in-Ok-clause-below
returns-in-Ok-clause-below g c = missed_goes (wide c.args.core.now).config (sound_of (wide c.args.core.now) (g.S.Shelf.meaning c.args.shelf.now) c.requires.stands.stands) c.args.vol (omega (arith, c.requires.some, c.requires.within)) c.args.logs.now c.miss_run.new.logs (g.S.Shelf.meaning c.args.shelf.now) (g.S.Shelf.meaning c.miss_run.new.shelf) (fit_of (wide c.args.core.now) (g.S.Shelf.meaning c.args.shelf.now) c.requires.stands.stands) c.requires.log c.miss_run.ensures.drl c.miss_run.ensures.goes

pub returns-in-Ok-clause-goes : goal.returns-in-Ok-clause-goes
returns-in-Ok-clause-goes g c = maps_nothing c.args.core.now c.args.vol (g.S.Shelf.meaning c.args.shelf.now) (g.S.Shelf.meaning c.miss_run.new.shelf) c.requires.stands (missed_goes (wide c.args.core.now).config (sound_of (wide c.args.core.now) (g.S.Shelf.meaning c.args.shelf.now) c.requires.stands.stands) c.args.vol (omega (arith, c.requires.some, c.requires.within)) c.args.logs.now c.miss_run.new.logs (g.S.Shelf.meaning c.args.shelf.now) (g.S.Shelf.meaning c.miss_run.new.shelf) (fit_of (wide c.args.core.now) (g.S.Shelf.meaning c.args.shelf.now) c.requires.stands.stands) c.requires.log c.miss_run.ensures.drl c.miss_run.ensures.goes) (g.met.S.Shelf.lawful c.args.shelf.now) (g.met.S.Shelf.lawful c.miss_run.new.shelf)

pub returns-in-Ok-clause-others : goal.returns-in-Ok-clause-others
returns-in-Ok-clause-others g c = maps_others c.args.core.now c.args.vol (g.S.Shelf.meaning c.args.shelf.now) (g.S.Shelf.meaning c.miss_run.new.shelf) c.requires.stands (missed_goes (wide c.args.core.now).config (sound_of (wide c.args.core.now) (g.S.Shelf.meaning c.args.shelf.now) c.requires.stands.stands) c.args.vol (omega (arith, c.requires.some, c.requires.within)) c.args.logs.now c.miss_run.new.logs (g.S.Shelf.meaning c.args.shelf.now) (g.S.Shelf.meaning c.miss_run.new.shelf) (fit_of (wide c.args.core.now) (g.S.Shelf.meaning c.args.shelf.now) c.requires.stands.stands) c.requires.log c.miss_run.ensures.drl c.miss_run.ensures.goes)

pub returns-in-Ok-clause-log : goal.returns-in-Ok-clause-log
returns-in-Ok-clause-log g c =
    let shape = inner_wide c.args.core.now (g.S.Shelf.meaning c.args.shelf.now) c.requires.stands in
    ends_on (wide c.args.core.now).config (sound_of (wide c.args.core.now) (g.S.Shelf.meaning c.args.shelf.now) c.requires.stands.stands) c.args.vol (omega (arith, c.requires.some, c.requires.within)) c.args.logs.now c.miss_run.new.logs (g.S.Shelf.meaning c.args.shelf.now) (g.S.Shelf.meaning c.miss_run.new.shelf) (fit_of (wide c.args.core.now) (g.S.Shelf.meaning c.args.shelf.now) c.requires.stands.stands) c.requires.log c.miss_run.ensures.drl c.miss_run.ensures.goes (plexes_of c.args.core.now.inner.config c.args.vol) (c.args.block / 64) ((c.args.block + c.args.count - 1) / 64) c.in-Ok.field-0 c.in-Ok.ensures.answers.0 (same_count (wide c.args.core.now).config c.args.core.now.inner.config c.args.vol (shape.frames c.args.vol) (shape.blocks c.args.vol)) c.miss_run.ensures.keeps

pub returns-in-Ok-clause-knows : goal.returns-in-Ok-clause-knows
returns-in-Ok-clause-knows g c =
    let shape = inner_wide c.args.core.now (g.S.Shelf.meaning c.args.shelf.now) c.requires.stands in
    ends_know (wide c.args.core.now).config (sound_of (wide c.args.core.now) (g.S.Shelf.meaning c.args.shelf.now) c.requires.stands.stands) c.args.vol (omega (arith, c.requires.some, c.requires.within)) c.args.logs.now c.miss_run.new.logs (g.S.Shelf.meaning c.args.shelf.now) (g.S.Shelf.meaning c.miss_run.new.shelf) (fit_of (wide c.args.core.now) (g.S.Shelf.meaning c.args.shelf.now) c.requires.stands.stands) c.requires.log c.miss_run.ensures.drl c.miss_run.ensures.goes (plexes_of c.args.core.now.inner.config c.args.vol) (c.args.block / 64) ((c.args.block + c.args.count - 1) / 64) c.in-Ok.field-0 c.in-Ok.ensures.answers.0 (same_count (wide c.args.core.now).config c.args.core.now.inner.config c.args.vol (shape.frames c.args.vol) (shape.blocks c.args.vol)) c.miss_run.ensures.keeps

pub returns-in-Ok-clause-notes : goal.returns-in-Ok-clause-notes
returns-in-Ok-clause-notes g c =
    let shape = inner_wide c.args.core.now (g.S.Shelf.meaning c.args.shelf.now) c.requires.stands in
    ends_note (wide c.args.core.now).config (sound_of (wide c.args.core.now) (g.S.Shelf.meaning c.args.shelf.now) c.requires.stands.stands) c.args.vol (omega (arith, c.requires.some, c.requires.within)) c.args.logs.now c.miss_run.new.logs (g.S.Shelf.meaning c.args.shelf.now) (g.S.Shelf.meaning c.miss_run.new.shelf) (fit_of (wide c.args.core.now) (g.S.Shelf.meaning c.args.shelf.now) c.requires.stands.stands) c.requires.log c.miss_run.ensures.drl c.miss_run.ensures.goes (plexes_of c.args.core.now.inner.config c.args.vol) (c.args.block / 64) ((c.args.block + c.args.count - 1) / 64) c.in-Ok.field-0 c.in-Ok.ensures.answers.0 (same_count (wide c.args.core.now).config c.args.core.now.inner.config c.args.vol (shape.frames c.args.vol) (shape.blocks c.args.vol)) c.miss_run.ensures.keeps

pub returns-clause-stands : goal.returns-clause-stands
returns-clause-stands g c = maps_Stands c.args.core.now c.args.vol (g.S.Shelf.meaning c.args.shelf.now) (g.S.Shelf.meaning c.miss_run.new.shelf) c.requires.stands (missed_goes (wide c.args.core.now).config (sound_of (wide c.args.core.now) (g.S.Shelf.meaning c.args.shelf.now) c.requires.stands.stands) c.args.vol (omega (arith, c.requires.some, c.requires.within)) c.args.logs.now (record { drl = c.miss_run.new.logs.drl; fmr = None }) (g.S.Shelf.meaning c.args.shelf.now) (g.S.Shelf.meaning c.miss_run.new.shelf) (fit_of (wide c.args.core.now) (g.S.Shelf.meaning c.args.shelf.now) c.requires.stands.stands) c.requires.log c.miss_run.ensures.drl c.miss_run.ensures.goes) (g.met.S.Shelf.lawful c.args.shelf.now) (g.met.S.Shelf.lawful c.miss_run.new.shelf)

pub returns-clause-below : goal.returns-clause-below
returns-clause-below g c = missed_goes (wide c.args.core.now).config (sound_of (wide c.args.core.now) (g.S.Shelf.meaning c.args.shelf.now) c.requires.stands.stands) c.args.vol (omega (arith, c.requires.some, c.requires.within)) c.args.logs.now (record { drl = c.miss_run.new.logs.drl; fmr = None }) (g.S.Shelf.meaning c.args.shelf.now) (g.S.Shelf.meaning c.miss_run.new.shelf) (fit_of (wide c.args.core.now) (g.S.Shelf.meaning c.args.shelf.now) c.requires.stands.stands) c.requires.log c.miss_run.ensures.drl c.miss_run.ensures.goes

pub returns-clause-goes : goal.returns-clause-goes
returns-clause-goes g c = maps_nothing c.args.core.now c.args.vol (g.S.Shelf.meaning c.args.shelf.now) (g.S.Shelf.meaning c.miss_run.new.shelf) c.requires.stands (missed_goes (wide c.args.core.now).config (sound_of (wide c.args.core.now) (g.S.Shelf.meaning c.args.shelf.now) c.requires.stands.stands) c.args.vol (omega (arith, c.requires.some, c.requires.within)) c.args.logs.now (record { drl = c.miss_run.new.logs.drl; fmr = None }) (g.S.Shelf.meaning c.args.shelf.now) (g.S.Shelf.meaning c.miss_run.new.shelf) (fit_of (wide c.args.core.now) (g.S.Shelf.meaning c.args.shelf.now) c.requires.stands.stands) c.requires.log c.miss_run.ensures.drl c.miss_run.ensures.goes) (g.met.S.Shelf.lawful c.args.shelf.now) (g.met.S.Shelf.lawful c.miss_run.new.shelf)

pub returns-clause-others : goal.returns-clause-others
returns-clause-others g c = maps_others c.args.core.now c.args.vol (g.S.Shelf.meaning c.args.shelf.now) (g.S.Shelf.meaning c.miss_run.new.shelf) c.requires.stands (missed_goes (wide c.args.core.now).config (sound_of (wide c.args.core.now) (g.S.Shelf.meaning c.args.shelf.now) c.requires.stands.stands) c.args.vol (omega (arith, c.requires.some, c.requires.within)) c.args.logs.now (record { drl = c.miss_run.new.logs.drl; fmr = None }) (g.S.Shelf.meaning c.args.shelf.now) (g.S.Shelf.meaning c.miss_run.new.shelf) (fit_of (wide c.args.core.now) (g.S.Shelf.meaning c.args.shelf.now) c.requires.stands.stands) c.requires.log c.miss_run.ensures.drl c.miss_run.ensures.goes)

pub returns-clause-log : goal.returns-clause-log
returns-clause-log g c = none_on (wide c.args.core.now).config (sound_of (wide c.args.core.now) (g.S.Shelf.meaning c.args.shelf.now) c.requires.stands.stands) c.args.vol (omega (arith, c.requires.some, c.requires.within)) c.args.logs.now (record { drl = c.miss_run.new.logs.drl; fmr = None }) (g.S.Shelf.meaning c.args.shelf.now) (g.S.Shelf.meaning c.miss_run.new.shelf) (fit_of (wide c.args.core.now) (g.S.Shelf.meaning c.args.shelf.now) c.requires.stands.stands) c.requires.log c.miss_run.ensures.drl c.miss_run.ensures.goes refl

pub returns-clause-knows : goal.returns-clause-knows
returns-clause-knows g c = λ know. none_know (wide c.args.core.now).config c.args.vol (record { drl = c.miss_run.new.logs.drl; fmr = None }) (g.S.Shelf.meaning c.miss_run.new.shelf) refl

pub returns-clause-notes : goal.returns-clause-notes
returns-clause-notes g c = note_none all_those _ _ c.args.logs.now (record { drl = c.miss_run.new.logs.drl; fmr = None }) refl

pub returns-clause-less : goal.returns-clause-less
returns-clause-less g c =
    maps_finds c.args.core.now c.args.vol (g.S.Shelf.meaning c.args.shelf.now) (g.S.Shelf.meaning c.miss_run.new.shelf) c.requires.stands (missed_goes (wide c.args.core.now).config (sound_of (wide c.args.core.now) (g.S.Shelf.meaning c.args.shelf.now) c.requires.stands.stands) c.args.vol (omega (arith, c.requires.some, c.requires.within)) c.args.logs.now (record { drl = c.miss_run.new.logs.drl; fmr = None }) (g.S.Shelf.meaning c.args.shelf.now) (g.S.Shelf.meaning c.miss_run.new.shelf) (fit_of (wide c.args.core.now) (g.S.Shelf.meaning c.args.shelf.now) c.requires.stands.stands) c.requires.log c.miss_run.ensures.drl c.miss_run.ensures.goes) (g.met.S.Shelf.lawful c.args.shelf.now) (g.met.S.Shelf.lawful c.miss_run.new.shelf)

pub returns-in-Ok-clause-less : goal.returns-in-Ok-clause-less
returns-in-Ok-clause-less g c =
    maps_finds c.args.core.now c.args.vol (g.S.Shelf.meaning c.args.shelf.now) (g.S.Shelf.meaning c.miss_run.new.shelf) c.requires.stands (missed_goes (wide c.args.core.now).config (sound_of (wide c.args.core.now) (g.S.Shelf.meaning c.args.shelf.now) c.requires.stands.stands) c.args.vol (omega (arith, c.requires.some, c.requires.within)) c.args.logs.now c.miss_run.new.logs (g.S.Shelf.meaning c.args.shelf.now) (g.S.Shelf.meaning c.miss_run.new.shelf) (fit_of (wide c.args.core.now) (g.S.Shelf.meaning c.args.shelf.now) c.requires.stands.stands) c.requires.log c.miss_run.ensures.drl c.miss_run.ensures.goes) (g.met.S.Shelf.lawful c.args.shelf.now) (g.met.S.Shelf.lawful c.miss_run.new.shelf)

pub returns-in-Ok-clause-drops : goal.returns-in-Ok-clause-drops
returns-in-Ok-clause-drops g c =
    drops_noted (wide c.args.core.now).config c.args.vol (first_plexes (plexes_of c.args.core.now.inner.config c.args.vol)) false (c.args.block / 64) ((c.args.block + c.args.count - 1) / 64) c.in-Ok.field-0 c.args.logs.now c.miss_run.new.logs (g.S.Shelf.meaning c.args.shelf.now) (g.S.Shelf.meaning c.miss_run.new.shelf) c.requires.log.fits c.miss_run.ensures.drl c.in-Ok.ensures.answers.0

pub returns-clause-drops : goal.returns-clause-drops
returns-clause-drops g c =
    drops_maps (wide c.args.core.now).config c.args.vol c.args.logs.now (record { drl = c.miss_run.new.logs.drl; fmr = None }) (g.S.Shelf.meaning c.args.shelf.now) (g.S.Shelf.meaning c.miss_run.new.shelf) c.miss_run.ensures.drl refl
    (noted_down (first_plexes (plexes_of c.args.core.now.inner.config c.args.vol)) false (c.args.block / 64) ((c.args.block + c.args.count - 1) / 64) c.args.logs.now.fmr c.miss_run.new.logs.fmr (g.S.Shelf.meaning c.args.shelf.now) (g.S.Shelf.meaning c.miss_run.new.shelf) c.in-Err.field-0 c.in-Err.ensures.answers)
