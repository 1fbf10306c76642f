-- `copy_plex`: what `copy_map` asks; its clauses.
use Rattle.std.proofs.Common.{◌≡◌, None, Some, refl, sym, arith}
use Rattle.vx_fmr.specs.Missed.{Missed}
use Rattle.vx_group.specs.Holding.{wide}
use Rattle.vx_group.proofs.HoldLemmas.{narrow_sound}
use Rattle.vx_group.proofs.Standing.{fit_of, sound_of}
use Rattle.vx_grouplogs.proofs.GoneLemmas.{drops_maps}
use Rattle.vx_grouplogs.proofs.KnowActs.{know_none}
use Rattle.vx_grouplogs.proofs.LogShape.{fits_same, same_count}
use Rattle.vx_grouplogs.proofs.MapLemmas.{on_mapped}
use Rattle.vx_groupmaps.specs.Missing.{none_spared}
use Rattle.vx_groupmaps.proofs.CopyRows.{copy_down}
use Rattle.vx_logged.proofs.BeginLemmas.{drl_on}
use Rattle.vx_logged.proofs.CopyLemmas.{copied_drops, copied_knows, copied_takes, maps_wide, takes_none}
use Rattle.vx_logged.proofs.RefuseLemmas.{maps_Stands, maps_finds, maps_nothing, maps_others}
use Rattle.vx_logged.proofs.StandLemmas.{inner_wide}
use Rattle.vx_logged.proofs.copying.copy_plex.Goals as goal

pub copy_map-requires-clause-checked : goal.copy_map-requires-clause-checked
copy_map-requires-clause-checked g c =
    narrow_sound c.args.core.now (g.S.Shelf.meaning c.args.shelf.now) c.requires.stands

pub copy_map-requires-clause-fits : goal.copy_map-requires-clause-fits
copy_map-requires-clause-fits g c =
    fits_same (wide c.args.core.now).config c.args.core.now.inner.config c.args.vol ((inner_wide c.args.core.now (g.S.Shelf.meaning c.args.shelf.now) c.requires.stands).frames c.args.vol) ((inner_wide c.args.core.now (g.S.Shelf.meaning c.args.shelf.now) c.requires.stands).blocks c.args.vol) ((inner_wide c.args.core.now (g.S.Shelf.meaning c.args.shelf.now) c.requires.stands).logs c.args.vol) c.args.logs.now c.requires.log.fits

pub copy_map-requires-clause-some : goal.copy_map-requires-clause-some
copy_map-requires-clause-some g c =
    let same = (inner_wide c.args.core.now (g.S.Shelf.meaning c.args.shelf.now) c.requires.stands).blocks c.args.vol in omega (arith, c.requires.some, same)

pub copy_map-requires-clause-to : goal.copy_map-requires-clause-to
copy_map-requires-clause-to g c =
    let same = same_count (wide c.args.core.now).config c.args.core.now.inner.config c.args.vol ((inner_wide c.args.core.now (g.S.Shelf.meaning c.args.shelf.now) c.requires.stands).frames c.args.vol) ((inner_wide c.args.core.now (g.S.Shelf.meaning c.args.shelf.now) c.requires.stands).blocks c.args.vol) in omega (arith, c.requires.to, same)

pub copy_map-requires-clause-from : goal.copy_map-requires-clause-from
copy_map-requires-clause-from g c =
    let same = same_count (wide c.args.core.now).config c.args.core.now.inner.config c.args.vol ((inner_wide c.args.core.now (g.S.Shelf.meaning c.args.shelf.now) c.requires.stands).frames c.args.vol) ((inner_wide c.args.core.now (g.S.Shelf.meaning c.args.shelf.now) c.requires.stands).blocks c.args.vol) in omega (arith, c.requires.from, same)

pub copy_map-requires-clause-disks : goal.copy_map-requires-clause-disks
copy_map-requires-clause-disks g c =
    (fit_of (wide c.args.core.now) (g.S.Shelf.meaning c.args.shelf.now) c.requires.stands.stands)

pub returns-in-Ok-clause-stands : goal.returns-in-Ok-clause-stands
returns-in-Ok-clause-stands g c =
    maps_Stands c.args.core.now c.args.vol (g.S.Shelf.meaning c.args.shelf.now) (g.S.Shelf.meaning c.copy_map.new.shelf) c.requires.stands (maps_wide c.args.core.now c.args.vol (g.S.Shelf.meaning c.args.shelf.now) (g.S.Shelf.meaning c.args.shelf.now) (g.S.Shelf.meaning c.copy_map.new.shelf) c.requires.stands c.copy_map.ensures.goes) (g.met.S.Shelf.lawful c.args.shelf.now) (g.met.S.Shelf.lawful c.copy_map.new.shelf)

pub returns-in-Ok-clause-below : goal.returns-in-Ok-clause-below
returns-in-Ok-clause-below g c =
    (maps_wide c.args.core.now c.args.vol (g.S.Shelf.meaning c.args.shelf.now) (g.S.Shelf.meaning c.args.shelf.now) (g.S.Shelf.meaning c.copy_map.new.shelf) c.requires.stands c.copy_map.ensures.goes)

pub returns-in-Ok-clause-goes : goal.returns-in-Ok-clause-goes
returns-in-Ok-clause-goes g c =
    maps_nothing c.args.core.now c.args.vol (g.S.Shelf.meaning c.args.shelf.now) (g.S.Shelf.meaning c.copy_map.new.shelf) c.requires.stands (maps_wide c.args.core.now c.args.vol (g.S.Shelf.meaning c.args.shelf.now) (g.S.Shelf.meaning c.args.shelf.now) (g.S.Shelf.meaning c.copy_map.new.shelf) c.requires.stands c.copy_map.ensures.goes) (g.met.S.Shelf.lawful c.args.shelf.now) (g.met.S.Shelf.lawful c.copy_map.new.shelf)

pub returns-in-Ok-clause-others : goal.returns-in-Ok-clause-others
returns-in-Ok-clause-others g c =
    maps_others c.args.core.now c.args.vol (g.S.Shelf.meaning c.args.shelf.now) (g.S.Shelf.meaning c.copy_map.new.shelf) c.requires.stands (maps_wide c.args.core.now c.args.vol (g.S.Shelf.meaning c.args.shelf.now) (g.S.Shelf.meaning c.args.shelf.now) (g.S.Shelf.meaning c.copy_map.new.shelf) c.requires.stands c.copy_map.ensures.goes)

pub returns-in-Ok-clause-less : goal.returns-in-Ok-clause-less
returns-in-Ok-clause-less g c =
    maps_finds c.args.core.now c.args.vol (g.S.Shelf.meaning c.args.shelf.now) (g.S.Shelf.meaning c.copy_map.new.shelf) c.requires.stands (maps_wide c.args.core.now c.args.vol (g.S.Shelf.meaning c.args.shelf.now) (g.S.Shelf.meaning c.args.shelf.now) (g.S.Shelf.meaning c.copy_map.new.shelf) c.requires.stands c.copy_map.ensures.goes) (g.met.S.Shelf.lawful c.args.shelf.now) (g.met.S.Shelf.lawful c.copy_map.new.shelf)

pub returns-clause-stands : goal.returns-clause-stands
returns-clause-stands g c =
    maps_Stands c.args.core.now c.args.vol (g.S.Shelf.meaning c.args.shelf.now) (g.S.Shelf.meaning c.copy_map.new.shelf) c.requires.stands (maps_wide c.args.core.now c.args.vol (g.S.Shelf.meaning c.args.shelf.now) (g.S.Shelf.meaning c.args.shelf.now) (g.S.Shelf.meaning c.copy_map.new.shelf) c.requires.stands c.copy_map.ensures.goes) (g.met.S.Shelf.lawful c.args.shelf.now) (g.met.S.Shelf.lawful c.copy_map.new.shelf)

pub returns-clause-below : goal.returns-clause-below
returns-clause-below g c =
    (maps_wide c.args.core.now c.args.vol (g.S.Shelf.meaning c.args.shelf.now) (g.S.Shelf.meaning c.args.shelf.now) (g.S.Shelf.meaning c.copy_map.new.shelf) c.requires.stands c.copy_map.ensures.goes)

pub returns-clause-goes : goal.returns-clause-goes
returns-clause-goes g c =
    maps_nothing c.args.core.now c.args.vol (g.S.Shelf.meaning c.args.shelf.now) (g.S.Shelf.meaning c.copy_map.new.shelf) c.requires.stands (maps_wide c.args.core.now c.args.vol (g.S.Shelf.meaning c.args.shelf.now) (g.S.Shelf.meaning c.args.shelf.now) (g.S.Shelf.meaning c.copy_map.new.shelf) c.requires.stands c.copy_map.ensures.goes) (g.met.S.Shelf.lawful c.args.shelf.now) (g.met.S.Shelf.lawful c.copy_map.new.shelf)

pub returns-clause-others : goal.returns-clause-others
returns-clause-others g c =
    maps_others c.args.core.now c.args.vol (g.S.Shelf.meaning c.args.shelf.now) (g.S.Shelf.meaning c.copy_map.new.shelf) c.requires.stands (maps_wide c.args.core.now c.args.vol (g.S.Shelf.meaning c.args.shelf.now) (g.S.Shelf.meaning c.args.shelf.now) (g.S.Shelf.meaning c.copy_map.new.shelf) c.requires.stands c.copy_map.ensures.goes)

pub returns-clause-less : goal.returns-clause-less
returns-clause-less g c =
    maps_finds c.args.core.now c.args.vol (g.S.Shelf.meaning c.args.shelf.now) (g.S.Shelf.meaning c.copy_map.new.shelf) c.requires.stands (maps_wide c.args.core.now c.args.vol (g.S.Shelf.meaning c.args.shelf.now) (g.S.Shelf.meaning c.args.shelf.now) (g.S.Shelf.meaning c.copy_map.new.shelf) c.requires.stands c.copy_map.ensures.goes) (g.met.S.Shelf.lawful c.args.shelf.now) (g.met.S.Shelf.lawful c.copy_map.new.shelf)

pub returns-in-Ok-clause-log : goal.returns-in-Ok-clause-log
returns-in-Ok-clause-log g c =
    drl_on (wide c.args.core.now).config c.args.vol c.args.logs.now c.copy_map.new.logs (g.S.Shelf.meaning c.copy_map.new.shelf) c.copy_map.ensures.drl
    (on_mapped (wide c.args.core.now).config (sound_of (wide c.args.core.now) (g.S.Shelf.meaning c.args.shelf.now) c.requires.stands.stands) c.args.vol c.requires.some (g.S.Shelf.meaning c.args.shelf.now) (g.S.Shelf.meaning c.copy_map.new.shelf) (fit_of (wide c.args.core.now) (g.S.Shelf.meaning c.args.shelf.now) c.requires.stands.stands) (maps_wide c.args.core.now c.args.vol (g.S.Shelf.meaning c.args.shelf.now) (g.S.Shelf.meaning c.args.shelf.now) (g.S.Shelf.meaning c.copy_map.new.shelf) c.requires.stands c.copy_map.ensures.goes) c.args.logs.now c.copy_map.new.logs.fmr (fits_same c.args.core.now.inner.config (wide c.args.core.now).config c.args.vol (sym ((inner_wide c.args.core.now (g.S.Shelf.meaning c.args.shelf.now) c.requires.stands).frames c.args.vol)) (sym ((inner_wide c.args.core.now (g.S.Shelf.meaning c.args.shelf.now) c.requires.stands).blocks c.args.vol)) (λ log. sym ((inner_wide c.args.core.now (g.S.Shelf.meaning c.args.shelf.now) c.requires.stands).logs c.args.vol log)) c.copy_map.new.logs c.copy_map.ensures.fits).fmr (c.in-Ok.ensures.stands c.requires.log.stands).fmr c.requires.log)

pub returns-clause-log : goal.returns-clause-log
returns-clause-log g c =
    drl_on (wide c.args.core.now).config c.args.vol c.args.logs.now (record { drl = c.copy_map.new.logs.drl; fmr = None }) (g.S.Shelf.meaning c.copy_map.new.shelf) c.copy_map.ensures.drl
    (on_mapped (wide c.args.core.now).config (sound_of (wide c.args.core.now) (g.S.Shelf.meaning c.args.shelf.now) c.requires.stands.stands) c.args.vol c.requires.some (g.S.Shelf.meaning c.args.shelf.now) (g.S.Shelf.meaning c.copy_map.new.shelf) (fit_of (wide c.args.core.now) (g.S.Shelf.meaning c.args.shelf.now) c.requires.stands.stands) (maps_wide c.args.core.now c.args.vol (g.S.Shelf.meaning c.args.shelf.now) (g.S.Shelf.meaning c.args.shelf.now) (g.S.Shelf.meaning c.copy_map.new.shelf) c.requires.stands c.copy_map.ensures.goes) c.args.logs.now None (λ (f : Missed) is. absurd (let clash : None ≡ Some f = is in cc)) (λ (f : Missed) is. absurd (let clash : None ≡ Some f = is in cc)) c.requires.log)

pub returns-in-Ok-clause-known : goal.returns-in-Ok-clause-known
returns-in-Ok-clause-known g c =
    copied_knows (wide c.args.core.now).config (sound_of (wide c.args.core.now) (g.S.Shelf.meaning c.args.shelf.now) c.requires.stands.stands) c.args.vol c.requires.some c.args.to c.args.from c.args.logs.now c.copy_map.new.logs (g.S.Shelf.meaning c.args.shelf.now) (g.S.Shelf.meaning c.copy_map.new.shelf) (maps_wide c.args.core.now c.args.vol (g.S.Shelf.meaning c.args.shelf.now) (g.S.Shelf.meaning c.args.shelf.now) (g.S.Shelf.meaning c.copy_map.new.shelf) c.requires.stands c.copy_map.ensures.goes) c.requires.log.fits _ c.in-Ok.ensures.answers.0 c.requires.reads c.requires.known

pub returns-clause-known : goal.returns-clause-known
returns-clause-known g c = know_none (wide c.args.core.now).config c.args.vol none_spared (record { drl = c.copy_map.new.logs.drl; fmr = None }) (g.S.Shelf.meaning c.copy_map.new.shelf) refl

pub returns-in-Ok-clause-takes : goal.returns-in-Ok-clause-takes
returns-in-Ok-clause-takes g c =
    copied_takes (wide c.args.core.now).config (sound_of (wide c.args.core.now) (g.S.Shelf.meaning c.args.shelf.now) c.requires.stands.stands) c.args.vol c.requires.some c.args.to c.args.from c.args.logs.now c.copy_map.new.logs (g.S.Shelf.meaning c.args.shelf.now) (g.S.Shelf.meaning c.copy_map.new.shelf) (maps_wide c.args.core.now c.args.vol (g.S.Shelf.meaning c.args.shelf.now) (g.S.Shelf.meaning c.args.shelf.now) (g.S.Shelf.meaning c.copy_map.new.shelf) c.requires.stands c.copy_map.ensures.goes) c.requires.log.fits _ c.in-Ok.ensures.answers.0

pub returns-clause-takes : goal.returns-clause-takes
returns-clause-takes g c = takes_none c.args.to c.args.from c.args.logs.now (record { drl = c.copy_map.new.logs.drl; fmr = None }) refl

pub returns-in-Ok-clause-drops : goal.returns-in-Ok-clause-drops
returns-in-Ok-clause-drops g c =
    copied_drops (wide c.args.core.now).config (sound_of (wide c.args.core.now) (g.S.Shelf.meaning c.args.shelf.now) c.requires.stands.stands) c.args.vol c.requires.some c.args.to c.args.from c.args.logs.now c.copy_map.new.logs (g.S.Shelf.meaning c.args.shelf.now) (g.S.Shelf.meaning c.copy_map.new.shelf) (maps_wide c.args.core.now c.args.vol (g.S.Shelf.meaning c.args.shelf.now) (g.S.Shelf.meaning c.args.shelf.now) (g.S.Shelf.meaning c.copy_map.new.shelf) c.requires.stands c.copy_map.ensures.goes) c.requires.log.fits _ c.in-Ok.ensures.answers.0 c.copy_map.ensures.drl

pub returns-clause-drops : goal.returns-clause-drops
returns-clause-drops g c =
    drops_maps (wide c.args.core.now).config c.args.vol c.args.logs.now (record { drl = c.copy_map.new.logs.drl; fmr = None }) (g.S.Shelf.meaning c.args.shelf.now) (g.S.Shelf.meaning c.copy_map.new.shelf) c.copy_map.ensures.drl refl (copy_down c.args.to c.args.from c.args.logs.now.fmr c.copy_map.new.logs.fmr (g.S.Shelf.meaning c.args.shelf.now) (g.S.Shelf.meaning c.copy_map.new.shelf) c.in-Err.field-0 c.in-Err.ensures.answers)
