-- `empty_plex`: what `begin_map` asks; its clauses.
use Rattle.std.proofs.Common.{◌≡◌, None, Some, refl, sym, arith}
use Rattle.vx_fmr.specs.Missed.{Missed}
use Rattle.vx_group.specs.Holding.{wide}
use Rattle.vx_group.proofs.HoldLemmas.{narrow_sound}
use Rattle.vx_group.proofs.Standing.{fit_of, sound_of}
use Rattle.vx_grouplogs.proofs.GoneLemmas.{drops_maps}
use Rattle.vx_grouplogs.proofs.KnowActs.{know_none}
use Rattle.vx_grouplogs.proofs.LogShape.{fits_same, same_count}
use Rattle.vx_grouplogs.proofs.MapLemmas.{on_mapped}
use Rattle.vx_groupmaps.proofs.BeginLemmas.{down_of}
use Rattle.vx_logs.specs.Noting.{this_plex}
use Rattle.vx_logged.specs.Behind.{none_missing}
use Rattle.vx_logged.proofs.BeginLemmas.{but_none, drl_on, off_none, plex_but, plex_drops, plex_knows, plex_off}
use Rattle.vx_logged.proofs.EmptyLemmas.{maps_alike}
use Rattle.vx_logged.proofs.RefuseLemmas.{maps_Stands, maps_finds, maps_nothing, maps_others}
use Rattle.vx_logged.proofs.StandLemmas.{inner_wide}
use Rattle.vx_logged.proofs.emptying.empty_plex.Goals as goal

pub begin_map-requires-clause-checked : goal.begin_map-requires-clause-checked
begin_map-requires-clause-checked g c =
    narrow_sound c.args.core.now (g.S.Shelf.meaning c.args.shelf.now) c.requires.stands

pub begin_map-requires-clause-fits : goal.begin_map-requires-clause-fits
begin_map-requires-clause-fits g c =
    fits_same (wide c.args.core.now).config c.args.core.now.inner.config c.args.vol ((inner_wide c.args.core.now (g.S.Shelf.meaning c.args.shelf.now) c.requires.stands).frames c.args.vol) ((inner_wide c.args.core.now (g.S.Shelf.meaning c.args.shelf.now) c.requires.stands).blocks c.args.vol) ((inner_wide c.args.core.now (g.S.Shelf.meaning c.args.shelf.now) c.requires.stands).logs c.args.vol) c.args.logs.now c.requires.log.fits

pub begin_map-requires-clause-some : goal.begin_map-requires-clause-some
begin_map-requires-clause-some g c =
    let same = (inner_wide c.args.core.now (g.S.Shelf.meaning c.args.shelf.now) c.requires.stands).blocks c.args.vol in omega (arith, c.requires.some, same)

pub begin_map-requires-clause-exists : goal.begin_map-requires-clause-exists
begin_map-requires-clause-exists g c =
    let same = same_count (wide c.args.core.now).config c.args.core.now.inner.config c.args.vol ((inner_wide c.args.core.now (g.S.Shelf.meaning c.args.shelf.now) c.requires.stands).frames c.args.vol) ((inner_wide c.args.core.now (g.S.Shelf.meaning c.args.shelf.now) c.requires.stands).blocks c.args.vol) in omega (arith, c.requires.exists, same)

pub begin_map-requires-clause-disks : goal.begin_map-requires-clause-disks
begin_map-requires-clause-disks g c =
    (fit_of (wide c.args.core.now) (g.S.Shelf.meaning c.args.shelf.now) c.requires.stands.stands)

pub returns-in-Ok-clause-stands : goal.returns-in-Ok-clause-stands
returns-in-Ok-clause-stands g c =
    maps_Stands c.args.core.now c.args.vol (g.S.Shelf.meaning c.args.shelf.now) (g.S.Shelf.meaning c.begin_map.new.shelf) c.requires.stands (maps_alike c.args.core.now.inner.config (wide c.args.core.now).config c.args.vol (λ log. sym ((inner_wide c.args.core.now (g.S.Shelf.meaning c.args.shelf.now) c.requires.stands).logs c.args.vol log)) (g.S.Shelf.meaning c.args.shelf.now) (g.S.Shelf.meaning c.begin_map.new.shelf) c.begin_map.ensures.goes) (g.met.S.Shelf.lawful c.args.shelf.now) (g.met.S.Shelf.lawful c.begin_map.new.shelf)

pub returns-in-Ok-clause-below : goal.returns-in-Ok-clause-below
returns-in-Ok-clause-below g c =
    (maps_alike c.args.core.now.inner.config (wide c.args.core.now).config c.args.vol (λ log. sym ((inner_wide c.args.core.now (g.S.Shelf.meaning c.args.shelf.now) c.requires.stands).logs c.args.vol log)) (g.S.Shelf.meaning c.args.shelf.now) (g.S.Shelf.meaning c.begin_map.new.shelf) c.begin_map.ensures.goes)

pub returns-in-Ok-clause-goes : goal.returns-in-Ok-clause-goes
returns-in-Ok-clause-goes g c =
    maps_nothing c.args.core.now c.args.vol (g.S.Shelf.meaning c.args.shelf.now) (g.S.Shelf.meaning c.begin_map.new.shelf) c.requires.stands (maps_alike c.args.core.now.inner.config (wide c.args.core.now).config c.args.vol (λ log. sym ((inner_wide c.args.core.now (g.S.Shelf.meaning c.args.shelf.now) c.requires.stands).logs c.args.vol log)) (g.S.Shelf.meaning c.args.shelf.now) (g.S.Shelf.meaning c.begin_map.new.shelf) c.begin_map.ensures.goes) (g.met.S.Shelf.lawful c.args.shelf.now) (g.met.S.Shelf.lawful c.begin_map.new.shelf)

pub returns-in-Ok-clause-others : goal.returns-in-Ok-clause-others
returns-in-Ok-clause-others g c =
    maps_others c.args.core.now c.args.vol (g.S.Shelf.meaning c.args.shelf.now) (g.S.Shelf.meaning c.begin_map.new.shelf) c.requires.stands (maps_alike c.args.core.now.inner.config (wide c.args.core.now).config c.args.vol (λ log. sym ((inner_wide c.args.core.now (g.S.Shelf.meaning c.args.shelf.now) c.requires.stands).logs c.args.vol log)) (g.S.Shelf.meaning c.args.shelf.now) (g.S.Shelf.meaning c.begin_map.new.shelf) c.begin_map.ensures.goes)

pub returns-in-Ok-clause-less : goal.returns-in-Ok-clause-less
returns-in-Ok-clause-less g c =
    maps_finds c.args.core.now c.args.vol (g.S.Shelf.meaning c.args.shelf.now) (g.S.Shelf.meaning c.begin_map.new.shelf) c.requires.stands (maps_alike c.args.core.now.inner.config (wide c.args.core.now).config c.args.vol (λ log. sym ((inner_wide c.args.core.now (g.S.Shelf.meaning c.args.shelf.now) c.requires.stands).logs c.args.vol log)) (g.S.Shelf.meaning c.args.shelf.now) (g.S.Shelf.meaning c.begin_map.new.shelf) c.begin_map.ensures.goes) (g.met.S.Shelf.lawful c.args.shelf.now) (g.met.S.Shelf.lawful c.begin_map.new.shelf)

pub returns-clause-stands : goal.returns-clause-stands
returns-clause-stands g c =
    maps_Stands c.args.core.now c.args.vol (g.S.Shelf.meaning c.args.shelf.now) (g.S.Shelf.meaning c.begin_map.new.shelf) c.requires.stands (maps_alike c.args.core.now.inner.config (wide c.args.core.now).config c.args.vol (λ log. sym ((inner_wide c.args.core.now (g.S.Shelf.meaning c.args.shelf.now) c.requires.stands).logs c.args.vol log)) (g.S.Shelf.meaning c.args.shelf.now) (g.S.Shelf.meaning c.begin_map.new.shelf) c.begin_map.ensures.goes) (g.met.S.Shelf.lawful c.args.shelf.now) (g.met.S.Shelf.lawful c.begin_map.new.shelf)

pub returns-clause-below : goal.returns-clause-below
returns-clause-below g c =
    (maps_alike c.args.core.now.inner.config (wide c.args.core.now).config c.args.vol (λ log. sym ((inner_wide c.args.core.now (g.S.Shelf.meaning c.args.shelf.now) c.requires.stands).logs c.args.vol log)) (g.S.Shelf.meaning c.args.shelf.now) (g.S.Shelf.meaning c.begin_map.new.shelf) c.begin_map.ensures.goes)

pub returns-clause-goes : goal.returns-clause-goes
returns-clause-goes g c =
    maps_nothing c.args.core.now c.args.vol (g.S.Shelf.meaning c.args.shelf.now) (g.S.Shelf.meaning c.begin_map.new.shelf) c.requires.stands (maps_alike c.args.core.now.inner.config (wide c.args.core.now).config c.args.vol (λ log. sym ((inner_wide c.args.core.now (g.S.Shelf.meaning c.args.shelf.now) c.requires.stands).logs c.args.vol log)) (g.S.Shelf.meaning c.args.shelf.now) (g.S.Shelf.meaning c.begin_map.new.shelf) c.begin_map.ensures.goes) (g.met.S.Shelf.lawful c.args.shelf.now) (g.met.S.Shelf.lawful c.begin_map.new.shelf)

pub returns-clause-others : goal.returns-clause-others
returns-clause-others g c =
    maps_others c.args.core.now c.args.vol (g.S.Shelf.meaning c.args.shelf.now) (g.S.Shelf.meaning c.begin_map.new.shelf) c.requires.stands (maps_alike c.args.core.now.inner.config (wide c.args.core.now).config c.args.vol (λ log. sym ((inner_wide c.args.core.now (g.S.Shelf.meaning c.args.shelf.now) c.requires.stands).logs c.args.vol log)) (g.S.Shelf.meaning c.args.shelf.now) (g.S.Shelf.meaning c.begin_map.new.shelf) c.begin_map.ensures.goes)

pub returns-clause-less : goal.returns-clause-less
returns-clause-less g c =
    maps_finds c.args.core.now c.args.vol (g.S.Shelf.meaning c.args.shelf.now) (g.S.Shelf.meaning c.begin_map.new.shelf) c.requires.stands (maps_alike c.args.core.now.inner.config (wide c.args.core.now).config c.args.vol (λ log. sym ((inner_wide c.args.core.now (g.S.Shelf.meaning c.args.shelf.now) c.requires.stands).logs c.args.vol log)) (g.S.Shelf.meaning c.args.shelf.now) (g.S.Shelf.meaning c.begin_map.new.shelf) c.begin_map.ensures.goes) (g.met.S.Shelf.lawful c.args.shelf.now) (g.met.S.Shelf.lawful c.begin_map.new.shelf)

pub returns-in-Ok-clause-log : goal.returns-in-Ok-clause-log
returns-in-Ok-clause-log g c =
    drl_on (wide c.args.core.now).config c.args.vol c.args.logs.now c.begin_map.new.logs (g.S.Shelf.meaning c.begin_map.new.shelf) c.begin_map.ensures.drl
    (on_mapped (wide c.args.core.now).config (sound_of (wide c.args.core.now) (g.S.Shelf.meaning c.args.shelf.now) c.requires.stands.stands) c.args.vol c.requires.some (g.S.Shelf.meaning c.args.shelf.now) (g.S.Shelf.meaning c.begin_map.new.shelf) (fit_of (wide c.args.core.now) (g.S.Shelf.meaning c.args.shelf.now) c.requires.stands.stands) (maps_alike c.args.core.now.inner.config (wide c.args.core.now).config c.args.vol (λ log. sym ((inner_wide c.args.core.now (g.S.Shelf.meaning c.args.shelf.now) c.requires.stands).logs c.args.vol log)) (g.S.Shelf.meaning c.args.shelf.now) (g.S.Shelf.meaning c.begin_map.new.shelf) c.begin_map.ensures.goes) c.args.logs.now c.begin_map.new.logs.fmr (fits_same c.args.core.now.inner.config (wide c.args.core.now).config c.args.vol (sym ((inner_wide c.args.core.now (g.S.Shelf.meaning c.args.shelf.now) c.requires.stands).frames c.args.vol)) (sym ((inner_wide c.args.core.now (g.S.Shelf.meaning c.args.shelf.now) c.requires.stands).blocks c.args.vol)) (λ log. sym ((inner_wide c.args.core.now (g.S.Shelf.meaning c.args.shelf.now) c.requires.stands).logs c.args.vol log)) c.begin_map.new.logs c.begin_map.ensures.fits).fmr (c.in-Ok.ensures.stands c.requires.log.stands).fmr c.requires.log)

pub returns-clause-log : goal.returns-clause-log
returns-clause-log g c =
    drl_on (wide c.args.core.now).config c.args.vol c.args.logs.now (record { drl = c.begin_map.new.logs.drl; fmr = None }) (g.S.Shelf.meaning c.begin_map.new.shelf) c.begin_map.ensures.drl
    (on_mapped (wide c.args.core.now).config (sound_of (wide c.args.core.now) (g.S.Shelf.meaning c.args.shelf.now) c.requires.stands.stands) c.args.vol c.requires.some (g.S.Shelf.meaning c.args.shelf.now) (g.S.Shelf.meaning c.begin_map.new.shelf) (fit_of (wide c.args.core.now) (g.S.Shelf.meaning c.args.shelf.now) c.requires.stands.stands) (maps_alike c.args.core.now.inner.config (wide c.args.core.now).config c.args.vol (λ log. sym ((inner_wide c.args.core.now (g.S.Shelf.meaning c.args.shelf.now) c.requires.stands).logs c.args.vol log)) (g.S.Shelf.meaning c.args.shelf.now) (g.S.Shelf.meaning c.begin_map.new.shelf) c.begin_map.ensures.goes) c.args.logs.now None (λ (f : Missed) is. absurd (let clash : None ≡ Some f = is in cc)) (λ (f : Missed) is. absurd (let clash : None ≡ Some f = is in cc)) c.requires.log)

pub returns-in-Ok-clause-knows : goal.returns-in-Ok-clause-knows
returns-in-Ok-clause-knows g c =
    plex_knows (wide c.args.core.now).config (sound_of (wide c.args.core.now) (g.S.Shelf.meaning c.args.shelf.now) c.requires.stands.stands) c.args.vol c.requires.some c.args.plex c.args.logs.now c.begin_map.new.logs (g.S.Shelf.meaning c.args.shelf.now) (g.S.Shelf.meaning c.begin_map.new.shelf) (maps_alike c.args.core.now.inner.config (wide c.args.core.now).config c.args.vol (λ log. sym ((inner_wide c.args.core.now (g.S.Shelf.meaning c.args.shelf.now) c.requires.stands).logs c.args.vol log)) (g.S.Shelf.meaning c.args.shelf.now) (g.S.Shelf.meaning c.begin_map.new.shelf) c.begin_map.ensures.goes) c.requires.log.fits _ c.in-Ok.ensures.answers.0

pub returns-clause-knows : goal.returns-clause-knows
returns-clause-knows g c =
    λ spare missed less reads know. know_none (wide c.args.core.now).config c.args.vol spare (record { drl = c.begin_map.new.logs.drl; fmr = None }) (g.S.Shelf.meaning c.begin_map.new.shelf) refl

pub returns-in-Ok-clause-notes : goal.returns-in-Ok-clause-notes
returns-in-Ok-clause-notes g c =
    plex_but (wide c.args.core.now).config (sound_of (wide c.args.core.now) (g.S.Shelf.meaning c.args.shelf.now) c.requires.stands.stands) c.args.vol c.requires.some c.args.plex c.args.logs.now c.begin_map.new.logs (g.S.Shelf.meaning c.args.shelf.now) (g.S.Shelf.meaning c.begin_map.new.shelf) (maps_alike c.args.core.now.inner.config (wide c.args.core.now).config c.args.vol (λ log. sym ((inner_wide c.args.core.now (g.S.Shelf.meaning c.args.shelf.now) c.requires.stands).logs c.args.vol log)) (g.S.Shelf.meaning c.args.shelf.now) (g.S.Shelf.meaning c.begin_map.new.shelf) c.begin_map.ensures.goes) c.requires.log.fits _ c.in-Ok.ensures.answers.0

pub returns-clause-notes : goal.returns-clause-notes
returns-clause-notes g c =
    λ these this. but_none these none_missing 0 0 c.args.logs.now (record { drl = c.begin_map.new.logs.drl; fmr = None }) refl

pub returns-in-Ok-clause-begins : goal.returns-in-Ok-clause-begins
returns-in-Ok-clause-begins g c =
    plex_off (wide c.args.core.now).config (sound_of (wide c.args.core.now) (g.S.Shelf.meaning c.args.shelf.now) c.requires.stands.stands) c.args.vol c.requires.some c.args.plex c.args.logs.now c.begin_map.new.logs (g.S.Shelf.meaning c.args.shelf.now) (g.S.Shelf.meaning c.begin_map.new.shelf) (maps_alike c.args.core.now.inner.config (wide c.args.core.now).config c.args.vol (λ log. sym ((inner_wide c.args.core.now (g.S.Shelf.meaning c.args.shelf.now) c.requires.stands).logs c.args.vol log)) (g.S.Shelf.meaning c.args.shelf.now) (g.S.Shelf.meaning c.begin_map.new.shelf) c.begin_map.ensures.goes) c.requires.log.fits _ c.in-Ok.ensures.answers.0

pub returns-clause-begins : goal.returns-clause-begins
returns-clause-begins g c =
    off_none (this_plex c.args.plex) (record { drl = c.begin_map.new.logs.drl; fmr = None }) refl

pub returns-in-Ok-clause-drops : goal.returns-in-Ok-clause-drops
returns-in-Ok-clause-drops g c =
    plex_drops (wide c.args.core.now).config (sound_of (wide c.args.core.now) (g.S.Shelf.meaning c.args.shelf.now) c.requires.stands.stands) c.args.vol c.requires.some c.args.plex c.args.logs.now c.begin_map.new.logs (g.S.Shelf.meaning c.args.shelf.now) (g.S.Shelf.meaning c.begin_map.new.shelf) (maps_alike c.args.core.now.inner.config (wide c.args.core.now).config c.args.vol (λ log. sym ((inner_wide c.args.core.now (g.S.Shelf.meaning c.args.shelf.now) c.requires.stands).logs c.args.vol log)) (g.S.Shelf.meaning c.args.shelf.now) (g.S.Shelf.meaning c.begin_map.new.shelf) c.begin_map.ensures.goes) c.requires.log.fits _ c.in-Ok.ensures.answers.0 c.begin_map.ensures.drl

pub returns-clause-drops : goal.returns-clause-drops
returns-clause-drops g c =
    drops_maps (wide c.args.core.now).config c.args.vol c.args.logs.now (record { drl = c.begin_map.new.logs.drl; fmr = None }) (g.S.Shelf.meaning c.args.shelf.now) (g.S.Shelf.meaning c.begin_map.new.shelf) c.begin_map.ensures.drl refl (down_of c.args.plex c.args.logs.now.fmr c.begin_map.new.logs.fmr (g.S.Shelf.meaning c.args.shelf.now) (g.S.Shelf.meaning c.begin_map.new.shelf) c.in-Err.field-0 c.in-Err.ensures.answers)
