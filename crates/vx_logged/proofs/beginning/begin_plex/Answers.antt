-- `begin_plex`: what `begin_map` asks; its clauses.
use Rattle.std.proofs.Common.{◌≡◌, None, Some, refl, subst, sym}
use Rattle.vx_config.specs.declared.config.Config.{Config}
use Rattle.vx_fmr.specs.Missed.{Missed}
use Rattle.vx_group.specs.Holding.{wide}
use Rattle.vx_grouplogs.specs.Gone.{LogsDrop}
use Rattle.vx_grouplogs.proofs.CoverLemmas.{others_kept}
use Rattle.vx_grouplogs.proofs.GoneLemmas.{drops_maps}
use Rattle.vx_grouplogs.proofs.GroupLemmas.{logs_keep}
use Rattle.vx_grouplogs.proofs.KnowActs.{know_none}
use Rattle.vx_grouplogs.proofs.MapLemmas.{goes_logs, on_mapped}
use Rattle.vx_grouplogs.proofs.OnCalls.{on_others}
use Rattle.vx_groupmaps.proofs.BeginLemmas.{down_of}
use Rattle.vx_logs.specs.Noting.{this_plex}
use Rattle.vx_logged.specs.Behind.{none_missing}
use Rattle.vx_logged.proofs.BeginLemmas.{but_none, drl_on, off_none, plex_but, plex_drops, plex_knows, plex_off}
use Rattle.vx_logged.proofs.StandLemmas.{config_is, inner_fit, inner_others, inner_sound, know_inner, know_wide, logs_Stands, logs_finds, logs_goes, to_inner, to_wide}
use Rattle.vx_logged.proofs.beginning.begin_plex.Goals as goal

pub begin_map-requires-clause-checked : goal.begin_map-requires-clause-checked
begin_map-requires-clause-checked g c = (inner_sound c.args.core.now c.args.vol (g.S.Shelf.meaning c.args.shelf.now) (g.S.Shelf.meaning c.args.shelf.now) c.requires.none c.requires.stands)

pub begin_map-requires-clause-fits : goal.begin_map-requires-clause-fits
begin_map-requires-clause-fits g c = (to_inner c.args.core.now c.args.vol (g.S.Shelf.meaning c.args.shelf.now) (g.S.Shelf.meaning c.args.shelf.now) c.requires.none c.requires.stands c.args.vol c.args.logs.now c.requires.log).fits

pub begin_map-requires-clause-disks : goal.begin_map-requires-clause-disks
begin_map-requires-clause-disks g c = (inner_fit c.args.core.now c.args.vol (g.S.Shelf.meaning c.args.shelf.now) (g.S.Shelf.meaning c.args.shelf.now) c.requires.none c.requires.stands)

pub returns-in-Ok-clause-stands : goal.returns-in-Ok-clause-stands
returns-in-Ok-clause-stands g c = logs_Stands c.args.core.now c.args.vol (g.S.Shelf.meaning c.args.shelf.now) (g.S.Shelf.meaning c.begin_map.new.shelf) c.requires.none c.requires.stands (goes_logs c.args.core.now.inner.config c.args.vol (g.S.Shelf.meaning c.args.shelf.now) (g.S.Shelf.meaning c.begin_map.new.shelf) c.begin_map.ensures.goes) (g.met.S.Shelf.lawful c.args.shelf.now) (g.met.S.Shelf.lawful c.begin_map.new.shelf)

pub returns-in-Ok-clause-goes : goal.returns-in-Ok-clause-goes
returns-in-Ok-clause-goes g c = logs_goes c.args.core.now c.args.vol (g.S.Shelf.meaning c.args.shelf.now) (g.S.Shelf.meaning c.begin_map.new.shelf) c.requires.none c.requires.stands (logs_keep c.args.core.now.inner.config (inner_sound c.args.core.now c.args.vol (g.S.Shelf.meaning c.args.shelf.now) (g.S.Shelf.meaning c.args.shelf.now) c.requires.none c.requires.stands) c.args.vol (g.S.Shelf.meaning c.args.shelf.now) (g.S.Shelf.meaning c.begin_map.new.shelf) (g.met.S.Shelf.lawful c.args.shelf.now) (g.met.S.Shelf.lawful c.begin_map.new.shelf) (goes_logs c.args.core.now.inner.config c.args.vol (g.S.Shelf.meaning c.args.shelf.now) (g.S.Shelf.meaning c.begin_map.new.shelf) c.begin_map.ensures.goes))

pub returns-in-Ok-clause-others : goal.returns-in-Ok-clause-others
returns-in-Ok-clause-others g c = inner_others c.args.core.now c.args.vol (g.S.Shelf.meaning c.args.shelf.now) (g.S.Shelf.meaning c.begin_map.new.shelf) c.requires.none c.requires.stands (goes_logs c.args.core.now.inner.config c.args.vol (g.S.Shelf.meaning c.args.shelf.now) (g.S.Shelf.meaning c.begin_map.new.shelf) c.begin_map.ensures.goes) (on_others c.args.core.now.inner.config c.args.vol (g.S.Shelf.meaning c.args.shelf.now) (g.S.Shelf.meaning c.begin_map.new.shelf) (others_kept c.args.core.now.inner.config (inner_sound c.args.core.now c.args.vol (g.S.Shelf.meaning c.args.shelf.now) (g.S.Shelf.meaning c.args.shelf.now) c.requires.none c.requires.stands) c.args.vol (g.S.Shelf.meaning c.args.shelf.now) (g.S.Shelf.meaning c.begin_map.new.shelf) (inner_fit c.args.core.now c.args.vol (g.S.Shelf.meaning c.args.shelf.now) (g.S.Shelf.meaning c.args.shelf.now) c.requires.none c.requires.stands) (goes_logs c.args.core.now.inner.config c.args.vol (g.S.Shelf.meaning c.args.shelf.now) (g.S.Shelf.meaning c.begin_map.new.shelf) c.begin_map.ensures.goes)))

pub returns-in-Ok-clause-less : goal.returns-in-Ok-clause-less
returns-in-Ok-clause-less g c = logs_finds c.args.core.now c.args.vol (g.S.Shelf.meaning c.args.shelf.now) (g.S.Shelf.meaning c.begin_map.new.shelf) c.requires.none c.requires.stands (goes_logs c.args.core.now.inner.config c.args.vol (g.S.Shelf.meaning c.args.shelf.now) (g.S.Shelf.meaning c.begin_map.new.shelf) c.begin_map.ensures.goes) (g.met.S.Shelf.lawful c.args.shelf.now) (g.met.S.Shelf.lawful c.begin_map.new.shelf)

pub returns-in-Ok-clause-log : goal.returns-in-Ok-clause-log
returns-in-Ok-clause-log g c = to_wide c.args.core.now c.args.vol (g.S.Shelf.meaning c.args.shelf.now) (g.S.Shelf.meaning c.begin_map.new.shelf) c.requires.none c.requires.stands c.args.vol c.begin_map.new.logs
    (drl_on c.args.core.now.inner.config c.args.vol c.args.logs.now c.begin_map.new.logs (g.S.Shelf.meaning c.begin_map.new.shelf) c.begin_map.ensures.drl
    (on_mapped c.args.core.now.inner.config (inner_sound c.args.core.now c.args.vol (g.S.Shelf.meaning c.args.shelf.now) (g.S.Shelf.meaning c.args.shelf.now) c.requires.none c.requires.stands) c.args.vol c.requires.some (g.S.Shelf.meaning c.args.shelf.now) (g.S.Shelf.meaning c.begin_map.new.shelf) (inner_fit c.args.core.now c.args.vol (g.S.Shelf.meaning c.args.shelf.now) (g.S.Shelf.meaning c.args.shelf.now) c.requires.none c.requires.stands) c.begin_map.ensures.goes c.args.logs.now c.begin_map.new.logs.fmr c.begin_map.ensures.fits.fmr (c.in-Ok.ensures.stands (to_inner c.args.core.now c.args.vol (g.S.Shelf.meaning c.args.shelf.now) (g.S.Shelf.meaning c.args.shelf.now) c.requires.none c.requires.stands c.args.vol c.args.logs.now c.requires.log).stands).fmr (to_inner c.args.core.now c.args.vol (g.S.Shelf.meaning c.args.shelf.now) (g.S.Shelf.meaning c.args.shelf.now) c.requires.none c.requires.stands c.args.vol c.args.logs.now c.requires.log)))

pub returns-clause-stands : goal.returns-clause-stands
returns-clause-stands g c = logs_Stands c.args.core.now c.args.vol (g.S.Shelf.meaning c.args.shelf.now) (g.S.Shelf.meaning c.begin_map.new.shelf) c.requires.none c.requires.stands (goes_logs c.args.core.now.inner.config c.args.vol (g.S.Shelf.meaning c.args.shelf.now) (g.S.Shelf.meaning c.begin_map.new.shelf) c.begin_map.ensures.goes) (g.met.S.Shelf.lawful c.args.shelf.now) (g.met.S.Shelf.lawful c.begin_map.new.shelf)

pub returns-clause-goes : goal.returns-clause-goes
returns-clause-goes g c = logs_goes c.args.core.now c.args.vol (g.S.Shelf.meaning c.args.shelf.now) (g.S.Shelf.meaning c.begin_map.new.shelf) c.requires.none c.requires.stands (logs_keep c.args.core.now.inner.config (inner_sound c.args.core.now c.args.vol (g.S.Shelf.meaning c.args.shelf.now) (g.S.Shelf.meaning c.args.shelf.now) c.requires.none c.requires.stands) c.args.vol (g.S.Shelf.meaning c.args.shelf.now) (g.S.Shelf.meaning c.begin_map.new.shelf) (g.met.S.Shelf.lawful c.args.shelf.now) (g.met.S.Shelf.lawful c.begin_map.new.shelf) (goes_logs c.args.core.now.inner.config c.args.vol (g.S.Shelf.meaning c.args.shelf.now) (g.S.Shelf.meaning c.begin_map.new.shelf) c.begin_map.ensures.goes))

pub returns-clause-others : goal.returns-clause-others
returns-clause-others g c = inner_others c.args.core.now c.args.vol (g.S.Shelf.meaning c.args.shelf.now) (g.S.Shelf.meaning c.begin_map.new.shelf) c.requires.none c.requires.stands (goes_logs c.args.core.now.inner.config c.args.vol (g.S.Shelf.meaning c.args.shelf.now) (g.S.Shelf.meaning c.begin_map.new.shelf) c.begin_map.ensures.goes) (on_others c.args.core.now.inner.config c.args.vol (g.S.Shelf.meaning c.args.shelf.now) (g.S.Shelf.meaning c.begin_map.new.shelf) (others_kept c.args.core.now.inner.config (inner_sound c.args.core.now c.args.vol (g.S.Shelf.meaning c.args.shelf.now) (g.S.Shelf.meaning c.args.shelf.now) c.requires.none c.requires.stands) c.args.vol (g.S.Shelf.meaning c.args.shelf.now) (g.S.Shelf.meaning c.begin_map.new.shelf) (inner_fit c.args.core.now c.args.vol (g.S.Shelf.meaning c.args.shelf.now) (g.S.Shelf.meaning c.args.shelf.now) c.requires.none c.requires.stands) (goes_logs c.args.core.now.inner.config c.args.vol (g.S.Shelf.meaning c.args.shelf.now) (g.S.Shelf.meaning c.begin_map.new.shelf) c.begin_map.ensures.goes)))

pub returns-clause-less : goal.returns-clause-less
returns-clause-less g c = logs_finds c.args.core.now c.args.vol (g.S.Shelf.meaning c.args.shelf.now) (g.S.Shelf.meaning c.begin_map.new.shelf) c.requires.none c.requires.stands (goes_logs c.args.core.now.inner.config c.args.vol (g.S.Shelf.meaning c.args.shelf.now) (g.S.Shelf.meaning c.begin_map.new.shelf) c.begin_map.ensures.goes) (g.met.S.Shelf.lawful c.args.shelf.now) (g.met.S.Shelf.lawful c.begin_map.new.shelf)

pub returns-clause-log : goal.returns-clause-log
returns-clause-log g c = to_wide c.args.core.now c.args.vol (g.S.Shelf.meaning c.args.shelf.now) (g.S.Shelf.meaning c.begin_map.new.shelf) c.requires.none c.requires.stands c.args.vol (record { drl = c.begin_map.new.logs.drl; fmr = None })
    (drl_on c.args.core.now.inner.config c.args.vol c.args.logs.now (record { drl = c.begin_map.new.logs.drl; fmr = None }) (g.S.Shelf.meaning c.begin_map.new.shelf) c.begin_map.ensures.drl
    (on_mapped c.args.core.now.inner.config (inner_sound c.args.core.now c.args.vol (g.S.Shelf.meaning c.args.shelf.now) (g.S.Shelf.meaning c.args.shelf.now) c.requires.none c.requires.stands) c.args.vol c.requires.some (g.S.Shelf.meaning c.args.shelf.now) (g.S.Shelf.meaning c.begin_map.new.shelf) (inner_fit c.args.core.now c.args.vol (g.S.Shelf.meaning c.args.shelf.now) (g.S.Shelf.meaning c.args.shelf.now) c.requires.none c.requires.stands) c.begin_map.ensures.goes c.args.logs.now None (λ (f : Missed) is. absurd (let clash : None ≡ Some f = is in cc)) (λ (f : Missed) is. absurd (let clash : None ≡ Some f = is in cc)) (to_inner c.args.core.now c.args.vol (g.S.Shelf.meaning c.args.shelf.now) (g.S.Shelf.meaning c.args.shelf.now) c.requires.none c.requires.stands c.args.vol c.args.logs.now c.requires.log)))

pub returns-in-Ok-clause-knows : goal.returns-in-Ok-clause-knows
returns-in-Ok-clause-knows g c = λ spare missed less reads know. know_wide c.args.core.now c.args.vol (g.S.Shelf.meaning c.args.shelf.now) (g.S.Shelf.meaning c.begin_map.new.shelf) c.requires.none c.requires.stands c.args.vol spare c.begin_map.new.logs
    (plex_knows c.args.core.now.inner.config (inner_sound c.args.core.now c.args.vol (g.S.Shelf.meaning c.args.shelf.now) (g.S.Shelf.meaning c.args.shelf.now) c.requires.none c.requires.stands) c.args.vol c.requires.some c.args.plex c.args.logs.now c.begin_map.new.logs (g.S.Shelf.meaning c.args.shelf.now) (g.S.Shelf.meaning c.begin_map.new.shelf) c.begin_map.ensures.goes (to_inner c.args.core.now c.args.vol (g.S.Shelf.meaning c.args.shelf.now) (g.S.Shelf.meaning c.args.shelf.now) c.requires.none c.requires.stands c.args.vol c.args.logs.now c.requires.log).fits _ c.in-Ok.ensures.answers.0 spare missed less reads (know_inner c.args.core.now c.args.vol (g.S.Shelf.meaning c.args.shelf.now) (g.S.Shelf.meaning c.args.shelf.now) c.requires.none c.requires.stands c.args.vol spare c.args.logs.now know))

pub returns-clause-knows : goal.returns-clause-knows
returns-clause-knows g c = λ spare missed less reads know. know_wide c.args.core.now c.args.vol (g.S.Shelf.meaning c.args.shelf.now) (g.S.Shelf.meaning c.begin_map.new.shelf) c.requires.none c.requires.stands c.args.vol spare (record { drl = c.begin_map.new.logs.drl; fmr = None }) (know_none c.args.core.now.inner.config c.args.vol spare (record { drl = c.begin_map.new.logs.drl; fmr = None }) (g.S.Shelf.meaning c.begin_map.new.shelf) refl)

pub returns-in-Ok-clause-notes : goal.returns-in-Ok-clause-notes
returns-in-Ok-clause-notes g c = plex_but c.args.core.now.inner.config (inner_sound c.args.core.now c.args.vol (g.S.Shelf.meaning c.args.shelf.now) (g.S.Shelf.meaning c.args.shelf.now) c.requires.none c.requires.stands) c.args.vol c.requires.some c.args.plex c.args.logs.now c.begin_map.new.logs (g.S.Shelf.meaning c.args.shelf.now) (g.S.Shelf.meaning c.begin_map.new.shelf) c.begin_map.ensures.goes (to_inner c.args.core.now c.args.vol (g.S.Shelf.meaning c.args.shelf.now) (g.S.Shelf.meaning c.args.shelf.now) c.requires.none c.requires.stands c.args.vol c.args.logs.now c.requires.log).fits _ c.in-Ok.ensures.answers.0

pub returns-clause-notes : goal.returns-clause-notes
returns-clause-notes g c = λ these this. but_none these none_missing 0 0 c.args.logs.now (record { drl = c.begin_map.new.logs.drl; fmr = None }) refl

pub returns-in-Ok-clause-begins : goal.returns-in-Ok-clause-begins
returns-in-Ok-clause-begins g c = plex_off c.args.core.now.inner.config (inner_sound c.args.core.now c.args.vol (g.S.Shelf.meaning c.args.shelf.now) (g.S.Shelf.meaning c.args.shelf.now) c.requires.none c.requires.stands) c.args.vol c.requires.some c.args.plex c.args.logs.now c.begin_map.new.logs (g.S.Shelf.meaning c.args.shelf.now) (g.S.Shelf.meaning c.begin_map.new.shelf) c.begin_map.ensures.goes (to_inner c.args.core.now c.args.vol (g.S.Shelf.meaning c.args.shelf.now) (g.S.Shelf.meaning c.args.shelf.now) c.requires.none c.requires.stands c.args.vol c.args.logs.now c.requires.log).fits _ c.in-Ok.ensures.answers.0

pub returns-clause-begins : goal.returns-clause-begins
returns-clause-begins g c = off_none (this_plex c.args.plex) (record { drl = c.begin_map.new.logs.drl; fmr = None }) refl

pub returns-in-Ok-clause-drops : goal.returns-in-Ok-clause-drops
returns-in-Ok-clause-drops g c = subst (λ (x : Config). LogsDrop x c.args.vol c.args.logs.now c.begin_map.new.logs (g.S.Shelf.meaning c.args.shelf.now) (g.S.Shelf.meaning c.begin_map.new.shelf)) (sym (config_is c.args.core.now c.args.vol (g.S.Shelf.meaning c.args.shelf.now) (g.S.Shelf.meaning c.args.shelf.now) c.requires.none c.requires.stands)) (plex_drops c.args.core.now.inner.config (inner_sound c.args.core.now c.args.vol (g.S.Shelf.meaning c.args.shelf.now) (g.S.Shelf.meaning c.args.shelf.now) c.requires.none c.requires.stands) c.args.vol c.requires.some c.args.plex c.args.logs.now c.begin_map.new.logs (g.S.Shelf.meaning c.args.shelf.now) (g.S.Shelf.meaning c.begin_map.new.shelf) c.begin_map.ensures.goes (to_inner c.args.core.now c.args.vol (g.S.Shelf.meaning c.args.shelf.now) (g.S.Shelf.meaning c.args.shelf.now) c.requires.none c.requires.stands c.args.vol c.args.logs.now c.requires.log).fits _ c.in-Ok.ensures.answers.0 c.begin_map.ensures.drl)

pub returns-clause-drops : goal.returns-clause-drops
returns-clause-drops g c = drops_maps (wide c.args.core.now).config c.args.vol c.args.logs.now (record { drl = c.begin_map.new.logs.drl; fmr = None }) (g.S.Shelf.meaning c.args.shelf.now) (g.S.Shelf.meaning c.begin_map.new.shelf) c.begin_map.ensures.drl refl (down_of c.args.plex c.args.logs.now.fmr c.begin_map.new.logs.fmr (g.S.Shelf.meaning c.args.shelf.now) (g.S.Shelf.meaning c.begin_map.new.shelf) c.in-Err.field-0 c.in-Err.ensures.answers)
