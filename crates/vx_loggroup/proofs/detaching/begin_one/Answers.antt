-- `begin_one`: its clauses; what `begin_map` asks.
use Rattle.std.proofs.Common.{◌≡◌, None, Some, refl}
use Rattle.vx_fmr.specs.Missed.{Missed}
use Rattle.vx_grouplogs.proofs.CoverLemmas.{others_kept}
use Rattle.vx_grouplogs.proofs.GroupLemmas.{logs_keep}
use Rattle.vx_grouplogs.proofs.KnowActs.{know_none}
use Rattle.vx_grouplogs.proofs.MapLemmas.{goes_logs, on_mapped}
use Rattle.vx_grouplogs.proofs.OnCalls.{on_others}
use Rattle.vx_groupmaps.specs.Missing.{none_spared}
use Rattle.vx_groupmaps.proofs.BeginLemmas.{down_of}
use Rattle.vx_logged.proofs.StandLemmas.{inner_fit, inner_others, inner_sound, know_inner, know_wide, logs_Stands, logs_goes, to_inner, to_wide, logs_finds}
use Rattle.vx_loggroup.proofs.DetachedLogs.{as_logs, begun_empty, begun_knows, begun_maps, none_begins}
use Rattle.vx_loggroup.proofs.KeepingCalls.{begun_drops, none_drops}
use Rattle.vx_loggroup.proofs.detaching.begin_one.Goals as goal

pub begin_map-requires-clause-checked : goal.begin_map-requires-clause-checked
begin_map-requires-clause-checked g c = (inner_sound c.args.core.now c.args.vol (g.S.Shelf.meaning c.args.shelf.now) (g.S.Shelf.meaning c.args.shelf.now) c.requires.none c.requires.stands)

pub begin_map-requires-clause-fits : goal.begin_map-requires-clause-fits
begin_map-requires-clause-fits g c = (to_inner c.args.core.now c.args.vol (g.S.Shelf.meaning c.args.shelf.now) (g.S.Shelf.meaning c.args.shelf.now) c.requires.none c.requires.stands c.args.vol c.args.one.now c.requires.log).fits

pub begin_map-requires-clause-disks : goal.begin_map-requires-clause-disks
begin_map-requires-clause-disks g c = (inner_fit c.args.core.now c.args.vol (g.S.Shelf.meaning c.args.shelf.now) (g.S.Shelf.meaning c.args.shelf.now) c.requires.none c.requires.stands)

pub returns-in-Ok-clause-stands : goal.returns-in-Ok-clause-stands
returns-in-Ok-clause-stands g c = logs_Stands c.args.core.now c.args.vol (g.S.Shelf.meaning c.args.shelf.now) (g.S.Shelf.meaning c.begin_map.new.shelf) c.requires.none c.requires.stands (goes_logs c.args.core.now.inner.config c.args.vol (g.S.Shelf.meaning c.args.shelf.now) (g.S.Shelf.meaning c.begin_map.new.shelf) c.begin_map.ensures.goes) (g.met.S.Shelf.lawful c.args.shelf.now) (g.met.S.Shelf.lawful c.begin_map.new.shelf)

pub returns-in-Ok-clause-goes : goal.returns-in-Ok-clause-goes
returns-in-Ok-clause-goes g c = logs_goes c.args.core.now c.args.vol (g.S.Shelf.meaning c.args.shelf.now) (g.S.Shelf.meaning c.begin_map.new.shelf) c.requires.none c.requires.stands (logs_keep c.args.core.now.inner.config (inner_sound c.args.core.now c.args.vol (g.S.Shelf.meaning c.args.shelf.now) (g.S.Shelf.meaning c.args.shelf.now) c.requires.none c.requires.stands) c.args.vol (g.S.Shelf.meaning c.args.shelf.now) (g.S.Shelf.meaning c.begin_map.new.shelf) (g.met.S.Shelf.lawful c.args.shelf.now) (g.met.S.Shelf.lawful c.begin_map.new.shelf) (goes_logs c.args.core.now.inner.config c.args.vol (g.S.Shelf.meaning c.args.shelf.now) (g.S.Shelf.meaning c.begin_map.new.shelf) c.begin_map.ensures.goes))

pub returns-in-Ok-clause-others : goal.returns-in-Ok-clause-others
returns-in-Ok-clause-others g c = inner_others c.args.core.now c.args.vol (g.S.Shelf.meaning c.args.shelf.now) (g.S.Shelf.meaning c.begin_map.new.shelf) c.requires.none c.requires.stands (goes_logs c.args.core.now.inner.config c.args.vol (g.S.Shelf.meaning c.args.shelf.now) (g.S.Shelf.meaning c.begin_map.new.shelf) c.begin_map.ensures.goes) (on_others c.args.core.now.inner.config c.args.vol (g.S.Shelf.meaning c.args.shelf.now) (g.S.Shelf.meaning c.begin_map.new.shelf) (others_kept c.args.core.now.inner.config (inner_sound c.args.core.now c.args.vol (g.S.Shelf.meaning c.args.shelf.now) (g.S.Shelf.meaning c.args.shelf.now) c.requires.none c.requires.stands) c.args.vol (g.S.Shelf.meaning c.args.shelf.now) (g.S.Shelf.meaning c.begin_map.new.shelf) (inner_fit c.args.core.now c.args.vol (g.S.Shelf.meaning c.args.shelf.now) (g.S.Shelf.meaning c.args.shelf.now) c.requires.none c.requires.stands) (goes_logs c.args.core.now.inner.config c.args.vol (g.S.Shelf.meaning c.args.shelf.now) (g.S.Shelf.meaning c.begin_map.new.shelf) c.begin_map.ensures.goes)))

pub returns-in-Err-clause-stands : goal.returns-in-Err-clause-stands
returns-in-Err-clause-stands g c = logs_Stands c.args.core.now c.args.vol (g.S.Shelf.meaning c.args.shelf.now) (g.S.Shelf.meaning c.begin_map.new.shelf) c.requires.none c.requires.stands (goes_logs c.args.core.now.inner.config c.args.vol (g.S.Shelf.meaning c.args.shelf.now) (g.S.Shelf.meaning c.begin_map.new.shelf) c.begin_map.ensures.goes) (g.met.S.Shelf.lawful c.args.shelf.now) (g.met.S.Shelf.lawful c.begin_map.new.shelf)

pub returns-in-Err-clause-goes : goal.returns-in-Err-clause-goes
returns-in-Err-clause-goes g c = logs_goes c.args.core.now c.args.vol (g.S.Shelf.meaning c.args.shelf.now) (g.S.Shelf.meaning c.begin_map.new.shelf) c.requires.none c.requires.stands (logs_keep c.args.core.now.inner.config (inner_sound c.args.core.now c.args.vol (g.S.Shelf.meaning c.args.shelf.now) (g.S.Shelf.meaning c.args.shelf.now) c.requires.none c.requires.stands) c.args.vol (g.S.Shelf.meaning c.args.shelf.now) (g.S.Shelf.meaning c.begin_map.new.shelf) (g.met.S.Shelf.lawful c.args.shelf.now) (g.met.S.Shelf.lawful c.begin_map.new.shelf) (goes_logs c.args.core.now.inner.config c.args.vol (g.S.Shelf.meaning c.args.shelf.now) (g.S.Shelf.meaning c.begin_map.new.shelf) c.begin_map.ensures.goes))

pub returns-in-Err-clause-others : goal.returns-in-Err-clause-others
returns-in-Err-clause-others g c = inner_others c.args.core.now c.args.vol (g.S.Shelf.meaning c.args.shelf.now) (g.S.Shelf.meaning c.begin_map.new.shelf) c.requires.none c.requires.stands (goes_logs c.args.core.now.inner.config c.args.vol (g.S.Shelf.meaning c.args.shelf.now) (g.S.Shelf.meaning c.begin_map.new.shelf) c.begin_map.ensures.goes) (on_others c.args.core.now.inner.config c.args.vol (g.S.Shelf.meaning c.args.shelf.now) (g.S.Shelf.meaning c.begin_map.new.shelf) (others_kept c.args.core.now.inner.config (inner_sound c.args.core.now c.args.vol (g.S.Shelf.meaning c.args.shelf.now) (g.S.Shelf.meaning c.args.shelf.now) c.requires.none c.requires.stands) c.args.vol (g.S.Shelf.meaning c.args.shelf.now) (g.S.Shelf.meaning c.begin_map.new.shelf) (inner_fit c.args.core.now c.args.vol (g.S.Shelf.meaning c.args.shelf.now) (g.S.Shelf.meaning c.args.shelf.now) c.requires.none c.requires.stands) (goes_logs c.args.core.now.inner.config c.args.vol (g.S.Shelf.meaning c.args.shelf.now) (g.S.Shelf.meaning c.begin_map.new.shelf) c.begin_map.ensures.goes)))

pub returns-in-Ok-clause-log : goal.returns-in-Ok-clause-log
returns-in-Ok-clause-log g c = to_wide c.args.core.now c.args.vol (g.S.Shelf.meaning c.args.shelf.now) (g.S.Shelf.meaning c.begin_map.new.shelf) c.requires.none c.requires.stands c.args.vol c.begin_map.new.logs
    (as_logs c.args.core.now.inner.config c.args.vol c.args.one.now c.begin_map.new.logs (g.S.Shelf.meaning c.begin_map.new.shelf) c.begin_map.ensures.drl
    (on_mapped c.args.core.now.inner.config (inner_sound c.args.core.now c.args.vol (g.S.Shelf.meaning c.args.shelf.now) (g.S.Shelf.meaning c.args.shelf.now) c.requires.none c.requires.stands) c.args.vol c.requires.some (g.S.Shelf.meaning c.args.shelf.now) (g.S.Shelf.meaning c.begin_map.new.shelf) (inner_fit c.args.core.now c.args.vol (g.S.Shelf.meaning c.args.shelf.now) (g.S.Shelf.meaning c.args.shelf.now) c.requires.none c.requires.stands) c.begin_map.ensures.goes c.args.one.now c.begin_map.new.logs.fmr c.begin_map.ensures.fits.fmr (c.in-Ok.ensures.stands (to_inner c.args.core.now c.args.vol (g.S.Shelf.meaning c.args.shelf.now) (g.S.Shelf.meaning c.args.shelf.now) c.requires.none c.requires.stands c.args.vol c.args.one.now c.requires.log).stands).fmr (to_inner c.args.core.now c.args.vol (g.S.Shelf.meaning c.args.shelf.now) (g.S.Shelf.meaning c.args.shelf.now) c.requires.none c.requires.stands c.args.vol c.args.one.now c.requires.log)))

pub returns-in-Ok-clause-known : goal.returns-in-Ok-clause-known
returns-in-Ok-clause-known g c = know_wide c.args.core.now c.args.vol (g.S.Shelf.meaning c.args.shelf.now) (g.S.Shelf.meaning c.begin_map.new.shelf) c.requires.none c.requires.stands c.args.vol none_spared c.begin_map.new.logs
    (begun_knows c.args.core.now.inner.config (inner_sound c.args.core.now c.args.vol (g.S.Shelf.meaning c.args.shelf.now) (g.S.Shelf.meaning c.args.shelf.now) c.requires.none c.requires.stands) c.args.vol c.requires.some c.args.plex c.args.one.now c.begin_map.new.logs (g.S.Shelf.meaning c.args.shelf.now) (g.S.Shelf.meaning c.begin_map.new.shelf) c.begin_map.ensures.goes (to_inner c.args.core.now c.args.vol (g.S.Shelf.meaning c.args.shelf.now) (g.S.Shelf.meaning c.args.shelf.now) c.requires.none c.requires.stands c.args.vol c.args.one.now c.requires.log).fits.fmr _ c.in-Ok.ensures.answers.0 c.requires.reads (know_inner c.args.core.now c.args.vol (g.S.Shelf.meaning c.args.shelf.now) (g.S.Shelf.meaning c.args.shelf.now) c.requires.none c.requires.stands c.args.vol none_spared c.args.one.now c.requires.known))

pub returns-in-Ok-clause-begins : goal.returns-in-Ok-clause-begins
returns-in-Ok-clause-begins g c = begun_maps c.args.core.now.inner.config (inner_sound c.args.core.now c.args.vol (g.S.Shelf.meaning c.args.shelf.now) (g.S.Shelf.meaning c.args.shelf.now) c.requires.none c.requires.stands) c.args.vol c.requires.some c.args.plex c.args.one.now c.begin_map.new.logs (g.S.Shelf.meaning c.args.shelf.now) (g.S.Shelf.meaning c.begin_map.new.shelf) c.begin_map.ensures.goes (to_inner c.args.core.now c.args.vol (g.S.Shelf.meaning c.args.shelf.now) (g.S.Shelf.meaning c.args.shelf.now) c.requires.none c.requires.stands c.args.vol c.args.one.now c.requires.log).fits.fmr _ c.in-Ok.ensures.answers.0 c.begin_map.ensures.drl

pub returns-in-Ok-clause-empty : goal.returns-in-Ok-clause-empty
returns-in-Ok-clause-empty g c = begun_empty c.args.core.now.inner.config (inner_sound c.args.core.now c.args.vol (g.S.Shelf.meaning c.args.shelf.now) (g.S.Shelf.meaning c.args.shelf.now) c.requires.none c.requires.stands) c.args.vol c.requires.some c.args.plex c.args.one.now c.begin_map.new.logs (g.S.Shelf.meaning c.args.shelf.now) (g.S.Shelf.meaning c.begin_map.new.shelf) c.begin_map.ensures.goes (to_inner c.args.core.now c.args.vol (g.S.Shelf.meaning c.args.shelf.now) (g.S.Shelf.meaning c.args.shelf.now) c.requires.none c.requires.stands c.args.vol c.args.one.now c.requires.log).fits.fmr _ c.in-Ok.ensures.answers.0

pub returns-in-Err-clause-log : goal.returns-in-Err-clause-log
returns-in-Err-clause-log g c = to_wide c.args.core.now c.args.vol (g.S.Shelf.meaning c.args.shelf.now) (g.S.Shelf.meaning c.begin_map.new.shelf) c.requires.none c.requires.stands c.args.vol (record { drl = c.begin_map.new.logs.drl; fmr = None })
    (as_logs c.args.core.now.inner.config c.args.vol c.args.one.now (record { drl = c.begin_map.new.logs.drl; fmr = None }) (g.S.Shelf.meaning c.begin_map.new.shelf) c.begin_map.ensures.drl
    (on_mapped c.args.core.now.inner.config (inner_sound c.args.core.now c.args.vol (g.S.Shelf.meaning c.args.shelf.now) (g.S.Shelf.meaning c.args.shelf.now) c.requires.none c.requires.stands) c.args.vol c.requires.some (g.S.Shelf.meaning c.args.shelf.now) (g.S.Shelf.meaning c.begin_map.new.shelf) (inner_fit c.args.core.now c.args.vol (g.S.Shelf.meaning c.args.shelf.now) (g.S.Shelf.meaning c.args.shelf.now) c.requires.none c.requires.stands) c.begin_map.ensures.goes c.args.one.now None (λ (f : Missed) is. absurd (let clash : None ≡ Some f = is in cc)) (λ (f : Missed) is. absurd (let clash : None ≡ Some f = is in cc)) (to_inner c.args.core.now c.args.vol (g.S.Shelf.meaning c.args.shelf.now) (g.S.Shelf.meaning c.args.shelf.now) c.requires.none c.requires.stands c.args.vol c.args.one.now c.requires.log)))

pub returns-in-Err-clause-known : goal.returns-in-Err-clause-known
returns-in-Err-clause-known g c = know_wide c.args.core.now c.args.vol (g.S.Shelf.meaning c.args.shelf.now) (g.S.Shelf.meaning c.begin_map.new.shelf) c.requires.none c.requires.stands c.args.vol none_spared (record { drl = c.begin_map.new.logs.drl; fmr = None }) (know_none c.args.core.now.inner.config c.args.vol none_spared (record { drl = c.begin_map.new.logs.drl; fmr = None }) (g.S.Shelf.meaning c.begin_map.new.shelf) refl)

pub returns-in-Err-clause-begins : goal.returns-in-Err-clause-begins
returns-in-Err-clause-begins g c = none_begins c.args.plex c.args.one.now (record { drl = c.begin_map.new.logs.drl; fmr = None }) c.begin_map.ensures.drl refl

pub returns-in-Err-clause-down : goal.returns-in-Err-clause-down
returns-in-Err-clause-down g c = (refl, down_of c.args.plex c.args.one.now.fmr c.begin_map.new.logs.fmr (g.S.Shelf.meaning c.args.shelf.now) (g.S.Shelf.meaning c.begin_map.new.shelf) c.in-Err.field-0 c.in-Err.ensures.answers)

pub returns-in-Ok-clause-less : goal.returns-in-Ok-clause-less
returns-in-Ok-clause-less g c =
    logs_finds c.args.core.now c.args.vol (g.S.Shelf.meaning c.args.shelf.now) (g.S.Shelf.meaning c.begin_map.new.shelf) c.requires.none c.requires.stands (goes_logs c.args.core.now.inner.config c.args.vol (g.S.Shelf.meaning c.args.shelf.now) (g.S.Shelf.meaning c.begin_map.new.shelf) c.begin_map.ensures.goes) (g.met.S.Shelf.lawful c.args.shelf.now) (g.met.S.Shelf.lawful c.begin_map.new.shelf)

pub returns-in-Err-clause-less : goal.returns-in-Err-clause-less
returns-in-Err-clause-less g c =
    logs_finds c.args.core.now c.args.vol (g.S.Shelf.meaning c.args.shelf.now) (g.S.Shelf.meaning c.begin_map.new.shelf) c.requires.none c.requires.stands (goes_logs c.args.core.now.inner.config c.args.vol (g.S.Shelf.meaning c.args.shelf.now) (g.S.Shelf.meaning c.begin_map.new.shelf) c.begin_map.ensures.goes) (g.met.S.Shelf.lawful c.args.shelf.now) (g.met.S.Shelf.lawful c.begin_map.new.shelf)

pub returns-in-Ok-clause-drops : goal.returns-in-Ok-clause-drops
returns-in-Ok-clause-drops g c = begun_drops c.args.core.now.inner.config c.args.vol c.args.plex c.args.one.now c.begin_map.new.logs _ (g.S.Shelf.meaning c.args.shelf.now) (g.S.Shelf.meaning c.begin_map.new.shelf) (to_inner c.args.core.now c.args.vol (g.S.Shelf.meaning c.args.shelf.now) (g.S.Shelf.meaning c.args.shelf.now) c.requires.none c.requires.stands c.args.vol c.args.one.now c.requires.log).fits c.begin_map.ensures.drl c.in-Ok.ensures.answers.0

pub returns-in-Err-clause-drops : goal.returns-in-Err-clause-drops
returns-in-Err-clause-drops g c = none_drops c.args.core.now.inner.config c.args.vol c.args.one.now (record { drl = c.begin_map.new.logs.drl; fmr = None }) (g.S.Shelf.meaning c.args.shelf.now) (g.S.Shelf.meaning c.begin_map.new.shelf) c.begin_map.ensures.drl refl (down_of c.args.plex c.args.one.now.fmr c.begin_map.new.logs.fmr (g.S.Shelf.meaning c.args.shelf.now) (g.S.Shelf.meaning c.begin_map.new.shelf) c.in-Err.field-0 c.in-Err.ensures.answers)
