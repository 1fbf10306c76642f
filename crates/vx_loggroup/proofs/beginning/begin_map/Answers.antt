-- `begin_map`: its clauses; what `begin_maps` and `trust_first` ask.
use Rattle.std.proofs.Common.{◌≡◌, ◌∙◌, false, refl, subst, sym, ap, arith}
use Rattle.vx_config.specs.declared.config.Config.{Config}
use Rattle.vx_config.specs.declared.entry.VolumeLog.TheVariants.{Drl, Fmr}
use Rattle.vx_config.proofs.Changed.{sound_lost}
use Rattle.vx_disk.specs.Shelf.{Nothing}
use Rattle.vx_disk.proofs.Causing.{Cause_both}
use Rattle.vx_group.specs.Attaches.{region_count}
use Rattle.vx_group.specs.Holding.{wide}
use Rattle.vx_group.specs.Stands.{inner_meaning}
use Rattle.vx_group.proofs.CallLemmas.{not_down}
use Rattle.vx_group.proofs.LoseLemmas.{along_same}
use Rattle.vx_group.proofs.Standing.{sound_of}
use Rattle.vx_group.proofs.TrustingLemmas.{trusting_active}
use Rattle.vx_group.proofs.UnitLemmas.{acts_units, goes_units}
use Rattle.vx_group.specs.Settles.{ReadsOne}
use Rattle.vx_grouplogs.proofs.MapLemmas.{goes_logs}
use Rattle.vx_groupmaps.specs.Missing.{none_spared}
use Rattle.vx_kept.specs.Keeping.{AllOn}
use Rattle.vx_logged.proofs.StandLemmas.{config_is, inner_fit, inner_others, inner_sound, know_wide, logs_Stands, logs_goes, others_each, to_inner, to_wide, logs_idle}
use Rattle.vx_loggroup.proofs.FreshLemmas.{begins_then, first_mapped}
use Rattle.vx_loggroup.proofs.TrustedLogs.{mapped_each}
use Rattle.std.specs.Prelude.{not}
use Rattle.vx_loggroup.proofs.SureLemmas.{since_same, since_told}
use Rattle.vx_loggroup.proofs.beginning.begin_map.Goals as goal

pub begin_maps-requires-clause-checked : goal.begin_maps-requires-clause-checked
begin_maps-requires-clause-checked g c = inner_sound c.args.core.now c.args.vol (g.S.Shelf.meaning c.args.shelf.now) (g.S.Shelf.meaning c.args.shelf.now) c.requires.none c.requires.stands

pub begin_maps-requires-clause-disks : goal.begin_maps-requires-clause-disks
begin_maps-requires-clause-disks g c = inner_fit c.args.core.now c.args.vol (g.S.Shelf.meaning c.args.shelf.now) (g.S.Shelf.meaning c.args.shelf.now) c.requires.none c.requires.stands

pub begin_maps-requires-clause-on : goal.begin_maps-requires-clause-on
begin_maps-requires-clause-on g c = to_inner c.args.core.now c.args.vol (g.S.Shelf.meaning c.args.shelf.now) (g.S.Shelf.meaning c.args.shelf.now) c.requires.none c.requires.stands c.args.vol c.args.one.now c.requires.log

pub begin_maps-requires-clause-all : goal.begin_maps-requires-clause-all
begin_maps-requires-clause-all g c = subst (λ (x : Config). AllOn x) (config_is c.args.core.now c.args.vol (g.S.Shelf.meaning c.args.shelf.now) (g.S.Shelf.meaning c.args.shelf.now) c.requires.none c.requires.stands) c.requires.stands.stands.on

pub begin_maps-requires-clause-one : goal.begin_maps-requires-clause-one
begin_maps-requires-clause-one g c = λ up. subst (λ (x : Config). ReadsOne x c.args.vol (g.S.Shelf.meaning c.args.shelf.now)) (config_is c.args.core.now c.args.vol (g.S.Shelf.meaning c.args.shelf.now) (g.S.Shelf.meaning c.args.shelf.now) c.requires.none c.requires.stands) c.requires.one

pub trust_first-requires-clause-stands : goal.trust_first-requires-clause-stands
trust_first-requires-clause-stands g c = (logs_Stands c.args.core.now c.args.vol (g.S.Shelf.meaning c.args.shelf.now) (g.S.Shelf.meaning c.begin_maps.new.shelf) c.requires.none c.requires.stands (goes_logs c.args.core.now.inner.config c.args.vol (g.S.Shelf.meaning c.args.shelf.now) (g.S.Shelf.meaning c.begin_maps.new.shelf) c.begin_maps.ensures.goes) (g.met.S.Shelf.lawful c.args.shelf.now) (g.met.S.Shelf.lawful c.begin_maps.new.shelf))

pub returns-then-is_down-clause-stands : goal.returns-then-is_down-clause-stands
returns-then-is_down-clause-stands g c = (logs_Stands c.args.core.now c.args.vol (g.S.Shelf.meaning c.args.shelf.now) (g.S.Shelf.meaning c.begin_maps.new.shelf) c.requires.none c.requires.stands (goes_logs c.args.core.now.inner.config c.args.vol (g.S.Shelf.meaning c.args.shelf.now) (g.S.Shelf.meaning c.begin_maps.new.shelf) c.begin_maps.ensures.goes) (g.met.S.Shelf.lawful c.args.shelf.now) (g.met.S.Shelf.lawful c.begin_maps.new.shelf))

pub returns-then-is_down-clause-begins : goal.returns-then-is_down-clause-begins
returns-then-is_down-clause-begins g c = (record { goes = logs_goes c.args.core.now c.args.vol (g.S.Shelf.meaning c.args.shelf.now) (g.S.Shelf.meaning c.begin_maps.new.shelf) c.requires.none c.requires.stands c.begin_maps.ensures.group; loses = along_same c.args.core.now.inner.config (g.S.Shelf.meaning c.args.shelf.now) (g.S.Shelf.meaning c.begin_maps.new.shelf) c.begin_maps.ensures.goes.faults; finds = logs_idle c.args.core.now c.args.vol (g.S.Shelf.meaning c.args.shelf.now) (g.S.Shelf.meaning c.begin_maps.new.shelf) c.requires.none c.requires.stands (goes_logs c.args.core.now.inner.config c.args.vol (g.S.Shelf.meaning c.args.shelf.now) (g.S.Shelf.meaning c.begin_maps.new.shelf) c.begin_maps.ensures.goes) (g.met.S.Shelf.lawful c.args.shelf.now) (g.met.S.Shelf.lawful c.begin_maps.new.shelf); trusts = record { each = λ w log told. told }; still = λ w p. refl; on = λ w p is. is; units = goes_units _ (g.S.Shelf.meaning c.args.shelf.now) (g.S.Shelf.meaning c.begin_maps.new.shelf) c.begin_maps.ensures.goes; others = inner_others c.args.core.now c.args.vol (g.S.Shelf.meaning c.args.shelf.now) (g.S.Shelf.meaning c.begin_maps.new.shelf) c.requires.none c.requires.stands (goes_logs c.args.core.now.inner.config c.args.vol (g.S.Shelf.meaning c.args.shelf.now) (g.S.Shelf.meaning c.begin_maps.new.shelf) c.begin_maps.ensures.goes) c.begin_maps.ensures.others })

pub returns-then-is_down-clause-first : goal.returns-then-is_down-clause-first
returns-then-is_down-clause-first g c = (first_mapped (region_count (wide c.args.core.now).config c.args.vol) c.args.one.now c.begin_maps.new.logs c.requires.waits c.begin_maps.ensures.drl)

pub returns-then-is_down-clause-log : goal.returns-then-is_down-clause-log
returns-then-is_down-clause-log g c = (to_wide c.args.core.now c.args.vol (g.S.Shelf.meaning c.args.shelf.now) (g.S.Shelf.meaning c.begin_maps.new.shelf) c.requires.none c.requires.stands c.args.vol c.begin_maps.new.logs c.begin_maps.ensures.on)

pub returns-then-is_down-clause-maps : goal.returns-then-is_down-clause-maps
returns-then-is_down-clause-maps g c = (know_wide c.args.core.now c.args.vol (g.S.Shelf.meaning c.args.shelf.now) (g.S.Shelf.meaning c.begin_maps.new.shelf) c.requires.none c.requires.stands c.args.vol none_spared c.begin_maps.new.logs c.begin_maps.ensures.knows)

pub returns-then-is_none-clause-stands : goal.returns-then-is_none-clause-stands
returns-then-is_none-clause-stands g c = (logs_Stands c.args.core.now c.args.vol (g.S.Shelf.meaning c.args.shelf.now) (g.S.Shelf.meaning c.begin_maps.new.shelf) c.requires.none c.requires.stands (goes_logs c.args.core.now.inner.config c.args.vol (g.S.Shelf.meaning c.args.shelf.now) (g.S.Shelf.meaning c.begin_maps.new.shelf) c.begin_maps.ensures.goes) (g.met.S.Shelf.lawful c.args.shelf.now) (g.met.S.Shelf.lawful c.begin_maps.new.shelf))

pub returns-then-is_none-clause-begins : goal.returns-then-is_none-clause-begins
returns-then-is_none-clause-begins g c = (record { goes = logs_goes c.args.core.now c.args.vol (g.S.Shelf.meaning c.args.shelf.now) (g.S.Shelf.meaning c.begin_maps.new.shelf) c.requires.none c.requires.stands c.begin_maps.ensures.group; loses = along_same c.args.core.now.inner.config (g.S.Shelf.meaning c.args.shelf.now) (g.S.Shelf.meaning c.begin_maps.new.shelf) c.begin_maps.ensures.goes.faults; finds = logs_idle c.args.core.now c.args.vol (g.S.Shelf.meaning c.args.shelf.now) (g.S.Shelf.meaning c.begin_maps.new.shelf) c.requires.none c.requires.stands (goes_logs c.args.core.now.inner.config c.args.vol (g.S.Shelf.meaning c.args.shelf.now) (g.S.Shelf.meaning c.begin_maps.new.shelf) c.begin_maps.ensures.goes) (g.met.S.Shelf.lawful c.args.shelf.now) (g.met.S.Shelf.lawful c.begin_maps.new.shelf); trusts = record { each = λ w log told. told }; still = λ w p. refl; on = λ w p is. is; units = goes_units _ (g.S.Shelf.meaning c.args.shelf.now) (g.S.Shelf.meaning c.begin_maps.new.shelf) c.begin_maps.ensures.goes; others = inner_others c.args.core.now c.args.vol (g.S.Shelf.meaning c.args.shelf.now) (g.S.Shelf.meaning c.begin_maps.new.shelf) c.requires.none c.requires.stands (goes_logs c.args.core.now.inner.config c.args.vol (g.S.Shelf.meaning c.args.shelf.now) (g.S.Shelf.meaning c.begin_maps.new.shelf) c.begin_maps.ensures.goes) c.begin_maps.ensures.others })

pub returns-then-is_none-clause-first : goal.returns-then-is_none-clause-first
returns-then-is_none-clause-first g c = (first_mapped (region_count (wide c.args.core.now).config c.args.vol) c.args.one.now c.begin_maps.new.logs c.requires.waits c.begin_maps.ensures.drl)

pub returns-then-is_none-clause-log : goal.returns-then-is_none-clause-log
returns-then-is_none-clause-log g c = (to_wide c.args.core.now c.args.vol (g.S.Shelf.meaning c.args.shelf.now) (g.S.Shelf.meaning c.begin_maps.new.shelf) c.requires.none c.requires.stands c.args.vol c.begin_maps.new.logs c.begin_maps.ensures.on)

pub returns-then-is_none-clause-maps : goal.returns-then-is_none-clause-maps
returns-then-is_none-clause-maps g c = (know_wide c.args.core.now c.args.vol (g.S.Shelf.meaning c.args.shelf.now) (g.S.Shelf.meaning c.begin_maps.new.shelf) c.requires.none c.requires.stands c.args.vol none_spared c.begin_maps.new.logs c.begin_maps.ensures.knows)

pub returns-then-is_down-clause-agreed : goal.returns-then-is_down-clause-agreed
returns-then-is_down-clause-agreed g c = λ is. c.requires.stands.stands.trusts.both is

pub returns-then-is_none-clause-cause : goal.returns-then-is_none-clause-cause
returns-then-is_none-clause-cause g c = record { before = c.requires.up; after = not_down c.is_down.result (g.S.Shelf.meaning c.begin_maps.new.shelf).down c.is_down.ensures c.if-is_down.false }

pub returns-clause-begins : goal.returns-clause-begins
returns-clause-begins g c =
    begins_then c.args.vol c.args.core.now c.args.core.now c.trust_first.new.core (g.S.Shelf.meaning c.args.shelf.now) (g.S.Shelf.meaning c.begin_maps.new.shelf) (g.S.Shelf.meaning c.trust_first.new.shelf) (record { goes = logs_goes c.args.core.now c.args.vol (g.S.Shelf.meaning c.args.shelf.now) (g.S.Shelf.meaning c.begin_maps.new.shelf) c.requires.none c.requires.stands c.begin_maps.ensures.group; loses = along_same c.args.core.now.inner.config (g.S.Shelf.meaning c.args.shelf.now) (g.S.Shelf.meaning c.begin_maps.new.shelf) c.begin_maps.ensures.goes.faults; finds = logs_idle c.args.core.now c.args.vol (g.S.Shelf.meaning c.args.shelf.now) (g.S.Shelf.meaning c.begin_maps.new.shelf) c.requires.none c.requires.stands (goes_logs c.args.core.now.inner.config c.args.vol (g.S.Shelf.meaning c.args.shelf.now) (g.S.Shelf.meaning c.begin_maps.new.shelf) c.begin_maps.ensures.goes) (g.met.S.Shelf.lawful c.args.shelf.now) (g.met.S.Shelf.lawful c.begin_maps.new.shelf); trusts = record { each = λ w log told. told }; still = λ w p. refl; on = λ w p is. is; units = goes_units _ (g.S.Shelf.meaning c.args.shelf.now) (g.S.Shelf.meaning c.begin_maps.new.shelf) c.begin_maps.ensures.goes; others = inner_others c.args.core.now c.args.vol (g.S.Shelf.meaning c.args.shelf.now) (g.S.Shelf.meaning c.begin_maps.new.shelf) c.requires.none c.requires.stands (goes_logs c.args.core.now.inner.config c.args.vol (g.S.Shelf.meaning c.args.shelf.now) (g.S.Shelf.meaning c.begin_maps.new.shelf) c.begin_maps.ensures.goes) c.begin_maps.ensures.others })
    (record {
      goes = c.trust_first.ensures.goes;
      loses = c.trust_first.ensures.loses;
      finds = c.trust_first.ensures.finds;
      trusts = c.trust_first.ensures.trusts;
      still = c.trust_first.ensures.still;
      on = λ w p is. sym (trusting_active c.args.vol Fmr (wide c.args.core.now).config w p) ∙ c.trust_first.ensures.acts.on w p is;
      units = acts_units Nothing _ (g.S.Shelf.meaning c.begin_maps.new.shelf) (g.S.Shelf.meaning c.trust_first.new.shelf) c.trust_first.ensures.acts.acts;
      others = others_each c.args.vol c.args.core.now c.trust_first.new.core (g.S.Shelf.meaning c.begin_maps.new.shelf) (g.S.Shelf.meaning c.trust_first.new.shelf) (mapped_each c.args.vol Fmr c.args.core.now c.trust_first.new.core (g.S.Shelf.meaning c.begin_maps.new.shelf) (g.S.Shelf.meaning c.trust_first.new.shelf) (logs_Stands c.args.core.now c.args.vol (g.S.Shelf.meaning c.args.shelf.now) (g.S.Shelf.meaning c.begin_maps.new.shelf) c.requires.none c.requires.stands (goes_logs c.args.core.now.inner.config c.args.vol (g.S.Shelf.meaning c.args.shelf.now) (g.S.Shelf.meaning c.begin_maps.new.shelf) c.begin_maps.ensures.goes) (g.met.S.Shelf.lawful c.args.shelf.now) (g.met.S.Shelf.lawful c.begin_maps.new.shelf)) c.trust_first.ensures.acts (sound_lost c.args.vol Fmr false (wide c.args.core.now).config ∙ sound_of (wide c.args.core.now) (g.S.Shelf.meaning c.args.shelf.now) c.requires.stands.stands) (λ same. absurd (let clash : Drl ≡ Fmr = same in cc)));
    })

pub returns-clause-first : goal.returns-clause-first
returns-clause-first g c = (first_mapped (region_count (wide c.args.core.now).config c.args.vol) c.args.one.now c.begin_maps.new.logs c.requires.waits c.begin_maps.ensures.drl)

pub returns-clause-log : goal.returns-clause-log
returns-clause-log g c = (mapped_each c.args.vol Fmr c.args.core.now c.trust_first.new.core (g.S.Shelf.meaning c.begin_maps.new.shelf) (g.S.Shelf.meaning c.trust_first.new.shelf) (logs_Stands c.args.core.now c.args.vol (g.S.Shelf.meaning c.args.shelf.now) (g.S.Shelf.meaning c.begin_maps.new.shelf) c.requires.none c.requires.stands (goes_logs c.args.core.now.inner.config c.args.vol (g.S.Shelf.meaning c.args.shelf.now) (g.S.Shelf.meaning c.begin_maps.new.shelf) c.begin_maps.ensures.goes) (g.met.S.Shelf.lawful c.args.shelf.now) (g.met.S.Shelf.lawful c.begin_maps.new.shelf)) c.trust_first.ensures.acts (sound_lost c.args.vol Fmr false (wide c.args.core.now).config ∙ sound_of (wide c.args.core.now) (g.S.Shelf.meaning c.args.shelf.now) c.requires.stands.stands) (λ same. absurd (let clash : Drl ≡ Fmr = same in cc))).each c.args.vol c.begin_maps.new.logs (to_wide c.args.core.now c.args.vol (g.S.Shelf.meaning c.args.shelf.now) (g.S.Shelf.meaning c.begin_maps.new.shelf) c.requires.none c.requires.stands c.args.vol c.begin_maps.new.logs c.begin_maps.ensures.on)

pub returns-clause-maps : goal.returns-clause-maps
returns-clause-maps g c = (mapped_each c.args.vol Fmr c.args.core.now c.trust_first.new.core (g.S.Shelf.meaning c.begin_maps.new.shelf) (g.S.Shelf.meaning c.trust_first.new.shelf) (logs_Stands c.args.core.now c.args.vol (g.S.Shelf.meaning c.args.shelf.now) (g.S.Shelf.meaning c.begin_maps.new.shelf) c.requires.none c.requires.stands (goes_logs c.args.core.now.inner.config c.args.vol (g.S.Shelf.meaning c.args.shelf.now) (g.S.Shelf.meaning c.begin_maps.new.shelf) c.begin_maps.ensures.goes) (g.met.S.Shelf.lawful c.args.shelf.now) (g.met.S.Shelf.lawful c.begin_maps.new.shelf)) c.trust_first.ensures.acts (sound_lost c.args.vol Fmr false (wide c.args.core.now).config ∙ sound_of (wide c.args.core.now) (g.S.Shelf.meaning c.args.shelf.now) c.requires.stands.stands) (λ same. absurd (let clash : Drl ≡ Fmr = same in cc))).maps c.args.vol none_spared c.begin_maps.new.logs (know_wide c.args.core.now c.args.vol (g.S.Shelf.meaning c.args.shelf.now) (g.S.Shelf.meaning c.begin_maps.new.shelf) c.requires.none c.requires.stands c.args.vol none_spared c.begin_maps.new.logs c.begin_maps.ensures.knows)

pub returns-clause-cause : goal.returns-clause-cause
returns-clause-cause g c = Cause_both (inner_meaning (wide c.args.core.now) (g.S.Shelf.meaning c.args.shelf.now)) (inner_meaning (wide c.args.core.now) (g.S.Shelf.meaning c.begin_maps.new.shelf)) (inner_meaning (wide c.trust_first.new.core) (g.S.Shelf.meaning c.trust_first.new.shelf)) c.args.vol c.trust_first.result (record { before = c.requires.up; after = not_down c.is_down.result (g.S.Shelf.meaning c.begin_maps.new.shelf).down c.is_down.ensures c.if-is_down.false })
    (logs_goes c.args.core.now c.args.vol (g.S.Shelf.meaning c.args.shelf.now) (g.S.Shelf.meaning c.begin_maps.new.shelf) c.requires.none c.requires.stands c.begin_maps.ensures.group).faults (logs_goes c.args.core.now c.args.vol (g.S.Shelf.meaning c.args.shelf.now) (g.S.Shelf.meaning c.begin_maps.new.shelf) c.requires.none c.requires.stands c.begin_maps.ensures.group).disk_faults c.trust_first.ensures.cause

pub returns-then-is_down-clause-news : goal.returns-then-is_down-clause-news
returns-then-is_down-clause-news g c = record { begun = λ none. c.begin_maps.ensures.begun }

pub returns-then-is_none-clause-news : goal.returns-then-is_none-clause-news
returns-then-is_none-clause-news g c = record { begun = λ none. c.begin_maps.ensures.begun }

pub returns-clause-news : goal.returns-clause-news
returns-clause-news g c = record { begun = λ none. c.begin_maps.ensures.begun }

pub returns-then-is_down-clause-since : goal.returns-then-is_down-clause-since
returns-then-is_down-clause-since g c = since_same c.args.vol c.begin_maps.new.logs c.args.core.now

pub returns-then-is_none-clause-since : goal.returns-then-is_none-clause-since
returns-then-is_none-clause-since g c = since_same c.args.vol c.begin_maps.new.logs c.args.core.now

pub returns-clause-since : goal.returns-clause-since
returns-clause-since g c = since_told c.args.vol Fmr c.args.core.now c.trust_first.new.core c.begin_maps.new.logs (g.S.Shelf.meaning c.begin_maps.new.shelf) (g.S.Shelf.meaning c.trust_first.new.shelf) c.trust_first.ensures.acts (c.is_none.ensures ∙ ap not c.if-is_none.false)

pub returns-clause-unsure : goal.returns-clause-unsure
returns-clause-unsure g c = c.trust_first.ensures.unsure

pub returns-clause-misses : goal.returns-clause-misses
returns-clause-misses g c = c.trust_first.ensures.misses

pub returns-clause-stands : goal.returns-clause-stands
returns-clause-stands g c = c.trust_first.ensures.stands

pub returns-clause-none : goal.returns-clause-none
returns-clause-none g c = c.trust_first.ensures.none

pub returns-clause-few : goal.returns-clause-few
returns-clause-few g c = c.trust_first.ensures.few

pub returns-clause-trust : goal.returns-clause-trust
returns-clause-trust g c = c.trust_first.ensures.trust

pub returns-clause-agreed : goal.returns-clause-agreed
returns-clause-agreed g c = c.trust_first.ensures.agreed

pub returns-then-is_down-clause-none : goal.returns-then-is_down-clause-none
returns-then-is_down-clause-none g c = c.requires.none

pub returns-then-is_down-clause-few : goal.returns-then-is_down-clause-few
returns-then-is_down-clause-few g c = tt

pub returns-then-is_down-clause-trust : goal.returns-then-is_down-clause-trust
returns-then-is_down-clause-trust g c = tt

pub returns-then-is_down-clause-unsure : goal.returns-then-is_down-clause-unsure
returns-then-is_down-clause-unsure g c = refl

pub returns-then-is_down-clause-misses : goal.returns-then-is_down-clause-misses
returns-then-is_down-clause-misses g c = tt

pub returns-then-is_down-clause-cause : goal.returns-then-is_down-clause-cause
returns-then-is_down-clause-cause g c = sym c.is_down.ensures ∙ c.if-is_down.true

pub returns-then-is_none-clause-none : goal.returns-then-is_none-clause-none
returns-then-is_none-clause-none g c = c.requires.none

pub returns-then-is_none-clause-few : goal.returns-then-is_none-clause-few
returns-then-is_none-clause-few g c = omega arith

pub returns-then-is_none-clause-trust : goal.returns-then-is_none-clause-trust
returns-then-is_none-clause-trust g c = λ is. is

pub returns-then-is_none-clause-agreed : goal.returns-then-is_none-clause-agreed
returns-then-is_none-clause-agreed g c = tt

pub returns-then-is_none-clause-unsure : goal.returns-then-is_none-clause-unsure
returns-then-is_none-clause-unsure g c = refl

pub returns-then-is_none-clause-misses : goal.returns-then-is_none-clause-misses
returns-then-is_none-clause-misses g c = tt
