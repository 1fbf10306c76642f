-- `begin_log`: its clauses; what `begin_run` and `trust_first` ask.
use Rattle.std.proofs.Common.{◌∙◌, false, refl, subst, sym, ap, arith}
use Rattle.vx_config.specs.declared.config.Config.{Config}
use Rattle.vx_config.specs.declared.entry.VolumeLog.TheVariants.{Drl}
use Rattle.vx_config.proofs.Changed.{sound_lost}
use Rattle.vx_disk.specs.Shelf.{Nothing}
use Rattle.vx_disk.proofs.Causing.{Cause_both}
use Rattle.vx_group.specs.Attaches.{region_count}
use Rattle.vx_group.specs.Holding.{wide}
use Rattle.vx_group.specs.Stands.{inner_meaning}
use Rattle.vx_group.proofs.CallLemmas.{not_down}
use Rattle.vx_group.proofs.LoseLemmas.{along_same}
use Rattle.vx_group.proofs.Standing.{sound_of}
use Rattle.vx_group.proofs.TrustingLemmas.{trusting_active}
use Rattle.vx_group.proofs.UnitLemmas.{acts_units, goes_units}
use Rattle.vx_groupmaps.specs.Missing.{none_spared}
use Rattle.vx_grouplogs.specs.Covering.{AllAlike}
use Rattle.vx_grouplogs.specs.Marking.{NoMarks}
use Rattle.vx_grouplogs.proofs.KnowActs.{know_none}
use Rattle.vx_logged.proofs.StandLemmas.{alike_goes, config_is, inner_fit, inner_others, inner_sound, logs_Stands, logs_goes, to_wide, logs_idle}
use Rattle.vx_loggroup.proofs.FreshLemmas.{begins_then, first_begun}
use Rattle.vx_loggroup.proofs.NewLemmas.{news_gone}
use Rattle.vx_loggroup.proofs.TrustedLogs.{trusted_here, trusted_others}
use Rattle.std.specs.Prelude.{not}
use Rattle.vx_loggroup.proofs.SureLemmas.{since_same, since_told}
use Rattle.vx_loggroup.proofs.beginning.begin_log.Goals as goal

pub begin_run-requires-clause-checked : goal.begin_run-requires-clause-checked
begin_run-requires-clause-checked g c = inner_sound c.args.core.now c.args.vol (g.S.Shelf.meaning c.args.shelf.now) (g.S.Shelf.meaning c.args.shelf.now) c.requires.none c.requires.stands

pub begin_run-requires-clause-disks : goal.begin_run-requires-clause-disks
begin_run-requires-clause-disks g c = inner_fit c.args.core.now c.args.vol (g.S.Shelf.meaning c.args.shelf.now) (g.S.Shelf.meaning c.args.shelf.now) c.requires.none c.requires.stands

pub begin_run-requires-clause-alike : goal.begin_run-requires-clause-alike
begin_run-requires-clause-alike g c = subst (λ (x : Config). AllAlike x c.args.vol (g.S.Shelf.meaning c.args.shelf.now)) (config_is c.args.core.now c.args.vol (g.S.Shelf.meaning c.args.shelf.now) (g.S.Shelf.meaning c.args.shelf.now) c.requires.none c.requires.stands) c.requires.alike

pub trust_first-requires-clause-stands : goal.trust_first-requires-clause-stands
trust_first-requires-clause-stands g c = (logs_Stands c.args.core.now c.args.vol (g.S.Shelf.meaning c.args.shelf.now) (g.S.Shelf.meaning c.begin_run.new.shelf) c.requires.none c.requires.stands c.begin_run.ensures.goes (g.met.S.Shelf.lawful c.args.shelf.now) (g.met.S.Shelf.lawful c.begin_run.new.shelf))

pub returns-then-is_down-clause-stands : goal.returns-then-is_down-clause-stands
returns-then-is_down-clause-stands g c = (logs_Stands c.args.core.now c.args.vol (g.S.Shelf.meaning c.args.shelf.now) (g.S.Shelf.meaning c.begin_run.new.shelf) c.requires.none c.requires.stands c.begin_run.ensures.goes (g.met.S.Shelf.lawful c.args.shelf.now) (g.met.S.Shelf.lawful c.begin_run.new.shelf))

pub returns-then-is_down-clause-begins : goal.returns-then-is_down-clause-begins
returns-then-is_down-clause-begins g c = (record { goes = logs_goes c.args.core.now c.args.vol (g.S.Shelf.meaning c.args.shelf.now) (g.S.Shelf.meaning c.begin_run.new.shelf) c.requires.none c.requires.stands c.begin_run.ensures.group; loses = along_same c.args.core.now.inner.config (g.S.Shelf.meaning c.args.shelf.now) (g.S.Shelf.meaning c.begin_run.new.shelf) c.begin_run.ensures.goes.faults; finds = logs_idle c.args.core.now c.args.vol (g.S.Shelf.meaning c.args.shelf.now) (g.S.Shelf.meaning c.begin_run.new.shelf) c.requires.none c.requires.stands c.begin_run.ensures.goes (g.met.S.Shelf.lawful c.args.shelf.now) (g.met.S.Shelf.lawful c.begin_run.new.shelf); trusts = record { each = λ w log told. told }; still = λ w p. refl; on = λ w p is. is; units = goes_units _ (g.S.Shelf.meaning c.args.shelf.now) (g.S.Shelf.meaning c.begin_run.new.shelf) c.begin_run.ensures.goes; others = inner_others c.args.core.now c.args.vol (g.S.Shelf.meaning c.args.shelf.now) (g.S.Shelf.meaning c.begin_run.new.shelf) c.requires.none c.requires.stands c.begin_run.ensures.goes c.begin_run.ensures.others })

pub returns-then-is_down-clause-first : goal.returns-then-is_down-clause-first
returns-then-is_down-clause-first g c = (first_begun (region_count (wide c.args.core.now).config c.args.vol) c.args.one.now c.begin_run.new.logs c.requires.waits.0 c.requires.waits.1 (subst (λ (x : Config). NoMarks (region_count x c.args.vol) c.begin_run.new.logs) (sym (config_is c.args.core.now c.args.vol (g.S.Shelf.meaning c.args.shelf.now) (g.S.Shelf.meaning c.args.shelf.now) c.requires.none c.requires.stands)) c.begin_run.ensures.off))

pub returns-then-is_down-clause-log : goal.returns-then-is_down-clause-log
returns-then-is_down-clause-log g c = (to_wide c.args.core.now c.args.vol (g.S.Shelf.meaning c.args.shelf.now) (g.S.Shelf.meaning c.begin_run.new.shelf) c.requires.none c.requires.stands c.args.vol c.begin_run.new.logs c.begin_run.ensures.on)

pub returns-then-is_down-clause-maps : goal.returns-then-is_down-clause-maps
returns-then-is_down-clause-maps g c = know_none (wide c.args.core.now).config c.args.vol none_spared c.begin_run.new.logs (g.S.Shelf.meaning c.begin_run.new.shelf) c.begin_run.ensures.plain

pub returns-then-is_down-clause-alike : goal.returns-then-is_down-clause-alike
returns-then-is_down-clause-alike g c = (subst (λ (x : Config). AllAlike x c.args.vol (g.S.Shelf.meaning c.begin_run.new.shelf)) (sym (config_is c.args.core.now c.args.vol (g.S.Shelf.meaning c.args.shelf.now) (g.S.Shelf.meaning c.args.shelf.now) c.requires.none c.requires.stands)) c.begin_run.ensures.alike)

pub returns-then-is_none-clause-stands : goal.returns-then-is_none-clause-stands
returns-then-is_none-clause-stands g c = (logs_Stands c.args.core.now c.args.vol (g.S.Shelf.meaning c.args.shelf.now) (g.S.Shelf.meaning c.begin_run.new.shelf) c.requires.none c.requires.stands c.begin_run.ensures.goes (g.met.S.Shelf.lawful c.args.shelf.now) (g.met.S.Shelf.lawful c.begin_run.new.shelf))

pub returns-then-is_none-clause-begins : goal.returns-then-is_none-clause-begins
returns-then-is_none-clause-begins g c = (record { goes = logs_goes c.args.core.now c.args.vol (g.S.Shelf.meaning c.args.shelf.now) (g.S.Shelf.meaning c.begin_run.new.shelf) c.requires.none c.requires.stands c.begin_run.ensures.group; loses = along_same c.args.core.now.inner.config (g.S.Shelf.meaning c.args.shelf.now) (g.S.Shelf.meaning c.begin_run.new.shelf) c.begin_run.ensures.goes.faults; finds = logs_idle c.args.core.now c.args.vol (g.S.Shelf.meaning c.args.shelf.now) (g.S.Shelf.meaning c.begin_run.new.shelf) c.requires.none c.requires.stands c.begin_run.ensures.goes (g.met.S.Shelf.lawful c.args.shelf.now) (g.met.S.Shelf.lawful c.begin_run.new.shelf); trusts = record { each = λ w log told. told }; still = λ w p. refl; on = λ w p is. is; units = goes_units _ (g.S.Shelf.meaning c.args.shelf.now) (g.S.Shelf.meaning c.begin_run.new.shelf) c.begin_run.ensures.goes; others = inner_others c.args.core.now c.args.vol (g.S.Shelf.meaning c.args.shelf.now) (g.S.Shelf.meaning c.begin_run.new.shelf) c.requires.none c.requires.stands c.begin_run.ensures.goes c.begin_run.ensures.others })

pub returns-then-is_none-clause-first : goal.returns-then-is_none-clause-first
returns-then-is_none-clause-first g c = (first_begun (region_count (wide c.args.core.now).config c.args.vol) c.args.one.now c.begin_run.new.logs c.requires.waits.0 c.requires.waits.1 (subst (λ (x : Config). NoMarks (region_count x c.args.vol) c.begin_run.new.logs) (sym (config_is c.args.core.now c.args.vol (g.S.Shelf.meaning c.args.shelf.now) (g.S.Shelf.meaning c.args.shelf.now) c.requires.none c.requires.stands)) c.begin_run.ensures.off))

pub returns-then-is_none-clause-log : goal.returns-then-is_none-clause-log
returns-then-is_none-clause-log g c = (to_wide c.args.core.now c.args.vol (g.S.Shelf.meaning c.args.shelf.now) (g.S.Shelf.meaning c.begin_run.new.shelf) c.requires.none c.requires.stands c.args.vol c.begin_run.new.logs c.begin_run.ensures.on)

pub returns-then-is_none-clause-maps : goal.returns-then-is_none-clause-maps
returns-then-is_none-clause-maps g c = know_none (wide c.args.core.now).config c.args.vol none_spared c.begin_run.new.logs (g.S.Shelf.meaning c.begin_run.new.shelf) c.begin_run.ensures.plain

pub returns-then-is_none-clause-alike : goal.returns-then-is_none-clause-alike
returns-then-is_none-clause-alike g c = (subst (λ (x : Config). AllAlike x c.args.vol (g.S.Shelf.meaning c.begin_run.new.shelf)) (sym (config_is c.args.core.now c.args.vol (g.S.Shelf.meaning c.args.shelf.now) (g.S.Shelf.meaning c.args.shelf.now) c.requires.none c.requires.stands)) c.begin_run.ensures.alike)

pub returns-then-is_down-clause-agreed : goal.returns-then-is_down-clause-agreed
returns-then-is_down-clause-agreed g c = λ is. c.requires.stands.stands.trusts.both is

pub returns-then-is_none-clause-cause : goal.returns-then-is_none-clause-cause
returns-then-is_none-clause-cause g c = record { before = c.requires.up; after = not_down c.is_down.result (g.S.Shelf.meaning c.begin_run.new.shelf).down c.is_down.ensures c.if-is_down.false }

pub returns-clause-begins : goal.returns-clause-begins
returns-clause-begins g c =
    begins_then c.args.vol c.args.core.now c.args.core.now c.trust_first.new.core (g.S.Shelf.meaning c.args.shelf.now) (g.S.Shelf.meaning c.begin_run.new.shelf) (g.S.Shelf.meaning c.trust_first.new.shelf) (record { goes = logs_goes c.args.core.now c.args.vol (g.S.Shelf.meaning c.args.shelf.now) (g.S.Shelf.meaning c.begin_run.new.shelf) c.requires.none c.requires.stands c.begin_run.ensures.group; loses = along_same c.args.core.now.inner.config (g.S.Shelf.meaning c.args.shelf.now) (g.S.Shelf.meaning c.begin_run.new.shelf) c.begin_run.ensures.goes.faults; finds = logs_idle c.args.core.now c.args.vol (g.S.Shelf.meaning c.args.shelf.now) (g.S.Shelf.meaning c.begin_run.new.shelf) c.requires.none c.requires.stands c.begin_run.ensures.goes (g.met.S.Shelf.lawful c.args.shelf.now) (g.met.S.Shelf.lawful c.begin_run.new.shelf); trusts = record { each = λ w log told. told }; still = λ w p. refl; on = λ w p is. is; units = goes_units _ (g.S.Shelf.meaning c.args.shelf.now) (g.S.Shelf.meaning c.begin_run.new.shelf) c.begin_run.ensures.goes; others = inner_others c.args.core.now c.args.vol (g.S.Shelf.meaning c.args.shelf.now) (g.S.Shelf.meaning c.begin_run.new.shelf) c.requires.none c.requires.stands c.begin_run.ensures.goes c.begin_run.ensures.others })
    (record {
      goes = c.trust_first.ensures.goes;
      loses = c.trust_first.ensures.loses;
      finds = c.trust_first.ensures.finds;
      trusts = c.trust_first.ensures.trusts;
      still = c.trust_first.ensures.still;
      on = λ w p is. sym (trusting_active c.args.vol Drl (wide c.args.core.now).config w p) ∙ c.trust_first.ensures.acts.on w p is;
      units = acts_units Nothing _ (g.S.Shelf.meaning c.begin_run.new.shelf) (g.S.Shelf.meaning c.trust_first.new.shelf) c.trust_first.ensures.acts.acts;
      others = trusted_others c.args.vol Drl c.args.core.now c.trust_first.new.core (g.S.Shelf.meaning c.begin_run.new.shelf) (g.S.Shelf.meaning c.trust_first.new.shelf) (logs_Stands c.args.core.now c.args.vol (g.S.Shelf.meaning c.args.shelf.now) (g.S.Shelf.meaning c.begin_run.new.shelf) c.requires.none c.requires.stands c.begin_run.ensures.goes (g.met.S.Shelf.lawful c.args.shelf.now) (g.met.S.Shelf.lawful c.begin_run.new.shelf)) c.trust_first.ensures.acts (sound_lost c.args.vol Drl false (wide c.args.core.now).config ∙ sound_of (wide c.args.core.now) (g.S.Shelf.meaning c.args.shelf.now) c.requires.stands.stands);
    })

pub returns-clause-first : goal.returns-clause-first
returns-clause-first g c = (first_begun (region_count (wide c.args.core.now).config c.args.vol) c.args.one.now c.begin_run.new.logs c.requires.waits.0 c.requires.waits.1 (subst (λ (x : Config). NoMarks (region_count x c.args.vol) c.begin_run.new.logs) (sym (config_is c.args.core.now c.args.vol (g.S.Shelf.meaning c.args.shelf.now) (g.S.Shelf.meaning c.args.shelf.now) c.requires.none c.requires.stands)) c.begin_run.ensures.off))

pub returns-clause-log : goal.returns-clause-log
returns-clause-log g c = trusted_here c.args.vol Drl c.args.core.now c.trust_first.new.core (g.S.Shelf.meaning c.begin_run.new.shelf) (g.S.Shelf.meaning c.trust_first.new.shelf) (logs_Stands c.args.core.now c.args.vol (g.S.Shelf.meaning c.args.shelf.now) (g.S.Shelf.meaning c.begin_run.new.shelf) c.requires.none c.requires.stands c.begin_run.ensures.goes (g.met.S.Shelf.lawful c.args.shelf.now) (g.met.S.Shelf.lawful c.begin_run.new.shelf)) c.trust_first.ensures.acts (sound_lost c.args.vol Drl false (wide c.args.core.now).config ∙ sound_of (wide c.args.core.now) (g.S.Shelf.meaning c.args.shelf.now) c.requires.stands.stands) c.begin_run.new.logs (subst (λ (x : Config). AllAlike x c.args.vol (g.S.Shelf.meaning c.begin_run.new.shelf)) (sym (config_is c.args.core.now c.args.vol (g.S.Shelf.meaning c.args.shelf.now) (g.S.Shelf.meaning c.args.shelf.now) c.requires.none c.requires.stands)) c.begin_run.ensures.alike) (to_wide c.args.core.now c.args.vol (g.S.Shelf.meaning c.args.shelf.now) (g.S.Shelf.meaning c.begin_run.new.shelf) c.requires.none c.requires.stands c.args.vol c.begin_run.new.logs c.begin_run.ensures.on)

pub returns-clause-maps : goal.returns-clause-maps
returns-clause-maps g c = know_none (wide c.trust_first.new.core).config c.args.vol none_spared c.begin_run.new.logs (g.S.Shelf.meaning c.trust_first.new.shelf) c.begin_run.ensures.plain

pub returns-clause-alike : goal.returns-clause-alike
returns-clause-alike g c = alike_goes c.args.core.now c.trust_first.new.core c.args.vol (g.S.Shelf.meaning c.begin_run.new.shelf) (g.S.Shelf.meaning c.trust_first.new.shelf) c.trust_first.ensures.goes (subst (λ (x : Config). AllAlike x c.args.vol (g.S.Shelf.meaning c.begin_run.new.shelf)) (sym (config_is c.args.core.now c.args.vol (g.S.Shelf.meaning c.args.shelf.now) (g.S.Shelf.meaning c.args.shelf.now) c.requires.none c.requires.stands)) c.begin_run.ensures.alike)

pub returns-clause-cause : goal.returns-clause-cause
returns-clause-cause g c = Cause_both (inner_meaning (wide c.args.core.now) (g.S.Shelf.meaning c.args.shelf.now)) (inner_meaning (wide c.args.core.now) (g.S.Shelf.meaning c.begin_run.new.shelf)) (inner_meaning (wide c.trust_first.new.core) (g.S.Shelf.meaning c.trust_first.new.shelf)) c.args.vol c.trust_first.result (record { before = c.requires.up; after = not_down c.is_down.result (g.S.Shelf.meaning c.begin_run.new.shelf).down c.is_down.ensures c.if-is_down.false })
    (logs_goes c.args.core.now c.args.vol (g.S.Shelf.meaning c.args.shelf.now) (g.S.Shelf.meaning c.begin_run.new.shelf) c.requires.none c.requires.stands c.begin_run.ensures.group).faults (logs_goes c.args.core.now c.args.vol (g.S.Shelf.meaning c.args.shelf.now) (g.S.Shelf.meaning c.begin_run.new.shelf) c.requires.none c.requires.stands c.begin_run.ensures.group).disk_faults c.trust_first.ensures.cause

pub returns-then-is_down-clause-news : goal.returns-then-is_down-clause-news
returns-then-is_down-clause-news g c = news_gone c.args.core.now.inner.config c.args.vol c.args.one.now c.begin_run.new.logs c.begin_run.ensures.plain

pub returns-then-is_none-clause-news : goal.returns-then-is_none-clause-news
returns-then-is_none-clause-news g c = news_gone c.args.core.now.inner.config c.args.vol c.args.one.now c.begin_run.new.logs c.begin_run.ensures.plain

pub returns-clause-news : goal.returns-clause-news
returns-clause-news g c = news_gone c.args.core.now.inner.config c.args.vol c.args.one.now c.begin_run.new.logs c.begin_run.ensures.plain

pub returns-then-is_down-clause-since : goal.returns-then-is_down-clause-since
returns-then-is_down-clause-since g c = since_same c.args.vol c.begin_run.new.logs c.args.core.now

pub returns-then-is_none-clause-since : goal.returns-then-is_none-clause-since
returns-then-is_none-clause-since g c = since_same c.args.vol c.begin_run.new.logs c.args.core.now

pub returns-clause-since : goal.returns-clause-since
returns-clause-since g c = since_told c.args.vol Drl c.args.core.now c.trust_first.new.core c.begin_run.new.logs (g.S.Shelf.meaning c.begin_run.new.shelf) (g.S.Shelf.meaning c.trust_first.new.shelf) c.trust_first.ensures.acts (c.is_none.ensures ∙ ap not c.if-is_none.false)

pub returns-clause-unsure : goal.returns-clause-unsure
returns-clause-unsure g c = c.trust_first.ensures.unsure

pub returns-clause-misses : goal.returns-clause-misses
returns-clause-misses g c = c.trust_first.ensures.misses

pub returns-clause-stands : goal.returns-clause-stands
returns-clause-stands g c = c.trust_first.ensures.stands

pub returns-clause-none : goal.returns-clause-none
returns-clause-none g c = c.trust_first.ensures.none

pub returns-clause-few : goal.returns-clause-few
returns-clause-few g c = c.trust_first.ensures.few

pub returns-clause-trust : goal.returns-clause-trust
returns-clause-trust g c = c.trust_first.ensures.trust

pub returns-clause-agreed : goal.returns-clause-agreed
returns-clause-agreed g c = c.trust_first.ensures.agreed

pub returns-then-is_down-clause-none : goal.returns-then-is_down-clause-none
returns-then-is_down-clause-none g c = c.requires.none

pub returns-then-is_down-clause-few : goal.returns-then-is_down-clause-few
returns-then-is_down-clause-few g c = tt

pub returns-then-is_down-clause-trust : goal.returns-then-is_down-clause-trust
returns-then-is_down-clause-trust g c = tt

pub returns-then-is_down-clause-unsure : goal.returns-then-is_down-clause-unsure
returns-then-is_down-clause-unsure g c = refl

pub returns-then-is_down-clause-misses : goal.returns-then-is_down-clause-misses
returns-then-is_down-clause-misses g c = tt

pub returns-then-is_down-clause-cause : goal.returns-then-is_down-clause-cause
returns-then-is_down-clause-cause g c = sym c.is_down.ensures ∙ c.if-is_down.true

pub returns-then-is_none-clause-none : goal.returns-then-is_none-clause-none
returns-then-is_none-clause-none g c = c.requires.none

pub returns-then-is_none-clause-few : goal.returns-then-is_none-clause-few
returns-then-is_none-clause-few g c = omega arith

pub returns-then-is_none-clause-trust : goal.returns-then-is_none-clause-trust
returns-then-is_none-clause-trust g c = λ is. is

pub returns-then-is_none-clause-agreed : goal.returns-then-is_none-clause-agreed
returns-then-is_none-clause-agreed g c = tt

pub returns-then-is_none-clause-unsure : goal.returns-then-is_none-clause-unsure
returns-then-is_none-clause-unsure g c = refl

pub returns-then-is_none-clause-misses : goal.returns-then-is_none-clause-misses
returns-then-is_none-clause-misses g c = tt
