-- Logs that are trusted still behind calls of a group.
use Rattle.std.proofs.Common.{◌≡◌, ◌⊎◌, inl, inr, ℕ, zero, suc, Bool, true, false, Option, Some, None, length, refl, sym, ◌∙◌, subst}
use Rattle.std.specs.Prelude.{if◌then◌else◌}
use Rattle.std.proofs.lemmas.Bool.{cases_lt}
use Rattle.vx_disk.specs.Blocks.{bit_at}
use Rattle.vx_model.specs.declared.site.PlexState.{PlexState}
use Rattle.vx_model.specs.declared.site.PlexState.TheVariants.{Active, Stale}
use Rattle.vx_config.specs.Changes.{lost, stated}
use Rattle.vx_config.specs.declared.config.Config.{Config}
use Rattle.vx_config.specs.declared.entry.VolumeEntry.{VolumeEntry}
use Rattle.vx_config.specs.declared.entry.VolumeLog.{VolumeLog}
use Rattle.vx_layout.specs.Made.{with_volume}
use Rattle.vx_maplog.specs.Logs.{log_of}
use Rattle.vx_kept.specs.States.{stale_at, staled, whole_of}
use Rattle.vx_kept.proofs.RunLemmas.{logs_volumes, none_trusted, trust_from}
use Rattle.vx_kept.proofs.StateLemmas.{stated_logs}
use Rattle.vx_group.specs.Holding.{HeldAgain, HeldBack, active_at, config_by, wide}
use Rattle.vx_group.specs.Loses.{TrustsBut, TrustsStill}
use Rattle.vx_group.specs.declared.group_core.GroupCore.{GroupCore}
use Rattle.vx_group.specs.declared.group_core.Held.{Held}
use Rattle.vx_group.specs.declared.inner.Inner.{Inner}
use Rattle.vx_group.proofs.LongerLemmas.{logs_more}
use Rattle.vx_group.proofs.TrustingLemmas.{trusting_more}

-- ---- calls in a row

pub same_logs : (c : Config) → TrustsStill c c
same_logs c = record { each = λ v log is. is }

pub then_logs : (c d e : Config) → TrustsStill c d → TrustsStill d e → TrustsStill c e
then_logs c d e one two = record { each = λ v log is. two.each v log (one.each v log is) }

-- ---- configurations in which logs are as they were

logs_still : (c d : Config) → ((v : ℕ) (log : VolumeLog) → log_of d v log ≡ log_of c v log) → TrustsStill c d
logs_still c d same = record { each = λ v log is. trust_from c d v v log (sym (same v log)) is }

pub volumes_logs : (c d : Config) → d.volumes ≡ c.volumes → TrustsStill c d
volumes_logs c d volumes = logs_still c d (logs_volumes d c volumes)

-- with the volumes of a configuration by which it goes
pub by_logs : (c e d : Config) → d.volumes ≡ e.volumes → TrustsStill c e → TrustsStill c d
by_logs c e d volumes still = then_logs c e d still (volumes_logs e d volumes)

-- one plex in another state
pub stated_still : (v p : ℕ) (s : PlexState) (w : Bool) (c : Config) → TrustsStill c (stated v p s w c)
stated_still v p s w c = logs_still c (stated v p s w c) (stated_logs v p s w c)

staled_step : (v n : ℕ) (c d : Config) (b : Bool) → TrustsStill c d → TrustsStill c (if b then stale_at v n d else d)
staled_step v n c d true still = then_logs c d (stale_at v n d) still (stated_still v n Stale (whole_of d v n) d)
staled_step v n c d false still = still

-- several plexes of a volume STALE
pub staled_still : (v set : ℕ) (c : Config) (n : ℕ) → TrustsStill c (staled v set c n)
staled_still v set c zero = same_logs c
staled_still v set c (suc n) = staled_step v n c (staled v set c n) (bit_at set n) (staled_still v set c n)

-- a commit with such plexes, made or refused
pub kept_logs : (v set n : ℕ) (c d : Config) → (d.volumes ≡ c.volumes) ⊎ (d.volumes ≡ (staled v set c n).volumes) → TrustsStill c d
kept_logs v set n c d (inl same) = volumes_logs c d same
kept_logs v set n c d (inr stale) = by_logs c (staled v set c n) d stale (staled_still v set c n)

-- ---- a volume more

more_logs : (c : Config) (v : VolumeEntry) → TrustsStill c (with_volume c v)
more_logs c v = record {
  each = λ w log is. elim (cases_lt w (length c.volumes)) [
    | inl lt ↦ trust_from c (with_volume c v) w w log (sym (logs_more c v w log lt)) is
    | inr past ↦ absurd (let clash : false ≡ true = sym (none_trusted c w log past) ∙ is in cc)
  ];
}

pub added_logs : (c next d : Config) (v : VolumeEntry) → next ≡ with_volume c v → d.volumes ≡ next.volumes → TrustsStill c d
added_logs c next d v is volumes = by_logs c next d volumes (subst (λ (x : Config). TrustsStill c x) (sym is) (more_logs c v))

-- ---- a log that is lost, or trusted again

pub but_logs : (v : ℕ) (this : VolumeLog) (c d : Config) → ((w : ℕ) (log : VolumeLog) → (w ≡ v → log ≡ this → ⊥) → log_of d w log ≡ log_of c w log) → TrustsBut v this c d
but_logs v this c d others = record { each = λ w log apart is. trust_from c d w w log (sym (others w log (λ same at. apart (same, at)))) is }

pub still_but : (v : ℕ) (this : VolumeLog) (c d : Config) → TrustsStill c d → TrustsBut v this c d
still_but v this c d still = record { each = λ w log apart is. still.each w log is }

pub then_but : (v : ℕ) (this : VolumeLog) (c d e : Config) → TrustsStill c d → TrustsBut v this d e → TrustsBut v this c e
then_but v this c d e one two = record { each = λ w log apart is. two.each w log apart (one.each w log is) }

pub but_then : (v : ℕ) (this : VolumeLog) (c d e : Config) → TrustsBut v this c d → TrustsStill d e → TrustsBut v this c e
but_then v this c d e one two = record { each = λ w log apart is. two.each w log (one.each w log apart is) }

pub again_logs : (v : ℕ) (log : VolumeLog) (c : Config) → TrustsStill c (lost v log false c)
again_logs v log c = record { each = trusting_more v log c }

-- ---- a plex that is held back

pub held_logs : (held : Option Held) (c : Config) → TrustsStill c (config_by held c)
held_logs None c = volumes_logs c (config_by None c) refl
held_logs (Some h) c = by_logs c (active_at h.vol h.plex c) (config_by (Some h) c) refl (stated_still h.vol h.plex Active (whole_of c h.vol h.plex) c)

pub back_logs : (v p : ℕ) (c d : GroupCore) → HeldBack v p c d → TrustsStill c.inner.config d.inner.config
back_logs v p c d (inl same) = subst (λ (x : GroupCore). TrustsStill c.inner.config x.inner.config) (sym same.0) (same_logs c.inner.config)
back_logs v p c d (inr held) = subst (λ (x : GroupCore). TrustsStill c.inner.config x.inner.config) (sym held.0) (stated_still v p Stale (whole_of c.inner.config v p) c.inner.config)

pub close_logs : (held : Option Held) (c d : GroupCore) → HeldAgain held c d → TrustsStill c.inner.config d.inner.config
close_logs None c d same = subst (λ (x : GroupCore). TrustsStill c.inner.config x.inner.config) (sym same) (same_logs c.inner.config)
close_logs (Some h) c d back = back_logs h.vol h.plex c d back

-- a call over the parts of a group, for which the plex is ACTIVE that is held back before and behind it
module _ (c mid e new : GroupCore) (x : Inner) (held : Option Held) (is : x ≡ wide mid) (again : HeldAgain held e new) (first : TrustsStill c.inner.config mid.inner.config) where
  opened : TrustsStill c.inner.config x.config
  opened = then_logs c.inner.config mid.inner.config x.config first (subst (λ (i : Inner). TrustsStill mid.inner.config i.config) (sym is) (held_logs mid.held mid.inner.config))

  pub through_logs : TrustsStill x.config e.inner.config → TrustsStill c.inner.config new.inner.config
  through_logs second = then_logs c.inner.config x.config new.inner.config opened (then_logs x.config e.inner.config new.inner.config second (close_logs held e new again))

  pub through_but : (v : ℕ) (this : VolumeLog) → TrustsBut v this x.config e.inner.config → TrustsBut v this c.inner.config new.inner.config
  through_but v this second = then_but v this c.inner.config x.config new.inner.config opened (but_then v this x.config e.inner.config new.inner.config second (close_logs held e new again))
