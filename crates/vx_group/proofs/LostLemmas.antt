-- A commit that loses a log, over the core of a group.
use Rattle.std.proofs.Common.{◌≡◌, ℕ, true, false, Option, Some, None, List, length, refl, ap, sym, ◌∙◌, subst, arith}
use Rattle.std.specs.Prelude.{IfOk, Result, Ok, Err, slice_get}
use Rattle.vx_disk.specs.Shelf.{Meaning, Nothing}
use Rattle.vx_disk.specs.declared.shelf.ShelfError.{ShelfError}
use Rattle.vx_disk.specs.declared.shelf.ShelfError.TheVariants.{Fault, Down}
use Rattle.vx_config.specs.Changes.{lost, lost_as}
use Rattle.vx_config.specs.Configs.{CanSpell}
use Rattle.vx_config.specs.declared.config.Config.{Config}
use Rattle.vx_config.specs.declared.entry.LogEntry.{LogEntry}
use Rattle.vx_config.specs.declared.entry.VolumeEntry.{VolumeEntry}
use Rattle.vx_config.specs.declared.entry.VolumeLog.{VolumeLog}
use Rattle.vx_copies.specs.Answers.{good_set}
use Rattle.vx_copies.specs.Bodies.{is_wanted}
use Rattle.vx_copies.specs.Marks.{NoneGood}
use Rattle.vx_kept.specs.Commits.{Member, Taken}
use Rattle.vx_kept.specs.Keeping.{Acts, AllOn, Kept, SameShape, Sees}
use Rattle.vx_kept.specs.LogRuns.{log_trusted}
use Rattle.vx_kept.specs.Losses.{SamePlexes}
use Rattle.vx_kept.specs.Trusts.{Trusts}
use Rattle.vx_kept.proofs.Chosen.{active_volumes, alike_shape}
use Rattle.vx_kept.proofs.LosingLemmas.{active_same, loses, lost_plexes}
use Rattle.vx_kept.proofs.RunLemmas.{logs_volumes}
use Rattle.vx_layout.specs.Places.{plex_at, plex_in}
use Rattle.vx_maplog.specs.Logs.{log_of, used_or}
use Rattle.vx_volume.specs.Plexes.{active, active_or}
use Rattle.vx_group.specs.Blames.{Blames, BlamesOr}
use Rattle.vx_group.specs.GivesUp.{KeepsVolumes}
use Rattle.vx_group.specs.Moves.{Narrows}
use Rattle.vx_group.specs.Stands.{InnerStands}
use Rattle.vx_group.specs.declared.inner.Inner.{Inner}
use Rattle.vx_group.proofs.DetachLemmas.{some_good}
use Rattle.vx_group.proofs.Standing.{made, still_large}

-- ---- done

module _ (core e : Inner) (v : ℕ) (log : VolumeLog) (m m' : Meaning) (stands : InnerStands core m) (acts : Acts Nothing (Sees core.config (Member core.good m) m) m m')
    (wanted : is_wanted m'.units m'.size e.config ≡ true) (can : CanSpell e.config) (on : AllOn e.config) (faults : e.faults ≡ core.faults) (unsure : e.unsure ≡ core.unsure)
    (taken : Taken core.config (lost v log true core.config) e.config m m') (good : e.good ≡ good_set e.config.disks) where
  same : SamePlexes core.config (lost v log true core.config)
  same = lost_plexes v log core.config

  shape_was : SameShape e.config core.config
  shape_was = alike_shape e.config (lost v log true core.config) core.config taken.grown.volumes same.shape

  active_was : (x q : ℕ) → active e.config x q ≡ active core.config x q
  active_was x q = active_volumes e.config (lost v log true core.config) taken.grown.volumes x q ∙ active_same core.config (lost v log true core.config) same x q

  pub gone_Stands : Trusts e.committed e.agreed (good_set e.config.disks) m' → InnerStands e m'
  gone_Stands trusts = made e m' wanted can (let count = shape_was.volumes in let few = stands.few in omega (arith, count, few)) (λ x. let small = stands.small x in let at = shape_was.blocks x in omega (arith, small, at))
      (still_large m m' acts.units acts.size stands.large) on
      (subst (λ (g : ℕ). NoneGood e.config.disks (length e.config.disks) g → ⊥) (sym good) (some_good e.config.disks (good_set e.config.disks) taken.some))
      (subst (λ (g : ℕ). Kept e.config (Member g m') m') (sym good) taken.kept) (λ is. taken.tidy) (subst (λ (g : ℕ). Trusts e.committed e.agreed g m') (sym good) trusts)

  pub gone_Narrows : Narrows core e m m'
  gone_Narrows = record { acts = acts; shape = shape_was; on = λ x q is. sym (active_was x q) ∙ is; faults = faults; unsure = unsure }

-- ---- the configuration that is committed

module _ (v : ℕ) (log : VolumeLog) (c d : Config) (volumes : d.volumes ≡ (lost v log true c).volumes) where
  pub gone_plexes : (w p : ℕ) → plex_at d w p ≡ plex_at c w p
  gone_plexes w p = ap (λ (vs : List VolumeEntry). plex_in (slice_get vs w) p) volumes ∙ (lost_plexes v log c).plexes w p

  off_lost : (o : Option LogEntry) → used_or (lost_as true o) ≡ false
  off_lost None = refl
  off_lost (Some e) = refl

  pub gone_off : log_trusted d v log ≡ false
  unfolding log_trusted
  gone_off = ap used_or (logs_volumes d (lost v log true c) volumes v log ∙ (loses v log c).here) ∙ off_lost (log_of c v log)

  pub gone_others : (w : ℕ) (k : VolumeLog) → (w ≡ v → k ≡ log → ⊥) → log_of d w k ≡ log_of c w k
  gone_others w k apart = logs_volumes d (lost v log true c) volumes w k ∙ (loses v log c).others w k apart

pub left_plexes : (c d : Config) → d.volumes ≡ c.volumes → (w p : ℕ) → plex_at d w p ≡ plex_at c w p
left_plexes c d volumes w p = ap (λ (vs : List VolumeEntry). plex_in (slice_get vs w) p) volumes

-- plexes that are as they were are ACTIVE as they were
pub active_plexes : (c d : Config) → ((w p : ℕ) → plex_at d w p ≡ plex_at c w p) → (w p : ℕ) → active d w p ≡ active c w p
unfolding active
active_plexes c d same w p = ap active_or (same w p)

pub later_keeps : {T : Type 0} (b c d : Config) → c.volumes ≡ b.volumes → (r : Result T ShelfError) → KeepsVolumes c d r → KeepsVolumes b d r
later_keeps b c d volumes (Ok x) keeps = tt
later_keeps b c d volumes (Err (Fault disk)) keeps = keeps ∙ volumes
later_keeps b c d volumes (Err Down) keeps = tt

-- ---- answers

pub if_ok_from : {T E : Type 0} {P Q : T → Type 0} (r : Result T E) → ((x : T) → P x → Q x) → IfOk r P → IfOk r Q
if_ok_from (Ok x) f is = f x is
if_ok_from (Err error) f is = tt

pub error_to : (T U : Type 0) (error : ShelfError) (m m' : Meaning) → Blames {T = T} m m' (Err error) → Blames {T = U} m m' (Err error)
error_to T U (Fault disk) m m' why = why
error_to T U Down m m' why = why

pub or_to : (T U : Type 0) (device : ℕ) (error : ShelfError) (m m' : Meaning) → BlamesOr {T = T} device m m' (Err error) → BlamesOr {T = U} device m m' (Err error)
or_to T U device (Fault disk) m m' why = why
or_to T U device Down m m' why = why

pub keeps_to : (T U : Type 0) (c d : Config) (error : ShelfError) → KeepsVolumes {T = T} c d (Err error) → KeepsVolumes {T = U} c d (Err error)
keeps_to T U c d (Fault disk) same = same
keeps_to T U c d Down none = tt
