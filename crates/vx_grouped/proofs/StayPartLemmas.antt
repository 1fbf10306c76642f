-- A call on a group that is refused, and has changed nothing, leaves what is noted of its maps.
use Rattle.std.proofs.Common.{◌≡◌, ◌∙◌, ◌-◌, ◌<◌, ◌≤◌, ◌&&◌, inl, inr, ℕ, Bool, true, false, List, ap, refl, sym, subst}
use Rattle.std.proofs.lemmas.Bool.{cases_lt}
use Rattle.std.specs.Prelude.{Option, None, Some, Err, not, is_some}
use Rattle.vx_config.specs.Table.{greatest}
use Rattle.vx_config.specs.declared.config.Config.{Config}
use Rattle.vx_config.specs.declared.entry.VolumeLog.TheVariants.{Fmr}
use Rattle.vx_disk.specs.Causes.{DeviceCause}
use Rattle.vx_disk.specs.Shelf.{Meaning}
use Rattle.vx_disk.specs.declared.shelf.Shelf.{Ghosts}
use Rattle.vx_fmr.specs.Missed.{Missed}
use Rattle.vx_group.specs.Dets.{margin}
use Rattle.vx_group.specs.Makes.{Unmoved}
use Rattle.vx_history.specs.Groups.{MissedNote}
use Rattle.vx_loggroup.specs.Attaching.{MapsHeld, fmr_at, fmr_or}
use Rattle.vx_loggroup.specs.LoggedVolumes.{is_alike}
use Rattle.vx_loggroup.specs.Moving.{goes_by}
use Rattle.vx_groupmaps.specs.Loading.{on_failed_disk}
use Rattle.vx_logs.specs.declared.logs.Logs.{Logs}
use Rattle.vx_model.specs.declared.errors.Stop.{Stop}
use Rattle.vx_model.specs.declared.errors.Stop.TheVariants.{No as Refused, OutOfMemory}
use Rattle.vx_model.specs.declared.no.No.{No}
use Rattle.vx_model.specs.declared.no.No.TheVariants.{Device, Down as IsOff}
use Rattle.vx_grouped.specs.MapsNoted.{MapsNoted}
use Rattle.vx_grouped.specs.PlainMaps.{PartsStay, laid_parts, map_parts}
use Rattle.vx_grouped.specs.SiteEnds.{stops_down}
use Rattle.vx_grouped.specs.SiteMaps.{MapsQuiet, StaysMapped}
use Rattle.vx_grouped.specs.declared.group_site.GroupSite.TheVariants.{Up}
use Rattle.vx_grouped.specs.declared.laid.Laid.{Laid}

-- ---- parts that are noted alike

module _ (c : Config) (l k : List Logs) (a b : List Bool) (s t : Bool) (goes : (v : ℕ) → goes_by k c t v ≡ goes_by l c s v) (same : (v : ℕ) → goes_by l c s v ≡ true → fmr_at k v ≡ fmr_at l v) (flags : (v : ℕ) → is_alike a v ≡ true → is_alike b v ≡ true) where
  stay_noted : (w : MissedNote) → MapsNoted w c l a s → MapsNoted w c k b t
  stay_noted w noted = record {
    mapped = λ v. noted.mapped v ∙ sym (goes v);
    most = λ v p r f on at it has. noted.most v p r f on (sym (same v (sym (noted.mapped v) ∙ on)) ∙ at) it has;
    least = λ v p r f on at it off has. noted.least v p r f on (sym (same v (sym (noted.mapped v) ∙ on)) ∙ at) it off has;
    alike = λ v low sure. flags v (noted.alike v low sure);
    serial = noted.serial;
  }

  pub parts_stay : (d : Config) → d ≡ c → PartsStay (map_parts c l a s) (map_parts d k b t)
  parts_stay d config = record { config = config; so = λ w noted. subst (λ (x : Config). MapsNoted w x k b t) (sym config) (stay_noted w noted) }

-- by maps that are the same
goes_same : (l k : List Logs) (c : Config) (s t : Bool) (v : ℕ) → fmr_at k v ≡ fmr_at l v → t ≡ s → goes_by k c t v ≡ goes_by l c s v
goes_same l k c s t v map stopped = ap (λ (o : Option Missed). not t && (not (on_failed_disk c v Fmr) && is_some o)) map ∙ ap (λ (x : Bool). not x && (not (on_failed_disk c v Fmr) && is_some (fmr_at l v))) stopped

pub stay_left : (c d : Config) (l k : List Logs) (a b : List Bool) (s t : Bool) → ((v : ℕ) → fmr_at k v ≡ fmr_at l v) → ((v : ℕ) → is_alike a v ≡ true → is_alike b v ≡ true) → t ≡ s → d ≡ c → PartsStay (map_parts c l a s) (map_parts d k b t)
stay_left c d l k a b s t left flags stopped config = parts_stay c l k a b s t (λ v. goes_same l k c s t v (left v) stopped) (λ v on. left v) flags d config

pub stay_same : (c d : Config) (l k : List Logs) (a b : List Bool) (s t : Bool) → k ≡ l → b ≡ a → t ≡ s → d ≡ c → PartsStay (map_parts c l a s) (map_parts d k b t)
stay_same c d l k a b s t logs flags stopped config = stay_left c d l k a b s t (λ v. ap (λ (ls : List Logs). fmr_at ls v) logs) (λ v is. ap (λ (z : List Bool). is_alike z v) flags ∙ is) stopped config

-- where the maps on disks that are held as failed are given up
off_by : (x y z : Bool) → y ≡ true → (not x && (not y && z)) ≡ false
off_by true y z is = refl
off_by false true z is = refl
off_by false false z is = absurd (let clash : false ≡ true = is in cc)

pub stay_held : (c d : Config) (l k : List Logs) (a b : List Bool) (s t : Bool) → MapsHeld c l k → b ≡ a → t ≡ s → d ≡ c → PartsStay (map_parts c l a s) (map_parts d k b t)
stay_held c d l k a b s t held flags stopped config = parts_stay c l k a b s t (λ v. goes v (on_failed_disk c v Fmr) refl) (λ v on. map v on (on_failed_disk c v Fmr) refl) (λ v is. ap (λ (z : List Bool). is_alike z v) flags ∙ is) d config
  where
    goes : (v : ℕ) (x : Bool) → on_failed_disk c v Fmr ≡ x → goes_by k c t v ≡ goes_by l c s v
    goes v true is = off_by t (on_failed_disk c v Fmr) (is_some (fmr_at k v)) is ∙ sym (off_by s (on_failed_disk c v Fmr) (is_some (fmr_at l v)) is)
    goes v false is = goes_same l k c s t v (ap fmr_or (held.same v is)) stopped

    map : (v : ℕ) → goes_by l c s v ≡ true → (x : Bool) → on_failed_disk c v Fmr ≡ x → fmr_at k v ≡ fmr_at l v
    map v on true is = absurd (let clash : false ≡ true = sym (off_by s (on_failed_disk c v Fmr) (is_some (fmr_at l v)) is) ∙ on in cc)
    map v on false is = ap fmr_or (held.same v is)

-- ---- refusals by which nothing changes

quiet_any : (P : Type 0) (stop : Stop) → P → MapsQuiet stop P
quiet_any P (Refused (Device disk)) it = tt
quiet_any P (Refused IsOff) it = tt
quiet_any P (Refused other) it = it
quiet_any P OutOfMemory it = it

pub quiet_map : (P Q : Type 0) (stop : Stop) → (P → Q) → MapsQuiet stop P → MapsQuiet stop Q
quiet_map P Q (Refused (Device disk)) f it = tt
quiet_map P Q (Refused IsOff) f it = tt
quiet_map P Q (Refused other) f it = f it
quiet_map P Q OutOfMemory f it = f it

pub quiet_down : (P : Type 0) (stop : Stop) → stops_down stop ≡ true → MapsQuiet stop P
quiet_down P (Refused (Device disk)) down = tt
quiet_down P (Refused IsOff) down = tt
quiet_down P (Refused other) down = absurd (let clash : false ≡ true = down in cc)
quiet_down P OutOfMemory down = absurd (let clash : false ≡ true = down in cc)

quiet_cause : (P : Type 0) (m m' : Meaning) (why : No) → DeviceCause m m' why → MapsQuiet (Refused why) P
quiet_cause P m m' (Device disk) cause = tt
quiet_cause P m m' IsOff cause = tt
quiet_cause P m m' other cause = absurd cause

-- by a test that refuses
pub quiet_test : (P : Type 0) (m m' : Meaning) (o : Option No) (why : No) → ((no : No) → o ≡ Some no → P) → (o ≡ None → DeviceCause m m' why) → MapsQuiet (Refused why) P
quiet_test P m m' None why stays cause = quiet_cause P m m' why (cause refl)
quiet_test P m m' (Some which) why stays cause = quiet_any P (Refused why) (stays which refl)

pub quiet_unmoved : (A P : Type 0) (stop : Stop) → (A → P) → Unmoved {T = ℕ} (Err stop) A → MapsQuiet stop P
quiet_unmoved A P (Refused (Device disk)) f it = tt
quiet_unmoved A P (Refused IsOff) f it = tt
quiet_unmoved A P (Refused other) f it = f it
quiet_unmoved A P OutOfMemory f it = f it

-- for want of serials
pub quiet_serial : (P : Type 0) (m m' : Meaning) (serial : ℕ) (why : No) → (greatest - margin < serial → P) → (serial ≤ greatest - margin → DeviceCause m m' why) → MapsQuiet (Refused why) P
quiet_serial P m m' serial why stays cause = elim (cases_lt (greatest - margin) serial) [
  | inl lt ↦ quiet_any P (Refused why) (stays lt)
  | inr le ↦ quiet_cause P m m' why (cause le)
]

-- ---- of a site

module _ {R : Type 0} {g : Ghosts R} where
  pub stays_up : (old new : Laid R g) → PartsStay (laid_parts old) (laid_parts new) → StaysMapped (Up old) (Up new)
  stays_up old new stay = λ note it. record {
    config = it.config;
    is = it.is;
    spells = it.spells;
    up = λ c is. it.up c (sym (ap (λ (x : Config). Some x) stay.config) ∙ is);
    maps =
        let same : old.core.inner.config ≡ it.config = it.up old.core.inner.config refl in
        subst (λ (x : Config). MapsNoted note.maps x new.logs.items new.alike new.stopped) (stay.config ∙ same)
        (stay.so note.maps (subst (λ (x : Config). MapsNoted note.maps x old.logs.items old.alike old.stopped) (sym same) it.maps));
  }
