-- Maps of missed regions that come to memory in a call, only where none were; and calls in which none change.
use Rattle.std.proofs.Common.{◌≡◌, ◌∙◌, ◌⊎◌, ◌&&◌, ℕ, zero, suc, Bool, true, false, List, [], ◌∷◌, ◌++◌, refl, sym, ap, inl, inr}
use Rattle.std.specs.Prelude.{Option, Some, None, is_some, not, slice_get}
use Rattle.std.proofs.lemmas.Bool.{cases_eq, eq-eqb}
use Rattle.vx_config.specs.declared.config.Config.{Config}
use Rattle.vx_config.specs.declared.entry.DiskEntry.{DiskEntry}
use Rattle.vx_config.specs.declared.entry.LogEntry.{LogEntry}
use Rattle.vx_config.specs.declared.entry.Subdisk.{Subdisk}
use Rattle.vx_config.specs.declared.entry.VolumeLog.TheVariants.{Fmr}
use Rattle.vx_copies.specs.Marks.{failed_at}
use Rattle.vx_fmr.specs.Missed.{Missed}
use Rattle.vx_grouplogs.specs.Gone.{has_log}
use Rattle.vx_groupmaps.specs.Loading.{failed_under, held_failed, on_failed_disk}
use Rattle.vx_kept.specs.LogRuns.{log_place, log_trusted}
use Rattle.vx_logged.specs.Logged.{TrustsIn}
use Rattle.vx_logs.specs.declared.logs.Logs.{Logs}
use Rattle.vx_maplog.specs.Logs.{log_of, used_or}
use Rattle.vx_loggroup.specs.Attaching.{MapsHeld, fmr_at, fmr_or}
use Rattle.vx_loggroup.specs.Keeping.{logs_at, logs_or}
use Rattle.vx_loggroup.specs.Moving.{MapsBeginIn, MapsMove, goes_by, in_none, no_volume, only_volume}
use Rattle.vx_loggroup.proofs.AlikeLemmas.{going_back}
use Rattle.vx_loggroup.proofs.EndedLemmas.{KeptLog, failed_entry, first_b, kept_log, none_b, place_of, second_b, third_b}
use Rattle.vx_loggroup.proofs.FreshLemmas.{none_of}
use Rattle.vx_loggroup.proofs.MovedLemmas.{move_none}

left_is : (x y : Bool) → (not x && y) ≡ true → x ≡ false
left_is true y is = let clash : false ≡ true = is in cc
left_is false y is = refl

both_is : (x y : Bool) → x ≡ false → y ≡ true → (not x && y) ≡ true
both_is true y off on = let clash : true ≡ false = off in cc
both_is false y off on = on

entry_failed : (disks : List DiskEntry) (u : ℕ) (e : LogEntry) → e.lost ≡ false → failed_at disks u ≡ true → held_failed e (slice_get disks u) ≡ true
entry_failed [] u e kept is = absurd (let clash : false ≡ true = is in cc)
entry_failed (d ∷ disks) zero e kept is = both_is e.lost d.failed kept is
entry_failed (d ∷ disks) (suc u) e kept is = entry_failed disks u e kept is

trusted_from : (c : Config) (v : ℕ) (e : LogEntry) → log_of c v Fmr ≡ Some e → e.lost ≡ false → log_trusted c v Fmr ≡ true
unfolding log_trusted
trusted_from c v e at kept = ap used_or at ∙ ap not kept

-- maps in memory are of a log that is trusted still, where it was
pub trusts_maps : (v : ℕ) (c d : Config) (k : List Logs) → TrustsIn v (logs_at k v) c d → (w : ℕ) → is_some (fmr_at k w) ≡ true → log_trusted c w Fmr ≡ true → log_trusted d w Fmr ≡ true
trusts_maps v c d k trusts w some told = trusts.each w Fmr (λ same. has (slice_get k v) refl (ap (λ (x : ℕ). is_some (fmr_at k x)) (sym same) ∙ some)) told
  where
    has : (o : Option Logs) → slice_get k v ≡ o → is_some (fmr_at k v) ≡ true → has_log Fmr (logs_at k v) ≡ true
    has None at is = absurd (let clash : false ≡ true = sym (ap (λ (x : Option Logs). is_some (fmr_or x)) at) ∙ is in cc)
    has (Some l) at is = ap (λ (x : Option Logs). has_log Fmr (logs_or x)) at ∙ sym (ap (λ (x : Option Logs). is_some (fmr_or x)) at) ∙ is

module _ (c d : Config) (k : List Logs) (places : (v : ℕ) (r : Subdisk) → log_place c v Fmr ≡ Some r → log_place d v Fmr ≡ Some r) (fails : (u : ℕ) → failed_at c.disks u ≡ true → failed_at d.disks u ≡ true)
    (trusts : (v : ℕ) → is_some (fmr_at k v) ≡ true → log_trusted c v Fmr ≡ true → log_trusted d v Fmr ≡ true) where
  same_place : (v : ℕ) (e f : LogEntry) → log_of c v Fmr ≡ Some e → log_of d v Fmr ≡ Some f → f.disk ≡ e.disk
  same_place v e f at now =
      let both : Some (record { disk = f.disk; start = f.start; blocks = f.blocks }) ≡ Some (record { disk = e.disk; start = e.start; blocks = e.blocks }) =
      sym (place_of d v f now) ∙ places v (record { disk = e.disk; start = e.start; blocks = e.blocks }) (place_of c v e at) in
      ap (λ (r : Option Subdisk). disk_of r) both
    where
      disk_of : Option Subdisk → ℕ
      disk_of None = 0
      disk_of (Some r) = r.disk

  -- maps in memory that lay on a disk that is held as failed do so still
  failed_still : (v : ℕ) → is_some (fmr_at k v) ≡ true → on_failed_disk c v Fmr ≡ true → on_failed_disk d v Fmr ≡ true
  failed_still v some is = by (log_of c v Fmr) refl is
    where
      by : (o : Option LogEntry) → log_of c v Fmr ≡ o → failed_under c.disks o ≡ true → on_failed_disk d v Fmr ≡ true
      by None at is = absurd (let clash : false ≡ true = is in cc)
      by (Some e) at is = held (slice_get c.disks e.disk) refl is
        where
          behind : e.lost ≡ false → failed_at c.disks e.disk ≡ true → on_failed_disk d v Fmr ≡ true
          behind kept failed =
              let now : KeptLog d v = kept_log d v (trusts v some (trusted_from c v e at kept)) in
              ap (failed_under d.disks) now.is
              ∙ entry_failed d.disks now.entry.disk now.entry now.kept (ap (failed_at d.disks) (same_place v e now.entry at now.is) ∙ fails e.disk failed)

          held : (o : Option DiskEntry) → slice_get c.disks e.disk ≡ o → held_failed e o ≡ true → on_failed_disk d v Fmr ≡ true
          held None none is = absurd (let clash : false ≡ true = is in cc)
          held (Some x) some is = behind (left_is e.lost x.failed is) (failed_entry c.disks e.disk e (ap (held_failed e) some ∙ is))

  pub maps_come : (may : ℕ → Bool) (l : List Logs) (s t : Bool) → (s ≡ true → t ≡ true) → ((v : ℕ) → is_some (fmr_at k v) ≡ true → fmr_at l v ≡ None → may v ≡ true) → MapsBeginIn may c d s t l k
  maps_come may l s t stays new = record { so = λ v off on. behind v off on (third_b t (on_failed_disk d v Fmr) (is_some (fmr_at k v)) on) (on_failed_disk c v Fmr) refl }
    where
      gone : (v : ℕ) → goes_by l c s v ≡ false → s ≡ false → on_failed_disk c v Fmr ≡ false → fmr_at l v ≡ None
      gone v off going good = none_of (fmr_at l v) (none_b (on_failed_disk c v Fmr) (is_some (fmr_at l v)) (none_b s (not (on_failed_disk c v Fmr) && is_some (fmr_at l v)) off going) good)

      behind : (v : ℕ) → goes_by l c s v ≡ false → goes_by k d t v ≡ true → is_some (fmr_at k v) ≡ true → (x : Bool) → on_failed_disk c v Fmr ≡ x → (may v ≡ true) × (fmr_at l v ≡ None)
      behind v off on some true is = absurd (let clash : false ≡ true = sym (second_b t (on_failed_disk d v Fmr) (is_some (fmr_at k v)) on) ∙ failed_still v some is in cc)
      behind v off on some false is = let none = gone v off (going_back s t stays (first_b t (on_failed_disk d v Fmr) (is_some (fmr_at k v)) on)) is in (new v some none, none)

-- of a call on one volume
pub new_here : (vol : ℕ) (l k : List Logs) → ((w : ℕ) → (w ≡ vol → ⊥) → fmr_at k w ≡ fmr_at l w) → (v : ℕ) → is_some (fmr_at k v) ≡ true → fmr_at l v ≡ None → only_volume vol v ≡ true
new_here vol l k others v some none = elim (cases_eq v vol) [
  | inl here ↦ eq-eqb v vol here
  | inr apart ↦ absurd (let clash : false ≡ true = sym (ap (λ (o : Option Missed). is_some o) (others v apart ∙ none)) ∙ some in cc)
]

-- of one in which no maps begin
pub new_none : (l k : List Logs) → ((w : ℕ) → fmr_at l w ≡ None → fmr_at k w ≡ None) → (v : ℕ) → is_some (fmr_at k v) ≡ true → fmr_at l v ≡ None → no_volume v ≡ true
new_none l k gone v some none = absurd (let clash : false ≡ true = sym (ap (λ (o : Option Missed). is_some o) (gone v none)) ∙ some in cc)

pub gone_by : (vol : ℕ) (l k : List Logs) → (fmr_at l vol ≡ None → fmr_at k vol ≡ None) → ((w : ℕ) → (w ≡ vol → ⊥) → fmr_at k w ≡ fmr_at l w) → (w : ℕ) → fmr_at l w ≡ None → fmr_at k w ≡ None
gone_by vol l k here others w none = elim (cases_eq w vol) [
  | inl same ↦ ap (fmr_at k) same ∙ here (ap (fmr_at l) (sym same) ∙ none)
  | inr apart ↦ others w apart ∙ none
]

-- ---- an attach

-- where none are in memory of which the disk is held as failed, and no others that were not
module _ (c d : Config) (l k : List Logs) (gone : (v : ℕ) → on_failed_disk c v Fmr ≡ true → fmr_at k v ≡ None) (same : (v : ℕ) → on_failed_disk c v Fmr ≡ false → fmr_at l v ≡ None → fmr_at k v ≡ None) where
  pub att_comes : (s : Bool) → MapsBeginIn no_volume c d s s l k
  att_comes s = record { so = λ v off on. absurd (by v off on (on_failed_disk c v Fmr) refl) }
    where
      goes_all : (x y z : Bool) → x ≡ false → y ≡ false → z ≡ true → (not x && (not y && z)) ≡ true
      goes_all false false z going good some = some
      goes_all false true z going good some = let clash : true ≡ false = good in cc
      goes_all true y z going good some = let clash : true ≡ false = going in cc

      some_of : (o q : Option Missed) → (o ≡ None → q ≡ None) → is_some q ≡ true → is_some o ≡ true
      some_of None q none is = absurd (let clash : false ≡ true = sym (ap (λ (x : Option Missed). is_some x) (none refl)) ∙ is in cc)
      some_of (Some f) q none is = refl

      by : (v : ℕ) → goes_by l c s v ≡ false → goes_by k d s v ≡ true → (x : Bool) → on_failed_disk c v Fmr ≡ x → ⊥
      by v off on true is = let clash : false ≡ true = sym (ap (λ (o : Option Missed). is_some o) (gone v is)) ∙ third_b s (on_failed_disk d v Fmr) (is_some (fmr_at k v)) on in cc
      by v off on false is =
          let some : is_some (fmr_at l v) ≡ true = some_of (fmr_at l v) (fmr_at k v) (same v is) (third_b s (on_failed_disk d v Fmr) (is_some (fmr_at k v)) on) in
          let clash : false ≡ true = sym off ∙ goes_all s (on_failed_disk c v Fmr) (is_some (fmr_at l v)) (first_b s (on_failed_disk d v Fmr) (is_some (fmr_at k v)) on) is some in
          cc

module _ (c d : Config) (l k : List Logs) (held : MapsHeld c l k) where
  held_same : (v : ℕ) (x : Bool) → on_failed_disk c v Fmr ≡ x → (fmr_at k v ≡ fmr_at l v) ⊎ (fmr_at k v ≡ None)
  held_same v true is = inr (held.gone v is)
  held_same v false is = inl (ap fmr_or (held.same v is))

  pub held_moves : MapsMove c d in_none in_none l k
  held_moves = move_none c d l k (λ v. held_same v (on_failed_disk c v Fmr) refl)

  pub held_comes : (s : Bool) → MapsBeginIn no_volume c d s s l k
  held_comes = att_comes c d l k held.gone (λ v good none. ap fmr_or (held.same v good) ∙ none)

-- ---- a volume that is made

-- its logs are not in memory
pub more_maps : (ls : List Logs) (l : Logs) → l.fmr ≡ None → (v : ℕ) → fmr_at (ls ++ (l ∷ [])) v ≡ fmr_at ls v
more_maps [] l none zero = none
more_maps [] l none (suc v) = refl
more_maps (x ∷ ls) l none zero = refl
more_maps (x ∷ ls) l none (suc v) = more_maps ls l none v

pub new_same : (l k : List Logs) → ((w : ℕ) → fmr_at k w ≡ fmr_at l w) → (v : ℕ) → is_some (fmr_at k v) ≡ true → fmr_at l v ≡ None → no_volume v ≡ true
new_same l k same = new_none l k (λ w none. same w ∙ none)
