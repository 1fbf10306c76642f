-- What two calls in a row make of the maps of missed regions in memory: a write, and the flush that makes it durable.
use Rattle.std.proofs.Common.{◌≡◌, ◌⊎◌, ◌≤◌, ◌+◌, ℕ, Bool, true, false, List, refl, sym, ◌∙◌, ap, IsTrue, inl, inr, arith}
use Rattle.std.specs.Prelude.{Option, Some, None}
use Rattle.vx_config.specs.Table.{greatest}
use Rattle.vx_config.specs.declared.config.Config.{Config}
use Rattle.vx_config.specs.declared.entry.Subdisk.{Subdisk}
use Rattle.vx_config.specs.declared.entry.VolumeLog.{VolumeLog}
use Rattle.vx_disk.proofs.Causing.{Rose_after, Rose_before}
use Rattle.vx_disk.specs.Counts.{Rose}
use Rattle.vx_disk.specs.Shelf.{Meaning}
use Rattle.vx_fmr.specs.Missed.{Missed, has_missed}
use Rattle.vx_group.specs.declared.group_core.GroupCore.{GroupCore}
use Rattle.vx_kept.specs.LogRuns.{log_place}
use Rattle.vx_logs.specs.declared.logs.Logs.{Logs}
use Rattle.vx_volume.specs.Plexes.{active}
use Rattle.vx_loggroup.specs.Attaching.{fmr_at}
use Rattle.vx_loggroup.specs.Keeping.{LogsKeep, uses_log}
use Rattle.vx_loggroup.specs.Moving.{IsThere, MapsBeginIn, MapsDoubt, MapsFlushed, MapsMove, goes_by, missed_by, missed_in}

-- ---- what the maps have

-- from configuration c over e to d; no map begins in the second call, and in neither a plex comes to take part
module _ (c e d : Config) (these anew : ℕ → ℕ → Bool) (l j k : List Logs) (there : (v p r : ℕ) → IsThere c v p r → IsThere e v p r) (middle : (v : ℕ) (g : Missed) → fmr_at k v ≡ Some g → (f : Missed) × (fmr_at j v ≡ Some f))
    (stays : (v p : ℕ) → active c v p ≡ false → active e v p ≡ false) (rests : (v p r : ℕ) (g : Missed) → fmr_at k v ≡ Some g → these v r ≡ true → active e v p ≡ false → active d v p ≡ false) where
  -- the maps between them
  had_then : (v p r : ℕ) (f : Missed) → fmr_at j v ≡ Some f → missed_in j e v p r ≡ has_missed f p r
  had_then v p r f at = ap (λ (o : Option Missed). missed_by o (active e v p) p r) at

  -- a plex that went off did so in the first or in the second call
  off_by : (v p : ℕ) → (active c v p ≡ true → active e v p ≡ false → anew v p ≡ false) → (active e v p ≡ true → active d v p ≡ false → anew v p ≡ false) → active c v p ≡ true → active d v p ≡ false → anew v p ≡ false
  off_by v p first second on away = by (active e v p) refl
    where
      by : (x : Bool) → active e v p ≡ x → anew v p ≡ false
      by true is = second is away
      by false is = first on is

  -- both are done
  module _ (first : MapsMove c e these anew l j) (second : MapsFlushed e d these anew j k) where
    most_then : (v p r : ℕ) (g : Missed) → fmr_at k v ≡ Some g → IsThere c v p r → has_missed g p r ≡ true
        → ((active d v p ≡ false) × (these v r ≡ true)) ⊎ ((active c v p ≡ true → active d v p ≡ false → anew v p ≡ false) × (missed_in l c v p r ≡ true))
    most_then v p r g at it has = by (second.most v p r g at (there v p r it) has)
      where
        before : (active e v p ≡ true → active d v p ≡ false → anew v p ≡ false) → ((active e v p ≡ false) × (these v r ≡ true)) ⊎ ((active c v p ≡ true → active e v p ≡ false → anew v p ≡ false) × (missed_in l c v p r ≡ true))
            → ((active d v p ≡ false) × (these v r ≡ true)) ⊎ ((active c v p ≡ true → active d v p ≡ false → anew v p ≡ false) × (missed_in l c v p r ≡ true))
        before later (inl (off, here)) = inl (rests v p r g at here off, here)
        before later (inr (keeps, was)) = inr (off_by v p keeps later, was)

        by : ((active d v p ≡ false) × (these v r ≡ true)) ⊎ ((active e v p ≡ true → active d v p ≡ false → anew v p ≡ false) × (missed_in j e v p r ≡ true))
            → ((active d v p ≡ false) × (these v r ≡ true)) ⊎ ((active c v p ≡ true → active d v p ≡ false → anew v p ≡ false) × (missed_in l c v p r ≡ true))
        by (inl here) = inl here
        by (inr (keeps, was)) = let f = middle v g at in before keeps (first.most v p r f.0 f.1 it (sym (had_then v p r f.0 f.1) ∙ was))

    stay_then : (v p r : ℕ) (g : Missed) → fmr_at k v ≡ Some g → IsThere c v p r → active c v p ≡ false → active d v p ≡ false → missed_in l c v p r ≡ true → has_missed g p r ≡ true
    stay_then v p r g at it was off has =
        let f = middle v g at in
        let away = stays v p was in
        second.stay v p r g at (there v p r it) away off (had_then v p r f.0 f.1 ∙ first.stay v p r f.0 f.1 it was away has)

    least_then : (v p r : ℕ) (g : Missed) → fmr_at k v ≡ Some g → IsThere c v p r → active d v p ≡ false → these v r ≡ true → has_missed g p r ≡ true
    least_then v p r g at it off here = by (active e v p) refl
      where
        by : (x : Bool) → active e v p ≡ x → has_missed g p r ≡ true
        by true on = second.least v p r g at (there v p r it) on off here
        by false away = let f = middle v g at in second.stay v p r g at (there v p r it) away off (had_then v p r f.0 f.1 ∙ first.least v p r f.0 f.1 it away here)

    pub moves_then : MapsMove c d these anew l k
    moves_then = record { most = most_then; least = least_then; stay = stay_then }

  -- the second was refused
  module _ (first : MapsMove c e these anew l j) (second : MapsDoubt e d these j k) where
    doubt_then : (v p r : ℕ) (g : Missed) → fmr_at k v ≡ Some g → IsThere c v p r → has_missed g p r ≡ true → (these v r ≡ true) ⊎ (missed_in l c v p r ≡ true)
    doubt_then v p r g at it has = by (second.most v p r g at (there v p r it) has)
      where
        before : ((active e v p ≡ false) × (these v r ≡ true)) ⊎ ((active c v p ≡ true → active e v p ≡ false → anew v p ≡ false) × (missed_in l c v p r ≡ true)) → (these v r ≡ true) ⊎ (missed_in l c v p r ≡ true)
        before (inl (off, here)) = inl here
        before (inr (keeps, was)) = inr was

        by : (these v r ≡ true) ⊎ (missed_in j e v p r ≡ true) → (these v r ≡ true) ⊎ (missed_in l c v p r ≡ true)
        by (inl here) = inl here
        by (inr was) = let f = middle v g at in before (first.most v p r f.0 f.1 it (sym (had_then v p r f.0 f.1) ∙ was))

    pub doubts_then : MapsDoubt c d these l k
    doubts_then = record {
      most = doubt_then;
      stay = λ v p r g at it was off has.
          let f = middle v g at in
          let away = stays v p was in
          second.stay v p r g at (there v p r it) away off (had_then v p r f.0 f.1 ∙ first.stay v p r f.0 f.1 it was away has);
    }

-- ---- by which maps attaches go

-- none begin in the second call
pub begins_then : (may : ℕ → Bool) (c e d : Config) (s u t : Bool) (l j k : List Logs) → MapsBeginIn may c e s u l j → MapsBeginIn (λ v. false) e d u t j k → MapsBeginIn may c d s t l k
begins_then may c e d s u t l j k first second = record { so = λ v off on. by v off on (goes_by j e u v) refl }
  where
    by : (v : ℕ) → goes_by l c s v ≡ false → goes_by k d t v ≡ true → (x : Bool) → goes_by j e u v ≡ x → (may v ≡ true) × (fmr_at l v ≡ None)
    by v off on true is = first.so v off is
    by v off on false is = let clash : false ≡ true = (second.so v is on).0 in cc

-- a log in use stays in use, where serials do not fall in the second call
pub keeps_then : (c e d : GroupCore) (l j k : List Logs) (m n o : Meaning) → ((v : ℕ) (log : VolumeLog) (s : Subdisk) → log_place c.inner.config v log ≡ Some s → log_place e.inner.config v log ≡ Some s)
    → ((u : ℕ) → m.faults u ≤ n.faults u) → ((u : ℕ) → n.faults u ≤ o.faults u) → (IsTrue n.down → IsTrue o.down) → e.inner.config.serial ≤ d.inner.config.serial → LogsKeep c e l j m n → LogsKeep e d j k n o → LogsKeep c d l k m o
keeps_then c e d l j k m n o places risen rises falls later first second = record { each = λ v log s at uses. by v log s at (first.each v log s at uses) }
  where
    after : (v : ℕ) (log : VolumeLog) (s : Subdisk) → (uses_log d.inner.config k v log ≡ true) ⊎ Rose (n.faults s.disk) (o.faults s.disk) ⊎ IsTrue o.down ⊎ (greatest ≤ d.inner.config.serial + 9)
        → (uses_log d.inner.config k v log ≡ true) ⊎ Rose (m.faults s.disk) (o.faults s.disk) ⊎ IsTrue o.down ⊎ (greatest ≤ d.inner.config.serial + 9)
    after v log s (inl uses) = inl uses
    after v log s (inr (inl rose)) = inr (inl (Rose_before (m.faults s.disk) (n.faults s.disk) (o.faults s.disk) (risen s.disk) rose))
    after v log s (inr (inr (inl down))) = inr (inr (inl down))
    after v log s (inr (inr (inr far))) = inr (inr (inr far))

    by : (v : ℕ) (log : VolumeLog) (s : Subdisk) → log_place c.inner.config v log ≡ Some s → (uses_log e.inner.config j v log ≡ true) ⊎ Rose (m.faults s.disk) (n.faults s.disk) ⊎ IsTrue n.down ⊎ (greatest ≤ e.inner.config.serial + 9)
        → (uses_log d.inner.config k v log ≡ true) ⊎ Rose (m.faults s.disk) (o.faults s.disk) ⊎ IsTrue o.down ⊎ (greatest ≤ d.inner.config.serial + 9)
    by v log s at (inl uses) = after v log s (second.each v log s (places v log s at) uses)
    by v log s at (inr (inl rose)) = inr (inl (Rose_after (m.faults s.disk) (n.faults s.disk) (o.faults s.disk) rose (rises s.disk)))
    by v log s at (inr (inr (inl down))) = inr (inr (inl (falls down)))
    by v log s at (inr (inr (inr far))) = inr (inr (inr (omega (arith, far, later))))
