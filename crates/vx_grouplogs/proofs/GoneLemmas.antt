-- Logs that a call took out of memory: of calls in a row, behind marks, and behind marks that were taken off.
use Rattle.std.proofs.Common.{◌≡◌, ◌∙◌, ◌⊎◌, inl, inr, ℕ, ◌≤◌, Bool, true, false, Option, Some, None, IsTrue, refl, sym, ap, subst, is_some}
use Rattle.std.proofs.lemmas.Option.{same_Some}
use Rattle.std.specs.Prelude.{Err}
use Rattle.vx_config.specs.declared.config.Config.{Config}
use Rattle.vx_config.specs.declared.entry.LogEntry.{LogEntry}
use Rattle.vx_config.specs.declared.entry.Subdisk.{Subdisk}
use Rattle.vx_config.specs.declared.entry.VolumeLog.{VolumeLog}
use Rattle.vx_config.specs.declared.entry.VolumeLog.TheVariants.{Drl, Fmr}
use Rattle.vx_bitmap.specs.Maps.{Map}
use Rattle.vx_disk.specs.Counts.{Rose}
use Rattle.vx_disk.specs.Shelf.{Meaning}
use Rattle.vx_disk.proofs.Causing.{Rose_after, Rose_before}
use Rattle.vx_drl.specs.Dirty.{Dirty}
use Rattle.vx_fmr.specs.Missed.{Missed}
use Rattle.vx_kept.specs.LogRuns.{log_place, run_or}
use Rattle.vx_logs.specs.Dirtying.{DrlEnds}
use Rattle.vx_logs.specs.Held.{LogsFit, stale}
use Rattle.vx_logs.specs.Noting.{FmrAnswers, FmrEnds}
use Rattle.vx_logs.specs.Writes.{MarkedLogs}
use Rattle.vx_logs.specs.declared.logs.Logs.{Logs}
use Rattle.vx_logs.specs.declared.logs.Lost.{Lost}
use Rattle.vx_maplog.specs.Logs.{LogLoaded, log_of}
use Rattle.vx_model.specs.declared.no.No.{No}
use Rattle.vx_model.specs.declared.no.No.TheVariants as refusal
use Rattle.vx_grouplogs.specs.Clearing.{DrlEnding}
use Rattle.vx_grouplogs.specs.Gone.{LogsDrop, has_log}

-- ---- calls in a row

pub drop_same : (c : Config) (v : ℕ) (l : Logs) (old new : Meaning) → LogsDrop c v l l old new
drop_same c v l old new = record {
  gone = λ log s is has none. absurd (let clash : true ≡ false = sym has ∙ none in cc);
  none = λ log has. has;
}

-- two calls of which the second found the logs that the first left
pub drop_then : (c d : Config) (v : ℕ) (l k j : Logs) (m0 m1 m2 : Meaning) → ((log : VolumeLog) → log_place d v log ≡ log_place c v log) → ((u : ℕ) → m0.faults u ≤ m1.faults u) → ((u : ℕ) → m1.faults u ≤ m2.faults u) → (IsTrue m1.down → IsTrue m2.down)
    → LogsDrop c v l k m0 m1 → LogsDrop d v k j m1 m2 → LogsDrop c v l j m0 m2
drop_then c d v l k j m0 m1 m2 places first last falls one two = record {
  gone = λ log s is has none. by log s is has none (has_log log k) refl;
  none = λ log has. one.none log (two.none log has);
}
  where
    by : (log : VolumeLog) (s : Subdisk) → log_place c v log ≡ Some s → has_log log l ≡ true → has_log log j ≡ false → (b : Bool) → has_log log k ≡ b → Rose (m0.faults s.disk) (m2.faults s.disk) ⊎ IsTrue m2.down
    by log s is has none true at = elim (two.gone log s (places log ∙ is) at none) [
      | inl rose ↦ inl (Rose_before (m0.faults s.disk) (m1.faults s.disk) (m2.faults s.disk) (first s.disk) rose)
      | inr down ↦ inr down
    ]
    by log s is has none false at = elim (one.gone log s is has at) [
      | inl rose ↦ inl (Rose_after (m0.faults s.disk) (m1.faults s.disk) (m2.faults s.disk) rose (last s.disk))
      | inr down ↦ inr (falls down)
    ]

-- behind a call that left the logs alone
pub drop_behind : (c d : Config) (v : ℕ) (l k : Logs) (m0 m1 m2 : Meaning) → ((log : VolumeLog) → log_place d v log ≡ log_place c v log) → ((u : ℕ) → m0.faults u ≤ m1.faults u) → LogsDrop d v l k m1 m2 → LogsDrop c v l k m0 m2
drop_behind c d v l k m0 m1 m2 places rises drops = record {
  gone = λ log s is has none. elim (drops.gone log s (places log ∙ is) has none) [
    | inl rose ↦ inl (Rose_before (m0.faults s.disk) (m1.faults s.disk) (m2.faults s.disk) (rises s.disk) rose)
    | inr down ↦ inr down
  ];
  none = drops.none;
}

-- and before one
pub drop_before : (c : Config) (v : ℕ) (l k : Logs) (m0 m1 m2 : Meaning) → ((u : ℕ) → m1.faults u ≤ m2.faults u) → (IsTrue m1.down → IsTrue m2.down) → LogsDrop c v l k m0 m1 → LogsDrop c v l k m0 m2
drop_before c v l k m0 m1 m2 rises falls drops = record {
  gone = λ log s is has none. elim (drops.gone log s is has none) [
    | inl rose ↦ inl (Rose_after (m0.faults s.disk) (m1.faults s.disk) (m2.faults s.disk) rose (rises s.disk))
    | inr down ↦ inr (falls down)
  ];
  none = drops.none;
}

-- ---- the disk of a log in memory

placed_disk : (c : Config) (v : ℕ) (log : VolumeLog) (e : LogEntry) (s : Subdisk) → log_of c v log ≡ Some e → log_place c v log ≡ Some s → s.disk ≡ e.disk
unfolding log_place
placed_disk c v log e s is at = one (record { disk = e.disk; start = e.start; blocks = e.blocks }) s (sym (ap run_or is) ∙ at)
  where
    one : (t u : Subdisk) → Some t ≡ Some u → u.disk ≡ t.disk
    one t u same = cc

-- a count that rose, of the unit of a map
rose_at : (c : Config) (v : ℕ) (log : VolumeLog) (map : Map) (s : Subdisk) (m m' : Meaning) → LogLoaded c v log map → log_place c v log ≡ Some s → Rose (m.faults map.unit) (m'.faults map.unit) → Rose (m.faults s.disk) (m'.faults s.disk)
rose_at c v log map s m m' loaded at rose = subst (λ (u : ℕ). Rose (m.faults u) (m'.faults u)) (loaded.run.there ∙ sym (placed_disk c v log loaded.entry s loaded.is at)) rose

-- each log that is gone: the count of its map's unit rose, or the shelf is down
pub drops_of : (c : Config) (v : ℕ) (l k : Logs) (m m' : Meaning) → LogsFit c v l
    → ((d : Dirty) → l.drl ≡ Some d → k.drl ≡ None → Rose (m.faults d.map.unit) (m'.faults d.map.unit) ⊎ IsTrue m'.down) → (is_some k.drl ≡ true → is_some l.drl ≡ true)
    → ((f : Missed) → l.fmr ≡ Some f → k.fmr ≡ None → Rose (m.faults f.map.unit) (m'.faults f.map.unit) ⊎ IsTrue m'.down) → (is_some k.fmr ≡ true → is_some l.fmr ≡ true) → LogsDrop c v l k m m'
drops_of c v l k m m' fits drl drl_none fmr fmr_none = record { gone = gone; none = none }
  where
    dirty : (s : Subdisk) → log_place c v Drl ≡ Some s → (o n : Option Dirty) → l.drl ≡ o → k.drl ≡ n → is_some o ≡ true → is_some n ≡ false → Rose (m.faults s.disk) (m'.faults s.disk) ⊎ IsTrue m'.down
    dirty s at None n is now has no_more = absurd (let clash : false ≡ true = has in cc)
    dirty s at (Some d) (Some e) is now has no_more = absurd (let clash : true ≡ false = no_more in cc)
    dirty s at (Some d) None is now has no_more = elim (drl d is now) [
      | inl rose ↦ inl (rose_at c v Drl d.map s m m' (fits.drl d is).log at rose)
      | inr down ↦ inr down
    ]

    missed : (s : Subdisk) → log_place c v Fmr ≡ Some s → (o n : Option Missed) → l.fmr ≡ o → k.fmr ≡ n → is_some o ≡ true → is_some n ≡ false → Rose (m.faults s.disk) (m'.faults s.disk) ⊎ IsTrue m'.down
    missed s at None n is now has no_more = absurd (let clash : false ≡ true = has in cc)
    missed s at (Some f) (Some g) is now has no_more = absurd (let clash : true ≡ false = no_more in cc)
    missed s at (Some f) None is now has no_more = elim (fmr f is now) [
      | inl rose ↦ inl (rose_at c v Fmr f.map s m m' (fits.fmr f is).log at rose)
      | inr down ↦ inr down
    ]

    gone : (log : VolumeLog) (s : Subdisk) → log_place c v log ≡ Some s → has_log log l ≡ true → has_log log k ≡ false → Rose (m.faults s.disk) (m'.faults s.disk) ⊎ IsTrue m'.down
    gone Drl s at has no_more = dirty s at l.drl k.drl refl refl has no_more
    gone Fmr s at has no_more = missed s at l.fmr k.fmr refl refl has no_more

    none : (log : VolumeLog) → has_log log k ≡ true → has_log log l ≡ true
    none Drl has = drl_none has
    none Fmr has = fmr_none has

-- where the shelf is down nothing is said of those that are gone
pub drops_down : (c : Config) (v : ℕ) (l : Logs) (m m' : Meaning) → IsTrue m'.down → LogsDrop c v l (record { drl = None; fmr = None }) m m'
drops_down c v l m m' down = record { gone = λ log s is has none. inr down; none = none }
  where
    none : (log : VolumeLog) → has_log log (record { drl = None; fmr = None }) ≡ true → has_log log l ≡ true
    none Drl has = absurd (let clash : false ≡ true = has in cc)
    none Fmr has = absurd (let clash : false ≡ true = has in cc)

-- the maps alone are gone, and the shelf is down
pub drops_maps : (c : Config) (v : ℕ) (l k : Logs) (m m' : Meaning) → k.drl ≡ l.drl → k.fmr ≡ None → IsTrue m'.down → LogsDrop c v l k m m'
drops_maps c v l k m m' same gone down = record { gone = λ log s is has none. inr down; none = none }
  where
    none : (log : VolumeLog) → has_log log k ≡ true → has_log log l ≡ true
    none Drl has = sym (ap is_some same) ∙ has
    none Fmr has = absurd (let clash : false ≡ true = sym (ap is_some gone) ∙ has in cc)

-- ---- marks

drl_gone : (first last : ℕ) (lost : Bool) (o n : Option Dirty) (m m' : Meaning) → DrlEnds first last lost o n m m' → (d : Dirty) → o ≡ Some d → n ≡ None → Rose (m.faults d.map.unit) (m'.faults d.map.unit) ⊎ IsTrue m'.down
drl_gone first last lost None n m m' ends d is none = absurd (let clash : None ≡ Some d = is in cc)
drl_gone first last lost (Some e) (Some n) m m' ends d is none = absurd (let clash : Some n ≡ None = none in cc)
drl_gone first last lost (Some e) None m m' ends d is none = inl (subst (λ (x : Dirty). Rose (m.faults x.map.unit) (m'.faults x.map.unit)) (same_Some e d is) ends.1)

drl_none : (first last : ℕ) (lost : Bool) (o n : Option Dirty) (m m' : Meaning) → DrlEnds first last lost o n m m' → is_some n ≡ true → is_some o ≡ true
drl_none first last lost None None m m' ends has = has
drl_none first last lost None (Some e) m m' ends has = absurd ends
drl_none first last lost (Some d) n m m' ends has = refl

fmr_gone : (those : ℕ → Bool) (anew : Bool) (first last : ℕ) (lost : Bool) (o n : Option Missed) (m m' : Meaning) → FmrEnds those anew first last lost o n m m' → (f : Missed) → o ≡ Some f → n ≡ None → Rose (m.faults f.map.unit) (m'.faults f.map.unit) ⊎ IsTrue m'.down
fmr_gone those anew first last lost None n m m' ends f is none = absurd (let clash : None ≡ Some f = is in cc)
fmr_gone those anew first last lost (Some g) (Some n) m m' ends f is none = absurd (let clash : Some n ≡ None = none in cc)
fmr_gone those anew first last lost (Some g) None m m' ends f is none = inl (subst (λ (x : Missed). Rose (m.faults x.map.unit) (m'.faults x.map.unit)) (same_Some g f is) ends.1)

fmr_none : (those : ℕ → Bool) (anew : Bool) (first last : ℕ) (lost : Bool) (o n : Option Missed) (m m' : Meaning) → FmrEnds those anew first last lost o n m m' → is_some n ≡ true → is_some o ≡ true
fmr_none those anew first last lost None None m m' ends has = has
fmr_none those anew first last lost None (Some g) m m' ends has = absurd ends
fmr_none those anew first last lost (Some f) n m m' ends has = refl

pub drops_marked : (c : Config) (v first last : ℕ) (lost : Lost) (l l' : Logs) (m m' : Meaning) → LogsFit c v l → MarkedLogs c v first last lost l l' m m' → LogsDrop c v l l' m m'
drops_marked c v first last lost l l' m m' fits marked = drops_of c v l l' m m' fits
    (drl_gone first last lost.drl l.drl l'.drl m m' marked.drl) (drl_none first last lost.drl l.drl l'.drl m m' marked.drl)
    (fmr_gone (stale c v) false first last lost.fmr l.fmr l'.fmr m m' marked.fmr) (fmr_none (stale c v) false first last lost.fmr l.fmr l'.fmr m m' marked.fmr)

-- a note in the maps alone
pub drops_noted : (c : Config) (v : ℕ) (those : ℕ → Bool) (anew : Bool) (first last : ℕ) (lost : Bool) (l l' : Logs) (m m' : Meaning) → LogsFit c v l → l'.drl ≡ l.drl → FmrEnds those anew first last lost l.fmr l'.fmr m m' → LogsDrop c v l l' m m'
drops_noted c v those anew first last lost l l' m m' fits same ends = drops_of c v l l' m m' fits
    (λ d is none. absurd (let clash : Some d ≡ None = sym is ∙ sym same ∙ none in cc)) (λ has. sym (ap is_some same) ∙ has)
    (fmr_gone those anew first last lost l.fmr l'.fmr m m' ends) (fmr_none those anew first last lost l.fmr l'.fmr m m' ends)

pub noted_down : (those : ℕ → Bool) (anew : Bool) (first last : ℕ) (o n : Option Missed) (m m' : Meaning) (no : No) → FmrAnswers those anew first last o n m m' (Err no) → IsTrue m'.down
noted_down those anew first last o n m m' refusal.Down down = down
noted_down those anew first last o n m m' other none = absurd none

-- ---- marks that are taken off

ending_gone : (gone : Bool) (o n : Option Dirty) (m m' : Meaning) → DrlEnding gone o n m m' → (d : Dirty) → o ≡ Some d → n ≡ None → Rose (m.faults d.map.unit) (m'.faults d.map.unit) ⊎ IsTrue m'.down
ending_gone gone None n m m' ends d is none = absurd (let clash : None ≡ Some d = is in cc)
ending_gone gone (Some e) (Some n) m m' ends d is none = absurd (let clash : Some n ≡ None = none in cc)
ending_gone gone (Some e) None m m' ends d is none = inl (subst (λ (x : Dirty). Rose (m.faults x.map.unit) (m'.faults x.map.unit)) (same_Some e d is) ends.1)

ending_none : (gone : Bool) (o n : Option Dirty) (m m' : Meaning) → DrlEnding gone o n m m' → is_some n ≡ true → is_some o ≡ true
ending_none gone None None m m' ends has = has
ending_none gone None (Some e) m m' ends has = absurd ends
ending_none gone (Some d) n m m' ends has = refl

pub drops_cleared : (c : Config) (v : ℕ) (gone : Bool) (l l' : Logs) (m m' : Meaning) → LogsFit c v l → DrlEnding gone l.drl l'.drl m m' → l'.fmr ≡ l.fmr → LogsDrop c v l l' m m'
drops_cleared c v gone l l' m m' fits ends same = drops_of c v l l' m m' fits
    (ending_gone gone l.drl l'.drl m m' ends) (ending_none gone l.drl l'.drl m m' ends)
    (λ f is none. absurd (let clash : Some f ≡ None = sym is ∙ sym same ∙ none in cc)) (λ has. sym (ap is_some same) ∙ has)
