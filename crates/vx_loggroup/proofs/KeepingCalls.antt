-- Which logs a group uses behind its calls: logs that begin, maps that are given up or emptied, writes and flushes.
use Rattle.std.proofs.Common.{◌≡◌, ◌⊎◌, ◌∙◌, inl, inr, ℕ, zero, suc, ◌<◌, Bool, true, false, Option, Some, None, List, [], ◌∷◌, length, IsTrue, refl, sym, ap, subst, arith, is_some}
use Rattle.std.proofs.Math.ListN.{set}
use Rattle.std.proofs.lemmas.Bool.{cases_eq}
use Rattle.std.proofs.lemmas.Option.{slice_get_within}
use Rattle.std.specs.Prelude.{◌&&◌, not, slice_get}
use Rattle.vx_config.specs.declared.config.Config.{Config}
use Rattle.vx_config.specs.declared.entry.DiskEntry.{DiskEntry}
use Rattle.vx_config.specs.declared.entry.LogEntry.{LogEntry}
use Rattle.vx_config.specs.declared.entry.Subdisk.{Subdisk}
use Rattle.vx_config.specs.declared.entry.VolumeLog.{VolumeLog}
use Rattle.vx_config.specs.declared.entry.VolumeLog.TheVariants.{Drl, Fmr}
use Rattle.vx_copies.specs.Marks.{failed_at}
use Rattle.vx_disk.specs.Counts.{Rose}
use Rattle.vx_disk.specs.Shelf.{Meaning}
use Rattle.vx_drl.specs.Dirty.{Dirty}
use Rattle.vx_fmr.specs.Missed.{Missed}
use Rattle.vx_group.specs.Holding.{wide}
use Rattle.vx_group.specs.Loses.{LosesPlexes}
use Rattle.vx_group.specs.declared.group_core.GroupCore.{GroupCore}
use Rattle.vx_group.proofs.HoldLemmas.{wide_shape}
use Rattle.vx_grouplogs.specs.Gone.{LogsDrop, has_log}
use Rattle.vx_groupmaps.specs.Beginning.{EmptyEnds}
use Rattle.vx_groupmaps.specs.Loading.{failed_under, held_failed, on_failed_disk}
use Rattle.vx_kept.specs.LogRuns.{log_place, run_or}
use Rattle.vx_logged.specs.Logged.{DropsBut, TrustsIn}
use Rattle.vx_logs.specs.Held.{LogsFit}
use Rattle.vx_logs.specs.declared.logs.Logs.{Logs}
use Rattle.vx_maplog.specs.Logs.{log_of}
use Rattle.vx_loggroup.specs.Attaching.{MapsHeld}
use Rattle.vx_loggroup.specs.Fresh.{FirstLogs, LogsFirst, LogsStart}
use Rattle.vx_loggroup.specs.Keeping.{LogsKeep, LogsStay, has_or, in_memory}
use Rattle.vx_loggroup.proofs.KeepingLemmas.{LogUsed, frames_places, full_keeps, memory_item, stay_keeps, stays_by, stays_more, stays_set}
use Rattle.vx_loggroup.proofs.SetLemmas.{item_at}

-- ---- logs that begin

pub first_has : (n : ℕ) (log : VolumeLog) (l k : Logs) → FirstLogs n l k → has_log log l ≡ true → has_log log k ≡ true
first_has n Drl l k first has = by l.drl refl
  where
    by : (o : Option Dirty) → l.drl ≡ o → is_some k.drl ≡ true
    by None is = absurd (let clash : false ≡ true = sym (ap (λ (x : Option Dirty). is_some x) is) ∙ has in cc)
    by (Some d) is = ap (λ (x : Option Dirty). is_some x) (first.drl d is)
first_has n Fmr l k first has = by l.fmr refl
  where
    by : (o : Option Missed) → l.fmr ≡ o → is_some k.fmr ≡ true
    by None is = absurd (let clash : false ≡ true = sym (ap (λ (x : Option Missed). is_some x) is) ∙ has in cc)
    by (Some f) is = ap (λ (x : Option Missed). is_some x) (first.fmr f is)

first_memory : (v n : ℕ) (ls ks : List Logs) → LogsFirst v n ls ks → (w : ℕ) (log : VolumeLog) → in_memory ls w log ≡ true → in_memory ks w log ≡ true
first_memory v n ls ks first w log has = elim (cases_eq w v) [
  | inl same ↦ subst (λ (x : ℕ). in_memory ks x log ≡ true) (sym same) (here (subst (λ (x : ℕ). in_memory ls x log ≡ true) same has))
  | inr apart ↦ ap (has_or log) (first.others w apart) ∙ has
]
  where
    here : in_memory ls v log ≡ true → in_memory ks v log ≡ true
    here is =
        let it = memory_item ls v log is in
        let low : v < length ls = slice_get_within ls v it.0 it.1 in
        let new = item_at ks v (let many = first.many in omega (arith, low, many)) in
        ap (has_or log) new.1 ∙ first_has n log it.0 new.0 (first.here it.0 new.0 it.1 new.1) it.2

pub begins_stay : (v n : ℕ) (c d : GroupCore) (ls ks : List Logs) (m m' : Meaning) → LogsStart v c d m m' → LogsFirst v n ls ks → LogsStay c.inner.config d.inner.config ls ks m m'
begins_stay v n c d ls ks m m' begins first =
    stays_more c.inner.config d.inner.config ls ks m m' (frames_places c.inner.config d.inner.config begins.loses.loses.frames) begins.loses.loses.disks.blamed begins.trusts (first_memory v n ls ks first)

-- ---- maps on failed disks

failed_get : (ds : List DiskEntry) (u : ℕ) (d : DiskEntry) → slice_get ds u ≡ Some d → failed_at ds u ≡ d.failed
failed_get [] u d is = absurd (let clash : None ≡ Some d = is in cc)
failed_get (x ∷ ds) zero d is = let same : x ≡ d = cc in ap (λ (y : DiskEntry). y.failed) same
failed_get (x ∷ ds) (suc u) d is = failed_get ds u d is

and_off : (a b : Bool) → b ≡ false → a && b ≡ false
and_off true b is = is
and_off false b is = refl

-- the maps lie on no failed disk where their log lies on a good one
good_disk : (c : Config) (v : ℕ) (s : Subdisk) → log_place c v Fmr ≡ Some s → failed_at c.disks s.disk ≡ false → on_failed_disk c v Fmr ≡ false
unfolding log_place
good_disk c v s place good = by (log_of c v Fmr) refl
  where
    held : (e : LogEntry) (o : Option DiskEntry) → slice_get c.disks e.disk ≡ o → failed_at c.disks e.disk ≡ false → held_failed e o ≡ false
    held e None is off = refl
    held e (Some d) is off = and_off (not e.lost) d.failed (sym (failed_get c.disks e.disk d is) ∙ off)

    by : (o : Option LogEntry) → log_of c v Fmr ≡ o → on_failed_disk c v Fmr ≡ false
    by None is = ap (failed_under c.disks) is
    by (Some e) is =
        let both : run_or (Some e) ≡ Some s = sym (ap run_or is) ∙ place in
        let disk : e.disk ≡ s.disk = one (record { disk = e.disk; start = e.start; blocks = e.blocks }) s both in
        ap (failed_under c.disks) is ∙ held e (slice_get c.disks e.disk) refl (ap (failed_at c.disks) disk ∙ good)
      where
        one : (r t : Subdisk) → Some r ≡ Some t → r.disk ≡ t.disk
        one r t is = let same : r ≡ t = cc in ap (λ (x : Subdisk). x.disk) same

pub held_stays : (c : Config) (ls ks : List Logs) (m : Meaning) → MapsHeld c ls ks → LogsStay c c ls ks m m
held_stays c ls ks m held =
    stays_by c c ls ks m m (λ v log s at. at) (λ u was now. absurd (let clash : false ≡ true = sym was ∙ now in cc)) (λ v log has told. told) (λ v log s at was. inl (stays v log s at was))
  where
    drl_there : (v : ℕ) → in_memory ls v Drl ≡ true → in_memory ks v Drl ≡ true
    drl_there v has =
        let it = memory_item ls v Drl has in
        let low : v < length ls = slice_get_within ls v it.0 it.1 in
        let new = item_at ks v (let many = held.many in omega (arith, low, many)) in
        ap (has_or Drl) new.1 ∙ ap (λ (x : Option Dirty). is_some x) (held.drl v it.0 new.0 it.1 new.1) ∙ it.2

    same_there : (v : ℕ) (log : VolumeLog) → on_failed_disk c v Fmr ≡ false → in_memory ls v log ≡ true → in_memory ks v log ≡ true
    same_there v log off has = ap (has_or log) (held.same v off) ∙ has

    stays : (v : ℕ) (log : VolumeLog) (s : Subdisk) → log_place c v log ≡ Some s → LogUsed c ls v log s → in_memory ks v log ≡ true
    stays v Drl s at was = drl_there v was.has
    stays v Fmr s at was = same_there v Fmr (good_disk c v s at was.good) was.has

-- ---- a map that is emptied

unit_of : (c : Config) (v : ℕ) (f : Missed) (l : Logs) (s : Subdisk) → LogsFit c v l → l.fmr ≡ Some f → log_place c v Fmr ≡ Some s → f.map.unit ≡ s.disk
unfolding log_place
unit_of c v f l s fit is place =
    let loaded = (fit.fmr f is).log in
    let both : Some (record { disk = loaded.entry.disk; start = loaded.entry.start; blocks = loaded.entry.blocks }) ≡ Some s = sym (ap run_or loaded.is) ∙ place in
    loaded.run.there ∙ one (record { disk = loaded.entry.disk; start = loaded.entry.start; blocks = loaded.entry.blocks }) s both
  where
    one : (r t : Subdisk) → Some r ≡ Some t → r.disk ≡ t.disk
    one r t is = let same : r ≡ t = cc in ap (λ (x : Subdisk). x.disk) same

same_drl : (l k : Logs) → k.drl ≡ l.drl → has_log Drl k ≡ has_log Drl l
same_drl l k same = ap (λ (x : Option Dirty). is_some x) same

gone_clash : (a b : Bool) → b ≡ a → a ≡ true → b ≡ false → ⊥
gone_clash a b same on off = let clash : false ≡ true = sym off ∙ same ∙ on in cc

pub begun_drops : (c : Config) (v plex : ℕ) (l k : Logs) (gone : Bool) (m m' : Meaning) → LogsFit c v l → k.drl ≡ l.drl → EmptyEnds plex gone l.fmr k.fmr m m' → LogsDrop c v l k m m'
begun_drops c v plex l k gone m m' fit drl ends = record { gone = goes; none = there }
  where
    rises : (s : Subdisk) → log_place c v Fmr ≡ Some s → (o p : Option Missed) → l.fmr ≡ o → EmptyEnds plex gone o p m m' → is_some o ≡ true → is_some p ≡ false → Rose (m.faults s.disk) (m'.faults s.disk) ⊎ IsTrue m'.down
    rises s at None p is end has off = absurd (let clash : false ≡ true = has in cc)
    rises s at (Some f) None is end has off = inl (subst (λ (u : ℕ). Rose (m.faults u) (m'.faults u)) (unit_of c v f l s fit is at) end.1)
    rises s at (Some f) (Some g) is end has off = absurd (let clash : true ≡ false = off in cc)

    goes : (log : VolumeLog) (s : Subdisk) → log_place c v log ≡ Some s → has_log log l ≡ true → has_log log k ≡ false → Rose (m.faults s.disk) (m'.faults s.disk) ⊎ IsTrue m'.down
    goes Drl s at has off = absurd (gone_clash (has_log Drl l) (has_log Drl k) (same_drl l k drl) has off)
    goes Fmr s at has off = rises s at l.fmr k.fmr refl ends has off

    stays : (o p : Option Missed) → EmptyEnds plex gone o p m m' → is_some p ≡ true → is_some o ≡ true
    stays None None end on = on
    stays None (Some g) end on = absurd end
    stays (Some f) p end on = refl

    there : (log : VolumeLog) → has_log log k ≡ true → has_log log l ≡ true
    there Drl on = sym (same_drl l k drl) ∙ on
    there Fmr on = stays l.fmr k.fmr ends on

-- the shelf is down
pub none_drops : (c : Config) (v : ℕ) (l k : Logs) (m m' : Meaning) → k.drl ≡ l.drl → k.fmr ≡ None → IsTrue m'.down → LogsDrop c v l k m m'
none_drops c v l k m m' drl none down = record { gone = goes; none = there }
  where
    goes : (log : VolumeLog) (s : Subdisk) → log_place c v log ≡ Some s → has_log log l ≡ true → has_log log k ≡ false → Rose (m.faults s.disk) (m'.faults s.disk) ⊎ IsTrue m'.down
    goes log s at has off = inr down

    there : (log : VolumeLog) → has_log log k ≡ true → has_log log l ≡ true
    there Drl on = sym (same_drl l k drl) ∙ on
    there Fmr on = absurd (let clash : false ≡ true = sym (ap (λ (x : Option Missed). is_some x) none) ∙ on in cc)

pub dropped_stay : (c : Config) (v : ℕ) (ls : List Logs) (l k : Logs) (m m' : Meaning) → slice_get ls v ≡ Some l → LogsDrop c v l k m m' → LogsStay c c ls (set ls v k) m m'
dropped_stay c v ls l k m m' at drops =
    stays_set c c v ls l k m m' at (λ w log s place. place) (λ u was now. absurd (let clash : false ≡ true = sym was ∙ now in cc)) (record { each = λ w log has told. told }) drops.gone

-- ---- a write, a flush

module _ (c d : GroupCore) (v : ℕ) (ls : List Logs) (l k : Logs) (m m' : Meaning) (at : slice_get ls v ≡ Some l) (loses : LosesPlexes c.inner.config d.inner.config m m') (trusts : TrustsIn v k c.inner.config d.inner.config) where
  pub cleared_keeps : LogsDrop (wide c).config v l k m m' → LogsKeep c d ls (set ls v k) m m'
  cleared_keeps drops =
      stay_keeps c d ls (set ls v k) m m'
      (stays_set c.inner.config d.inner.config v ls l k m m' at (frames_places c.inner.config d.inner.config loses.frames) loses.disks.blamed trusts (λ log s place has off. drops.gone log s ((wide_shape c).logs v log ∙ place) has off))

  pub marked_keeps : DropsBut c d v l k m m' → LogsKeep c d ls (set ls v k) m m'
  marked_keeps drops = elim drops.so [
    | inl by ↦ cleared_keeps by
    | inr full ↦ full_keeps c d ls (set ls v k) m m' full
  ]
