-- Why the maps of missed regions of a volume are gone by no more behind a call.
use Rattle.std.proofs.Common.{◌≡◌, ◌⊎◌, ◌≤◌, ◌+◌, ◌&&◌, ℕ, zero, suc, Bool, true, false, List, [], ◌∷◌, refl, sym, ◌∙◌, ap, IsTrue, inl, inr}
use Rattle.std.specs.Prelude.{Option, Some, None, is_some, not, slice_get}
use Rattle.vx_config.specs.Table.{greatest}
use Rattle.vx_config.specs.declared.config.Config.{Config}
use Rattle.vx_config.specs.declared.entry.DiskEntry.{DiskEntry}
use Rattle.vx_config.specs.declared.entry.LogEntry.{LogEntry}
use Rattle.vx_config.specs.declared.entry.Subdisk.{Subdisk}
use Rattle.vx_config.specs.declared.entry.VolumeLog.TheVariants.{Fmr}
use Rattle.vx_copies.specs.Marks.{failed_at}
use Rattle.vx_disk.specs.Counts.{Rose}
use Rattle.vx_disk.specs.Shelf.{Meaning}
use Rattle.vx_group.specs.declared.group_core.GroupCore.{GroupCore}
use Rattle.vx_groupmaps.specs.Loading.{failed_under, held_failed, on_failed_disk}
use Rattle.vx_kept.specs.LogRuns.{log_place, log_trusted, run_or}
use Rattle.vx_logs.specs.declared.logs.Logs.{Logs}
use Rattle.vx_maplog.specs.Logs.{log_of, used_or}
use Rattle.vx_loggroup.specs.Attaching.{fmr_at, fmr_or}
use Rattle.vx_loggroup.specs.Keeping.{LogsKeep, has_or, in_memory, uses_log}
use Rattle.vx_loggroup.specs.Moving.{MapsEnd, goes_by}
use Rattle.vx_loggroup.proofs.KeepingLemmas.{used_from, used_parts}

-- ---- parts of the test

pub first_b : (s x y : Bool) → (not s && (not x && y)) ≡ true → s ≡ false
first_b true x y is = let clash : false ≡ true = is in cc
first_b false x y is = refl

pub second_b : (s x y : Bool) → (not s && (not x && y)) ≡ true → x ≡ false
second_b true x y is = let clash : false ≡ true = is in cc
second_b false true y is = let clash : false ≡ true = is in cc
second_b false false y is = refl

pub third_b : (s x y : Bool) → (not s && (not x && y)) ≡ true → y ≡ true
third_b true x y is = let clash : false ≡ true = is in cc
third_b false true y is = let clash : false ≡ true = is in cc
third_b false false y is = is

pub none_b : (x y : Bool) → (not x && y) ≡ false → x ≡ false → y ≡ false
none_b true y is off = let clash : true ≡ false = off in cc
none_b false y is off = is

map_there_is : (o : Option Logs) → is_some (fmr_or o) ≡ has_or Fmr o
map_there_is None = refl
map_there_is (Some l) = refl

-- the maps are in memory
pub memory_is : (logs : List Logs) (v : ℕ) → is_some (fmr_at logs v) ≡ in_memory logs v Fmr
memory_is logs v = map_there_is (slice_get logs v)

-- ---- the log and its disk

-- the log of missed regions of a volume, which is not held as lost
pub record KeptLog (c : Config) (v : ℕ) : Type 0 where
  pub entry : LogEntry
  pub is : log_of c v Fmr ≡ Some entry
  pub kept : entry.lost ≡ false

pub kept_log : (c : Config) (v : ℕ) → log_trusted c v Fmr ≡ true → KeptLog c v
unfolding log_trusted
kept_log c v is = by (log_of c v Fmr) refl is
  where
    not_true : (b : Bool) → not b ≡ true → b ≡ false
    not_true true is = let clash : false ≡ true = is in cc
    not_true false is = refl

    by : (o : Option LogEntry) → log_of c v Fmr ≡ o → used_or o ≡ true → KeptLog c v
    by None at is = let clash : false ≡ true = is in cc
    by (Some e) at is = record { entry = e; is = at; kept = not_true e.lost is }

pub place_of : (c : Config) (v : ℕ) (e : LogEntry) → log_of c v Fmr ≡ Some e → log_place c v Fmr ≡ Some (record { disk = e.disk; start = e.start; blocks = e.blocks })
unfolding log_place
place_of c v e at = ap run_or at

-- a disk is held as failed by its entry
pub failed_entry : (disks : List DiskEntry) (u : ℕ) (e : LogEntry) → held_failed e (slice_get disks u) ≡ true → failed_at disks u ≡ true
failed_entry [] u e is = let clash : false ≡ true = is in cc
failed_entry (d ∷ disks) zero e is = right e.lost d.failed is
  where
    right : (x y : Bool) → (not x && y) ≡ true → y ≡ true
    right true y is = let clash : false ≡ true = is in cc
    right false y is = is
failed_entry (d ∷ disks) (suc u) e is = failed_entry disks u e is

good_entry : (disks : List DiskEntry) (u : ℕ) (e : LogEntry) → e.lost ≡ false → held_failed e (slice_get disks u) ≡ false → failed_at disks u ≡ false
good_entry [] u e kept is = refl
good_entry (d ∷ disks) zero e kept is = right e.lost d.failed kept is
  where
    right : (x y : Bool) → x ≡ false → (not x && y) ≡ false → y ≡ false
    right true y kept is = let clash : true ≡ false = kept in cc
    right false y kept is = is
good_entry (d ∷ disks) (suc u) e kept is = good_entry disks u e kept is

same_disk : (c d : Config) (v : ℕ) (e : LogEntry) → log_of c v Fmr ≡ Some e → ((r : Subdisk) → log_place c v Fmr ≡ Some r → log_place d v Fmr ≡ Some r) → on_failed_disk d v Fmr ≡ true → failed_at d.disks e.disk ≡ true
unfolding log_place
same_disk c d v e at places is = by (log_of d v Fmr) refl is (places _ (ap run_or at))
  where
    by : (o : Option LogEntry) → log_of d v Fmr ≡ o → failed_under d.disks o ≡ true → run_or (log_of d v Fmr) ≡ Some (record { disk = e.disk; start = e.start; blocks = e.blocks }) → failed_at d.disks e.disk ≡ true
    by None none is run = let clash : false ≡ true = is in cc
    by (Some f) some is run =
        let both : Some (record { disk = f.disk; start = f.start; blocks = f.blocks }) ≡ Some (record { disk = e.disk; start = e.start; blocks = e.blocks }) = sym (ap run_or some) ∙ run in
        let disk : f.disk ≡ e.disk = ap (λ (r : Option Subdisk). disk_of r) both in
        ap (λ (u : ℕ). failed_at d.disks u) (sym disk) ∙ failed_entry d.disks f.disk f is
      where
        disk_of : Option Subdisk → ℕ
        disk_of None = 0
        disk_of (Some r) = r.disk

-- ---- behind a call

module _ (c d : GroupCore) (l k : List Logs) (s t : Bool) (m m' : Meaning) (keeps : LogsKeep c d l k m m')
    (disks : (u : ℕ) → failed_at c.inner.config.disks u ≡ false → failed_at d.inner.config.disks u ≡ true → Rose (m.faults u) (m'.faults u))
    (full : s ≡ false → t ≡ true → greatest ≤ c.inner.config.serial + 54) (places : (v : ℕ) (r : Subdisk) → log_place c.inner.config v Fmr ≡ Some r → log_place d.inner.config v Fmr ≡ Some r)
    (later : c.inner.config.serial ≤ d.inner.config.serial) where
  abbrev Why : ℕ → Type 0
  Why v =
      ((e : LogEntry) × (log_of c.inner.config v Fmr ≡ Some e) × Rose (m.faults e.disk) (m'.faults e.disk)) ⊎ (log_trusted c.inner.config v Fmr ≡ false) ⊎ IsTrue m'.down
      ⊎ (greatest ≤ c.inner.config.serial + 54) ⊎ (greatest ≤ d.inner.config.serial + 9)

  good : (v : ℕ) (e : KeptLog c.inner.config v) → goes_by l c.inner.config s v ≡ true → failed_at c.inner.config.disks e.entry.disk ≡ false
  good v e on =
      good_entry c.inner.config.disks e.entry.disk e.entry e.kept
      (sym (ap (failed_under c.inner.config.disks) e.is) ∙ second_b s (on_failed_disk c.inner.config v Fmr) (is_some (fmr_at l v)) on)

  -- it was in use
  used : (v : ℕ) (e : KeptLog c.inner.config v) → log_trusted c.inner.config v Fmr ≡ true → goes_by l c.inner.config s v ≡ true → uses_log c.inner.config l v Fmr ≡ true
  used v e trusted on =
      used_from c.inner.config l v Fmr (record { disk = e.entry.disk; start = e.entry.start; blocks = e.entry.blocks }) (place_of c.inner.config v e.entry e.is)
      (record { has = sym (memory_is l v) ∙ third_b s (on_failed_disk c.inner.config v Fmr) (is_some (fmr_at l v)) on; trusted = trusted; good = good v e on })

  none_kept : (v : ℕ) (e : KeptLog c.inner.config v) → is_some (fmr_at k v) ≡ false
      → (uses_log d.inner.config k v Fmr ≡ true) ⊎ Rose (m.faults e.entry.disk) (m'.faults e.entry.disk) ⊎ IsTrue m'.down ⊎ (greatest ≤ d.inner.config.serial + 9) → Why v
  none_kept v e none (inl uses) = absurd (
      let run = places v (record { disk = e.entry.disk; start = e.entry.start; blocks = e.entry.blocks }) (place_of c.inner.config v e.entry e.is) in
      let clash : false ≡ true = sym none ∙ memory_is k v ∙ (used_parts d.inner.config k v Fmr _ run uses).has in
      cc
      )
  none_kept v e none (inr (inl rose)) = inl (e.entry, e.is, rose)
  none_kept v e none (inr (inr (inl down))) = inr (inr (inl down))
  none_kept v e none (inr (inr (inr far))) = inr (inr (inr (inr far)))

  by_disk : (v : ℕ) (e : KeptLog c.inner.config v) → log_trusted c.inner.config v Fmr ≡ true → goes_by l c.inner.config s v ≡ true → (not (on_failed_disk d.inner.config v Fmr) && is_some (fmr_at k v)) ≡ false → (x : Bool) → on_failed_disk d.inner.config v Fmr ≡ x → Why v
  by_disk v e trusted on off true is = inl (e.entry, e.is, disks e.entry.disk (good v e on) (same_disk c.inner.config d.inner.config v e.entry e.is (places v) is))
  by_disk v e trusted on off false is =
      none_kept v e (none_b (on_failed_disk d.inner.config v Fmr) (is_some (fmr_at k v)) off is)
      (keeps.each v Fmr (record { disk = e.entry.disk; start = e.entry.start; blocks = e.entry.blocks }) (place_of c.inner.config v e.entry e.is) (used v e trusted on))

  by_stop : (v : ℕ) (e : KeptLog c.inner.config v) → log_trusted c.inner.config v Fmr ≡ true → goes_by l c.inner.config s v ≡ true → (x : Bool) → t ≡ x → (not x && (not (on_failed_disk d.inner.config v Fmr) && is_some (fmr_at k v))) ≡ false → Why v
  by_stop v e trusted on true is off = inr (inr (inr (inl (full (first_b s (on_failed_disk c.inner.config v Fmr) (is_some (fmr_at l v)) on) is))))
  by_stop v e trusted on false is off = by_disk v e trusted on off (on_failed_disk d.inner.config v Fmr) refl

  by_trust : (v : ℕ) → goes_by l c.inner.config s v ≡ true → goes_by k d.inner.config t v ≡ false → (x : Bool) → log_trusted c.inner.config v Fmr ≡ x → Why v
  by_trust v on off true is = by_stop v (kept_log c.inner.config v is) is on t refl off
  by_trust v on off false is = inr (inl is)

  pub maps_end : MapsEnd c.inner.config d.inner.config s t l k m m'
  maps_end = record { so = λ v on off. by_trust v on off (log_trusted c.inner.config v Fmr) refl; later = later }

-- ---- behind one that leaves all logs as they are

module _ (c d : Config) (l : List Logs) (s : Bool) (m m' : Meaning) (disks : (u : ℕ) → failed_at c.disks u ≡ false → failed_at d.disks u ≡ true → Rose (m.faults u) (m'.faults u))
    (places : (v : ℕ) (r : Subdisk) → log_place c v Fmr ≡ Some r → log_place d v Fmr ≡ Some r) (later : c.serial ≤ d.serial) where
  lies_off : (v : ℕ) → goes_by l c s v ≡ true → goes_by l d s v ≡ false → on_failed_disk d v Fmr ≡ true
  lies_off v on off = by s (on_failed_disk c v Fmr) (on_failed_disk d v Fmr) (is_some (fmr_at l v)) on off
    where
      by : (s x y z : Bool) → (not s && (not x && z)) ≡ true → (not s && (not y && z)) ≡ false → y ≡ true
      by true x y z on off = let clash : false ≡ true = on in cc
      by false true y z on off = let clash : false ≡ true = on in cc
      by false false true z on off = refl
      by false false false z on off = let clash : true ≡ false = sym on ∙ off in cc

  pub same_end : MapsEnd c d s s l l m m'
  same_end = record { so = λ v on off. by_log v on (lies_off v on off) (log_trusted c v Fmr) refl; later = later }
    where
      by_log : (v : ℕ) → goes_by l c s v ≡ true → on_failed_disk d v Fmr ≡ true → (x : Bool) → log_trusted c v Fmr ≡ x
          → ((e : LogEntry) × (log_of c v Fmr ≡ Some e) × Rose (m.faults e.disk) (m'.faults e.disk)) ⊎ (log_trusted c v Fmr ≡ false) ⊎ IsTrue m'.down
          ⊎ (greatest ≤ c.serial + 54) ⊎ (greatest ≤ d.serial + 9)
      by_log v on failed false is = inr (inl is)
      by_log v on failed true is =
          let e : KeptLog c v = kept_log c v is in
          let good : failed_at c.disks e.entry.disk ≡ false = good_entry c.disks e.entry.disk e.entry e.kept (sym (ap (failed_under c.disks) e.is) ∙ second_b s (on_failed_disk c v Fmr) (is_some (fmr_at l v)) on) in
          inl (e.entry, e.is, disks e.entry.disk good (same_disk c d v e.entry e.is (places v) failed))
