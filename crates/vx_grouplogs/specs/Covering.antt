-- Where the plexes of a volume are alike, by its dirty region log.
use Rattle.std.specs.Prelude.{◌≡◌, ℕ, ◌+◌, ◌/◌, ◌%◌, Bool, false, IsTrue, Some, List}
use Rattle.vx_model.specs.declared.limits.TheConstants.{MAP_REGIONS, REGION}
use Rattle.vx_bitmap.specs.Bits.{is_marked}
use Rattle.vx_config.specs.declared.config.Config.{Config}
use Rattle.vx_config.specs.declared.entry.LogEntry.{LogEntry}
use Rattle.vx_config.specs.declared.entry.VolumeLog.{VolumeLog}
use Rattle.vx_config.specs.declared.entry.VolumeLog.TheVariants.{Drl}
use Rattle.vx_disk.specs.Moves.{Run}
use Rattle.vx_disk.specs.Shelf.{Image, Meaning}
use Rattle.vx_drl.specs.Dirty.{Dirty, is_dirty}
use Rattle.vx_kept.specs.Groups.{OnSome}
use Rattle.vx_layout.specs.Places.{place}
use Rattle.vx_logs.specs.Held.{LogsFit, LogsStand, logged_in}
use Rattle.vx_logs.specs.declared.logs.Logs.{Logs}
use Rattle.vx_maplog.specs.Logs.{log_of}
use Rattle.vx_volume.specs.Plexes.{Inside, active}

-- a block of a log of a volume, whatever it has
pub record OnLogs (c : Config) (v u b : ℕ) (x : List ℕ) : Type 0 where
  pub log : VolumeLog
  pub entry : LogEntry
  pub is : log_of c v log ≡ Some entry
  pub run : Run entry.disk entry.start entry.blocks u b

-- of each block of a volume of which the region is none of these a crash leaves one value on all plexes that are ACTIVE
pub record AlikeBut (c : Config) (v : ℕ) (dirty : ℕ → Bool) (m : Meaning) : Type 0 where
  pub one : (b : ℕ) (x y : List ℕ) → dirty (b / REGION) ≡ false → OnSome c m.leaves v b x → OnSome c m.leaves v b y → x ≡ y

-- the same of each block
abbrev pub AllAlike : Config → ℕ → Meaning → Type 0
AllAlike c v m = AlikeBut c v (λ r. false) m

-- the log in memory, where there is one, has each region in which plexes may differ
pub record MemoryCovers (c : Config) (v : ℕ) (l : Logs) (m : Meaning) : Type 0 where
  pub so : (d : Dirty) → l.drl ≡ Some d → AlikeBut c v (is_dirty d) m

-- So has the log on its disk, whatever a crash leaves of it and of the plexes: where it has not the region of a block, plexes that are ACTIVE have
-- the same there.
pub record DiskCovers (c : Config) (v : ℕ) (m : Meaning) : Type 0 where
  pub so : (e : LogEntry) (b p q : ℕ) (x y z : List ℕ) → log_of c v Drl ≡ Some e → Inside c v b → IsTrue (active c v p) → IsTrue (active c v q)
      → m.leaves e.disk (e.start + (b / REGION) / MAP_REGIONS) z → is_marked z ((b / REGION) % MAP_REGIONS) ≡ false
      → m.leaves (place c v p b).0 (place c v p b).1 x → m.leaves (place c v q b).0 (place c v q b).1 y → x ≡ y

-- the same of one image
pub record ImageCovers (c : Config) (v : ℕ) (i : Image) : Type 0 where
  pub so : (e : LogEntry) (b p q : ℕ) → log_of c v Drl ≡ Some e → Inside c v b → IsTrue (active c v p) → IsTrue (active c v q) → logged_in e i (b / REGION) ≡ false
      → i (place c v p b).0 (place c v p b).1 ≡ i (place c v q b).0 (place c v q b).1

-- what a call on the logs of volume v keeps of each other volume: what its logs hold, and what they cover
pub record KeepsOthers (c : Config) (v : ℕ) (old new : Meaning) : Type 0 where
  pub stands : (w : ℕ) (l : Logs) → (w ≡ v → ⊥) → LogsFit c w l → LogsStand l old → LogsStand l new
  pub memory : (w : ℕ) (l : Logs) → (w ≡ v → ⊥) → MemoryCovers c w l old → MemoryCovers c w l new
  pub covers : (w : ℕ) → (w ≡ v → ⊥) → DiskCovers c w old → DiskCovers c w new
