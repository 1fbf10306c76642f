-- What stands of the dirty region log of a volume between the calls of a group.
use Rattle.std.specs.Prelude.{◌≡◌, ℕ, ◌/◌, true, IsTrue, Some, None, List}
use Rattle.vx_model.specs.declared.limits.TheConstants.{REGION}
use Rattle.vx_config.specs.declared.config.Config.{Config}
use Rattle.vx_config.specs.declared.entry.VolumeLog.TheVariants.{Drl}
use Rattle.vx_disk.specs.Shelf.{Meaning, Values}
use Rattle.vx_drl.specs.Dirty.{Dirty, is_dirty}
use Rattle.vx_kept.specs.Groups.{OnSome}
use Rattle.vx_kept.specs.LogRuns.{log_trusted}
use Rattle.vx_layout.specs.Places.{place}
use Rattle.vx_logs.specs.Held.{LogsFit, LogsStand}
use Rattle.vx_logs.specs.declared.logs.Logs.{Logs}
use Rattle.vx_volume.specs.Plexes.{Inside, active}
use Rattle.vx_grouplogs.specs.Covering.{DiskCovers, MemoryCovers, OnLogs}

-- The log in memory, where there is one, is that of the volume and stands on its disk; it has each region in which plexes may differ, and so
-- has the one on the disk, whatever a crash leaves, where it is not held as lost. It may be in memory no more, and not yet be held as lost.
pub record VolumeOn (c : Config) (v : ℕ) (l : Logs) (m : Meaning) : Type 0 where
  pub fits : LogsFit c v l
  pub stands : LogsStand l m
  pub memory : MemoryCovers c v l m
  pub disk : log_trusted c v Drl ≡ true → DiskCovers c v m

-- plexes of the volume may be written in this region: the log is held as lost, or is in memory and has the region
pub record MayTouch (c : Config) (v : ℕ) (l : Logs) (r : ℕ) : Type 0 where
  pub some : log_trusted c v Drl ≡ true → l.drl ≡ None → ⊥
  pub held : (d : Dirty) → l.drl ≡ Some d → is_dirty d r ≡ true

-- such values are none of the logs of the volume, and are none of its plexes that are ACTIVE but in such regions
pub record SparesVolume (W : Values) (c : Config) (v : ℕ) (l : Logs) : Type 0 where
  pub logs : (u b : ℕ) (x : List ℕ) → W u b x → OnLogs c v u b x → ⊥
  pub plexes : (b p : ℕ) (x : List ℕ) → Inside c v b → IsTrue (active c v p) → W (place c v p b).0 (place c v p b).1 x → MayTouch c v l (b / REGION)
