-- Logs of a volume that a call takes out of memory.
use Rattle.std.specs.Prelude.{◌≡◌, ◌⊎◌, ℕ, Bool, true, false, IsTrue, Some, is_some}
use Rattle.vx_config.specs.declared.config.Config.{Config}
use Rattle.vx_config.specs.declared.entry.Subdisk.{Subdisk}
use Rattle.vx_config.specs.declared.entry.VolumeLog.{VolumeLog}
use Rattle.vx_config.specs.declared.entry.VolumeLog.TheVariants.{Drl, Fmr}
use Rattle.vx_disk.specs.Counts.{Rose}
use Rattle.vx_disk.specs.Shelf.{Meaning}
use Rattle.vx_kept.specs.LogRuns.{log_place}
use Rattle.vx_logs.specs.declared.logs.Logs.{Logs}

-- whether a log of a volume is in memory
abbrev pub has_log : VolumeLog → Logs → Bool
has_log Drl l = is_some l.drl
has_log Fmr l = is_some l.fmr

-- A log that was in memory is so, or the count of the disk on which it lies rose, or the shelf is down; and none is in memory that was not.
pub record LogsDrop (c : Config) (v : ℕ) (l k : Logs) (old new : Meaning) : Type 0 where
  pub gone : (log : VolumeLog) (s : Subdisk) → log_place c v log ≡ Some s → has_log log l ≡ true → has_log log k ≡ false → Rose (old.faults s.disk) (new.faults s.disk) ⊎ IsTrue new.down
  pub none : (log : VolumeLog) → has_log log k ≡ true → has_log log l ≡ true
