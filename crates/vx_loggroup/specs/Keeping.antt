-- Which logs of its volumes a group uses, and when a call comes to use one no more.
use Rattle.std.specs.Prelude.{◌≡◌, ◌⊎◌, ◌+◌, ◌≤◌, ℕ, Bool, true, false, not, ◌&&◌, IsTrue, Option, Some, None, List, slice_get}
use Rattle.vx_model.specs.declared.limits.TheConstants.{COMMIT_SERIALS}
use Rattle.vx_config.specs.Table.{greatest}
use Rattle.vx_config.specs.declared.config.Config.{Config}
use Rattle.vx_config.specs.declared.entry.Subdisk.{Subdisk}
use Rattle.vx_config.specs.declared.entry.VolumeLog.{VolumeLog}
use Rattle.vx_copies.specs.Marks.{failed_at}
use Rattle.vx_disk.specs.Counts.{Rose}
use Rattle.vx_disk.specs.Shelf.{Meaning}
use Rattle.vx_group.specs.declared.group_core.GroupCore.{GroupCore}
use Rattle.vx_group.specs.Holding.{wide}
use Rattle.vx_grouplogs.specs.Gone.{has_log}
use Rattle.vx_kept.specs.LogRuns.{log_place, log_trusted}
use Rattle.vx_logged.specs.Behind.{AreKept, BothKept}
use Rattle.vx_logs.specs.declared.logs.Logs.{Logs}

abbrev pub has_or : VolumeLog → Option Logs → Bool
has_or log None = false
has_or log (Some l) = has_log log l

-- whether a log of volume v is in memory
abbrev pub in_memory : List Logs → ℕ → VolumeLog → Bool
in_memory logs v log = has_or log (slice_get logs v)

abbrev pub logs_or : Option Logs → Logs
logs_or None = record { drl = None; fmr = None }
logs_or (Some l) = l

-- the logs of volume v in memory
abbrev pub logs_at : List Logs → ℕ → Logs
logs_at logs v = logs_or (slice_get logs v)

abbrev pub lies_well : Config → Option Subdisk → Bool
lies_well c None = false
lies_well c (Some s) = not (failed_at c.disks s.disk)

-- whether a log of volume v is in use: it is in memory, and by the configuration neither is it lost nor its disk failed
unfoldable pub uses_log : Config → List Logs → ℕ → VolumeLog → Bool
uses_log c logs v log = in_memory logs v log && (log_trusted c v log && lies_well c (log_place c v log))

-- a log in use stays in use, or the count of its disk rose, or the shelf is down
pub record LogsStay (c d : Config) (l k : List Logs) (old new : Meaning) : Type 0 where
  pub each : (v : ℕ) (log : VolumeLog) (s : Subdisk) → log_place c v log ≡ Some s → uses_log c l v log ≡ true → (uses_log d k v log ≡ true) ⊎ Rose (old.faults s.disk) (new.faults s.disk) ⊎ IsTrue new.down

-- The same of a group, or no serial is left to commit that a log is lost.
pub record LogsKeep (c d : GroupCore) (l k : List Logs) (old new : Meaning) : Type 0 where
  pub each : (v : ℕ) (log : VolumeLog) (s : Subdisk) → log_place c.inner.config v log ≡ Some s → uses_log c.inner.config l v log ≡ true
      → (uses_log d.inner.config k v log ≡ true) ⊎ Rose (old.faults s.disk) (new.faults s.disk) ⊎ IsTrue new.down ⊎ (greatest ≤ d.inner.config.serial + COMMIT_SERIALS)

abbrev pub KeptOr : GroupCore → ℕ → Option Logs → Type 0
KeptOr core v None = Unit {0}
KeptOr core v (Some l) = AreKept core v l

-- of volume v a log that is in memory no more is held as lost, unless no serial is left to say so
abbrev pub LogsKept : GroupCore → List Logs → ℕ → Type 0
LogsKept core logs v = KeptOr core v (slice_get logs v)

-- each log of volume v is in memory, or held as lost
pub record LogsSure (core : GroupCore) (logs : List Logs) (v : ℕ) : Type 0 where
  pub each : (l : Logs) → slice_get logs v ≡ Some l → BothKept core v l

-- A call behind which a log that is in memory no more is held as lost, of each volume of which it was so before, unless no serial is left to say so.
pub record SureKept (c d : GroupCore) (l k : List Logs) : Type 0 where
  pub each : (v : ℕ) → LogsSure c l v → LogsKept d k v

-- the same, unless no serial was left before it
pub record SaysLosses (c d : GroupCore) (l k : List Logs) : Type 0 where
  pub each : (v : ℕ) → LogsKept c l v → LogsKept d k v ⊎ (greatest ≤ c.inner.config.serial + COMMIT_SERIALS)

-- A log that is trusted behind a call was so before it, or is one of volume v that is in memory then.
pub record TrustsNew (v : ℕ) (k : Logs) (c d : GroupCore) : Type 0 where
  pub each : (w : ℕ) (log : VolumeLog) → log_trusted (wide d).config w log ≡ true → (log_trusted (wide c).config w log ≡ true) ⊎ ((w ≡ v) × (has_log log k ≡ true))
