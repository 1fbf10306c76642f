-- What an import takes up of a log of missed regions.
use Rattle.std.specs.Prelude.{◌≡◌, ◌⊎◌, ℕ, Bool, true, false, not, ◌&&◌, IsTrue, Option, Some, None, List, slice_get}
use Rattle.vx_config.specs.declared.config.Config.{Config}
use Rattle.vx_config.specs.declared.entry.DiskEntry.{DiskEntry}
use Rattle.vx_config.specs.declared.entry.LogEntry.{LogEntry}
use Rattle.vx_config.specs.declared.entry.VolumeLog.{VolumeLog}
use Rattle.vx_config.specs.declared.entry.VolumeLog.TheVariants.{Fmr as FmrLog}
use Rattle.vx_disk.specs.Counts.{Rose}
use Rattle.vx_disk.specs.Shelf.{Meaning}
use Rattle.vx_fmr.specs.Missed.{Missed}
use Rattle.vx_logs.specs.Held.{FmrFound}
use Rattle.vx_maplog.specs.Logs.{log_of, is_used}
use Rattle.vx_model.specs.declared.errors.Stop.{Stop}
use Rattle.vx_model.specs.declared.errors.Stop.TheVariants.{No as Refused, OutOfMemory}
use Rattle.vx_model.specs.declared.no.No.TheVariants as refusal

abbrev pub held_failed : LogEntry → Option DiskEntry → Bool
held_failed e None = false
held_failed e (Some d) = not e.lost && d.failed

abbrev pub failed_under : List DiskEntry → Option LogEntry → Bool
failed_under disks None = false
failed_under disks (Some e) = held_failed e (slice_get disks e.disk)

-- whether a volume has such a log that is not lost, on a disk that is held as failed
abbrev pub on_failed_disk : Config → ℕ → VolumeLog → Bool
on_failed_disk c v log = failed_under c.disks (log_of c v log)

-- a device call failed
pub record DeviceRose (m m' : Meaning) : Type 0 where
  pub disk : ℕ
  pub rose : Rose (m.disk_faults disk) (m'.disk_faults disk)

-- The log that is in use is in memory, as it was read; or it is lost, since its disk is held as failed or a device call failed.
abbrev pub TakesMaps : Config → ℕ → Option Missed → Bool → Meaning → Meaning → Type 0
TakesMaps c v o true m m' = (o ≡ None) × (is_used c v FmrLog ≡ true) × ((on_failed_disk c v FmrLog ≡ true) ⊎ DeviceRose m m')
TakesMaps c v o false m m' = FmrFound c v o m m' × (on_failed_disk c v FmrLog ≡ false)

-- the refusals: the shelf is down, or memory ran out
abbrev pub LoadIsRefused : Meaning → Stop → Type 0
LoadIsRefused m (Refused refusal.Down) = IsTrue m.down
LoadIsRefused m (Refused other) = ⊥
LoadIsRefused m OutOfMemory = Unit {0}
