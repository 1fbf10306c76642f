-- What an import takes up of a dirty region log.
use Rattle.std.specs.Prelude.{◌≡◌, ◌⊎◌, ℕ, Bool, true, false, Option, None}
use Rattle.vx_config.specs.declared.config.Config.{Config}
use Rattle.vx_config.specs.declared.entry.VolumeLog.TheVariants.{Drl}
use Rattle.vx_disk.specs.Shelf.{Meaning}
use Rattle.vx_drl.specs.Dirty.{Dirty}
use Rattle.vx_groupmaps.specs.Loading.{DeviceRose, on_failed_disk}
use Rattle.vx_logs.specs.Held.{DrlFound}
use Rattle.vx_maplog.specs.Logs.{is_used}

-- The log that is in use is in memory, as it was read; or it is lost, since its disk is held as failed or a device call failed.
abbrev pub TakesUp : Config → ℕ → Option Dirty → Bool → Meaning → Meaning → Type 0
TakesUp c v o true m m' = (o ≡ None) × (is_used c v Drl ≡ true) × ((on_failed_disk c v Drl ≡ true) ⊎ DeviceRose m m')
TakesUp c v o false m m' = DrlFound c v o m m' × (on_failed_disk c v Drl ≡ false)
