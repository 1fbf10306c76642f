-- An import that goes by the dirty region logs of the volumes.
use Rattle.std.specs.Prelude.{◌≡◌, ◌⊎◌, ℕ, ◌/◌, ◌<◌, Bool, true, false, IsTrue, Option, Some, None, List, length, slice_get, Result, Ok, Err}
use Rattle.vx_model.specs.declared.errors.Stop.{Stop}
use Rattle.vx_model.specs.declared.limits.TheConstants.{REGION}
use Rattle.vx_bitmap.specs.Maps.{IsRead}
use Rattle.vx_config.specs.Checks.{blocks_of}
use Rattle.vx_config.specs.declared.config.Config.{Config}
use Rattle.vx_config.specs.declared.entry.LogEntry.{LogEntry}
use Rattle.vx_config.specs.declared.entry.VolumeLog.{VolumeLog}
use Rattle.vx_config.specs.declared.entry.VolumeLog.TheVariants.{Drl}
use Rattle.vx_copies.specs.Answers.{good_set}
use Rattle.vx_disk.specs.Blocks.{bit_at}
use Rattle.vx_disk.specs.Shelf.{Goes, Meaning, Nothing}
use Rattle.vx_drl.specs.Dirty.{Dirty}
use Rattle.vx_drl.specs.declared.marks.TheConstants.{MOST_HELD}
use Rattle.vx_layout.specs.Places.{place}
use Rattle.vx_logs.specs.Held.{DrlFits}
use Rattle.vx_logs.specs.declared.logs.Logs.{Logs}
use Rattle.vx_maplog.specs.Logs.{log_of, is_used}
use Rattle.vx_resync.specs.Picks.{marked_or}
use Rattle.vx_volume.specs.Plexes.{Inside, active}
use Rattle.vx_kept.specs.Cleans.{is_unsure}
use Rattle.vx_kept.specs.Groups.{group_meaning}
use Rattle.vx_kept.specs.Keeping.{Acts, SameShape}
use Rattle.vx_group.specs.Attaches.{AnyImage}
use Rattle.vx_group.specs.Imports.{ImportStops, Resumed}
use Rattle.vx_group.specs.Mends.{drl_at}
use Rattle.vx_group.specs.Resumes.{TakenUp, stopped}
use Rattle.vx_group.specs.Stands.{inner_meaning}
use Rattle.vx_grouplogs.specs.Covering.{AllAlike}
use Rattle.vx_groupmaps.specs.Loading.{DeviceRose, on_failed_disk}
use Rattle.vx_grouplogs.specs.On.{VolumeOn}
use Rattle.vx_logimport.specs.Rests.{rests}
use Rattle.vx_logimport.specs.declared.importing.Marked.{Marked}

abbrev pub within_or : ℕ → Option LogEntry → Bool
within_or good None = true
within_or good (Some e) = bit_at good e.disk

-- whether a log of a volume, where it has one, lies on a disk of the set
abbrev pub log_within : ℕ → Config → ℕ → VolumeLog → Bool
log_within good c v log = within_or good (log_of c v log)

-- A log that was read is the one of the volume, which is in use, with bytes that a read gives, on a disk of the set, and one of those that may be read; its marks
-- are taken off as soon as that is asked. None was read only where none is in use, where its disk is held as failed or is none of the set, where a device call
-- failed, where the volume has no block, or where it is none of those that may be.
abbrev pub LogRead : ℕ → List Bool → Config → ℕ → Option Dirty → Meaning → Meaning → Type 0
LogRead good told c v None old new = (is_used c v Drl ≡ false) ⊎ (on_failed_disk c v Drl ≡ true) ⊎ DeviceRose old new ⊎ (blocks_of c.volumes v ≡ 0) ⊎ (log_within good c v Drl ≡ false) ⊎ (rests told v ≡ false)
LogRead good told c v (Some d) old new = (is_used c v Drl ≡ true) × DrlFits c v d × IsRead d.map old × (MOST_HELD < d.held) × (log_within good c v Drl ≡ true) × (rests told v ≡ true)

-- the same of the log of each volume
pub record LogsRead (good : ℕ) (told : List Bool) (c : Config) (logs : List Logs) (old new : Meaning) : Type 0 where
  pub each : (v : ℕ) (l : Logs) → slice_get logs v ≡ Some l → LogRead good told c v l.drl old new

-- the logs of a volume, of which the dirty region log is this one
abbrev pub dirty_logs : Option Dirty → Logs
dirty_logs o = record { drl = o; fmr = None }

-- of each volume there are its logs, and none is one of missed regions
pub record AreDirtyLogs (n : ℕ) (logs : List Logs) : Type 0 where
  pub many : length logs ≡ n
  pub plain : (v : ℕ) (l : Logs) → slice_get logs v ≡ Some l → l.fmr ≡ None

-- A block of a volume that stopped uncleanly, on a plex that takes part, whatever it gets: of a region that the log has, where one was read, and else of
-- any region.
pub record OnStopped (x opened : Config) (logs : List Logs) (u b : ℕ) (value : List ℕ) : Type 0 where
  pub volume : ℕ
  pub plex : ℕ
  pub number : ℕ
  pub unclean : stopped x volume ≡ true
  pub marked : IsTrue (marked_or (drl_at logs volume) (number / REGION))
  pub inside : Inside opened volume number
  pub is_on : IsTrue (active opened volume plex)
  pub at : place opened volume plex number ≡ (u, b)

-- The group goes on as one that was imported, and of its plexes only blocks of volumes that stopped uncleanly were written, of regions that their logs
-- have, as they were read. A log was read only where it may be, on a disk that the configuration which was found holds as good. Each log stands; of each block of a volume
-- that stopped uncleanly a crash leaves one value.
pub record ResumedBy (told : List Bool) (old : Meaning) (k : Marked) (new : Meaning) : Type 0 where
  pub resumed : Resumed old k.core new
  pub config : Config
  pub opened : Config
  pub taken : TakenUp old new config opened
  pub shape : SameShape k.core.config opened
  pub on : (v p : ℕ) → IsTrue (active k.core.config v p) → IsTrue (active opened v p)
  pub goes : Goes Nothing (group_meaning opened (λ v. 0) old) (inner_meaning k.core new)
  pub good : k.good ≡ good_set config.disks
  pub read : LogsRead k.good told opened k.logs.items old new
  pub only : Acts (OnStopped config opened k.logs.items) AnyImage old new
  pub logs : AreDirtyLogs (length k.core.config.volumes) k.logs.items
  pub stand : (v : ℕ) → v < length k.core.config.volumes → VolumeOn k.core.config v (dirty_logs (drl_at k.logs.items v)) new
  pub flags : (v : ℕ) → v < length k.core.config.volumes → is_unsure k.stopped v ≡ stopped config v
  pub alike : (v : ℕ) → v < length k.core.config.volumes → is_unsure k.stopped v ≡ true → AllAlike k.core.config v new

-- how such an import ends
abbrev pub MarkedEnds : List Bool → Meaning → Meaning → Result Marked Stop → Type 0
MarkedEnds told old new (Ok k) = ResumedBy told old k new
MarkedEnds told old new (Err stop) = ImportStops old new stop
