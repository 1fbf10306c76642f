-- Where a configuration has the logs of a volume, and the map that is read of one.
use Rattle.std.specs.Prelude.{◌≡◌, ℕ, ◌*◌, ◌<◌, ◌≤◌, Bool, true, false, not, List, length, Option, Some, None, slice_get}
use Rattle.vx_model.specs.Sizes.{map_blocks}
use Rattle.vx_model.specs.declared.limits.TheConstants.{BLOCK, MOST_MAP_BLOCKS}
use Rattle.vx_disk.specs.Shelf.{Meaning}
use Rattle.vx_config.specs.Checks.{blocks_of, is_sound, plexes_of}
use Rattle.vx_config.specs.declared.config.Config.{Config}
use Rattle.vx_config.specs.declared.entry.DiskEntry.{DiskEntry}
use Rattle.vx_config.specs.declared.entry.LogEntry.{LogEntry}
use Rattle.vx_config.specs.declared.entry.VolumeEntry.{VolumeEntry}
use Rattle.vx_config.specs.declared.entry.VolumeLog.{VolumeLog}
use Rattle.vx_config.specs.declared.entry.VolumeLog.TheVariants.{Drl, Fmr}
use Rattle.vx_bitmap.specs.Maps.{Map}

-- one of the logs of a volume
abbrev pub log_in : VolumeLog → VolumeEntry → Option LogEntry
log_in Drl v = v.drl
log_in Fmr v = v.fmr

abbrev pub log_or : VolumeLog → Option VolumeEntry → Option LogEntry
log_or log None = None
log_or log (Some v) = log_in log v

-- the same by the volume's place; none where there is no such volume
abbrev pub log_of : Config → ℕ → VolumeLog → Option LogEntry
log_of c v log = log_or log (slice_get c.volumes v)

abbrev pub used_or : Option LogEntry → Bool
used_or None = false
used_or (Some e) = not e.lost

-- whether a configuration has a log and does not hold it as lost
abbrev pub is_used : Config → ℕ → VolumeLog → Bool
is_used c v log = used_or (log_of c v log)

-- how many maps a log has: one of dirty regions, and one of missed regions for each plex
abbrev pub maps_in_log : VolumeLog → ℕ → ℕ
maps_in_log Drl plexes = 1
maps_in_log Fmr plexes = plexes

-- the blocks of a log
abbrev pub log_blocks : Config → ℕ → VolumeLog → ℕ
log_blocks c v log = maps_in_log log (plexes_of c v) * map_blocks (blocks_of c.volumes v)

-- a volume of a checked configuration has blocks and this log
pub record HasLog (c : Config) (v : ℕ) (log : VolumeLog) : Type 0 where
  pub sound : is_sound c ≡ true
  pub entry : LogEntry
  pub is : log_of c v log ≡ Some entry
  pub some : 0 < blocks_of c.volumes v

-- the disks of a configuration are units of a shelf, each with at least its blocks
pub record DisksReach (disks : List DiskEntry) (m : Meaning) : Type 0 where
  pub there : (u : ℕ) (d : DiskEntry) → slice_get disks u ≡ Some d → u < m.units
  pub size : (u : ℕ) (d : DiskEntry) → slice_get disks u ≡ Some d → d.blocks ≤ m.size u

-- a map in so many blocks of a unit from this one on, which are not too many
pub record MapInRun (unit first blocks : ℕ) (map : Map) : Type 0 where
  pub there : map.unit ≡ unit
  pub begins : map.first ≡ first
  pub long : length map.bytes ≡ BLOCK * blocks
  pub few : blocks ≤ MOST_MAP_BLOCKS

-- the map of a log, where the configuration has it
pub record LogLoaded (c : Config) (v : ℕ) (log : VolumeLog) (map : Map) : Type 0 where
  pub entry : LogEntry
  pub is : log_of c v log ≡ Some entry
  pub run : MapInRun entry.disk entry.start (log_blocks c v log) map
