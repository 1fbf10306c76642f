-- What stands of a group with logs as facts, which have no choice in them: a ghost field can hold them.
use Rattle.std.specs.Prelude.{◌≡◌, ℕ, ◌*◌, ◌≤◌, Bool, true, false, IsTrue, Some, is_some, List, length, slice_get}
use Rattle.vx_bitmap.specs.Maps.{Map}
use Rattle.vx_config.specs.Checks.{blocks_of, plexes_of}
use Rattle.vx_config.specs.declared.config.Config.{Config}
use Rattle.vx_config.specs.declared.entry.LogEntry.{LogEntry}
use Rattle.vx_config.specs.declared.entry.VolumeLog.{VolumeLog}
use Rattle.vx_config.specs.declared.entry.VolumeLog.TheVariants.{Drl, Fmr}
use Rattle.vx_disk.specs.Shelf.{Meaning}
use Rattle.vx_drl.specs.Dirty.{Dirty}
use Rattle.vx_fmr.specs.Missed.{Missed}
use Rattle.vx_groupmaps.specs.Knowing.{MapsKnow}
use Rattle.vx_group.specs.Holding.{GroupStands, wide}
use Rattle.vx_group.specs.declared.group_core.GroupCore.{GroupCore}
use Rattle.vx_grouplogs.specs.Covering.{DiskCovers, MemoryCovers}
use Rattle.vx_group.specs.Settles.{ReadsOne}
use Rattle.vx_kept.specs.LogRuns.{log_trusted}
use Rattle.vx_logs.specs.Held.{LogsStand}
use Rattle.vx_logs.specs.declared.logs.Logs.{Logs}
use Rattle.vx_maplog.specs.Logs.{log_blocks, log_of}
use Rattle.vx_model.specs.Sizes.{map_blocks, regions_of}
use Rattle.vx_model.specs.declared.limits.TheConstants.{BLOCK, MAP_REGIONS, MOST_MAP_BLOCKS}
use Rattle.vx_loggroup.specs.LoggedVolumes.{is_alike}

-- a map in memory lies where the configuration has the log
pub record RunFact (c : Config) (v : ℕ) (log : VolumeLog) (map : Map) : Type 0 where
  pub has : is_some (log_of c v log) ≡ true
  pub there : (e : LogEntry) → log_of c v log ≡ Some e → map.unit ≡ e.disk
  pub begins : (e : LogEntry) → log_of c v log ≡ Some e → map.first ≡ e.start
  pub long : length map.bytes ≡ BLOCK * log_blocks c v log
  pub few : log_blocks c v log ≤ MOST_MAP_BLOCKS

-- so does a dirty region log, with a bit for each region
pub record DrlFact (c : Config) (v : ℕ) (d : Dirty) : Type 0 where
  pub run : RunFact c v Drl d.map
  pub regions : d.regions ≡ regions_of (blocks_of c.volumes v)

-- and a log of missed regions, with one for each region of each plex
pub record FmrFact (c : Config) (v : ℕ) (f : Missed) : Type 0 where
  pub run : RunFact c v Fmr f.map
  pub plexes : f.plexes ≡ plexes_of c v
  pub stride : f.stride ≡ MAP_REGIONS * map_blocks (blocks_of c.volumes v)
  pub regions : f.regions ≡ regions_of (blocks_of c.volumes v)

-- the logs of a volume stand
pub record LogFact (c : Config) (v : ℕ) (l : Logs) (m : Meaning) : Type 0 where
  pub drl : (d : Dirty) → l.drl ≡ Some d → DrlFact c v d
  pub fmr : (f : Missed) → l.fmr ≡ Some f → FmrFact c v f
  pub stands : LogsStand l m
  pub memory : MemoryCovers c v l m
  pub disk : log_trusted c v Drl ≡ true → DiskCovers c v m

-- the same of a volume
pub record VolumeFact (core : GroupCore) (v : ℕ) (l : Logs) (same stopped : Bool) (m : Meaning) : Type 0 where
  pub on : stopped ≡ false → LogFact (wide core).config v l m
  pub maps : stopped ≡ false → MapsKnow (wide core).config v l m
  pub alike : same ≡ true → (IsTrue m.down → ⊥) → ReadsOne (wide core).config v m

-- and of each volume of a group that stands
pub record LoggedFact (core : GroupCore) (logs : List Logs) (alike : List Bool) (stopped : Bool) (m : Meaning) : Type 0 where
  pub group : GroupStands core m
  pub many : length logs ≡ length core.inner.config.volumes
  pub each : (v : ℕ) (l : Logs) → slice_get logs v ≡ Some l → VolumeFact core v l (is_alike alike v) stopped m
