-- The logs of a volume in memory, and what they have to do with a configuration and a shelf.
use Rattle.std.specs.Prelude.{◌≡◌, ◌⊎◌, ℕ, ◌+◌, ◌/◌, ◌%◌, Bool, true, false, Option, Some, None}
use Rattle.vx_model.specs.declared.limits.TheConstants.{MAP_REGIONS}
use Rattle.vx_model.specs.Sizes.{regions_of as regions_in}
use Rattle.vx_bitmap.specs.Bits.{is_marked}
use Rattle.vx_bitmap.specs.Maps.{IsRead, MapOn, map_block_count}
use Rattle.vx_config.specs.Checks.{blocks_of as blocks_in, is_stale}
use Rattle.vx_config.specs.declared.config.Config.{Config}
use Rattle.vx_config.specs.declared.entry.LogEntry.{LogEntry}
use Rattle.vx_config.specs.declared.entry.PlexEntry.{PlexEntry}
use Rattle.vx_config.specs.declared.entry.VolumeLog.{VolumeLog}
use Rattle.vx_config.specs.declared.entry.VolumeLog.TheVariants.{Drl as DrlLog, Fmr as FmrLog}
use Rattle.vx_disk.specs.Moves.{Blocks, Nowhere, Run, Settled}
use Rattle.vx_disk.specs.Shelf.{Image, Meaning}
use Rattle.vx_drl.specs.Dirty.{Dirty}
use Rattle.vx_fmr.specs.Missed.{FmrLoaded, Missed}
use Rattle.vx_layout.specs.Places.{plex_at}
use Rattle.vx_maplog.specs.Logs.{LogLoaded, log_of, is_used}
use Rattle.vx_logs.specs.declared.logs.Logs.{Logs}

abbrev pub stale_or : Option PlexEntry → Bool
stale_or None = false
stale_or (Some p) = is_stale p.state

-- whether a plex is STALE
unfoldable pub stale : Config → ℕ → ℕ → Bool
stale c v p = stale_or (plex_at c v p)

-- a log that a configuration has and does not hold as lost
pub record InUse (c : Config) (v : ℕ) (log : VolumeLog) (e : LogEntry) : Type 0 where
  pub is : log_of c v log ≡ Some e
  pub kept : e.lost ≡ false

-- whether an image has bit k of a log
abbrev pub logged_in : LogEntry → Image → ℕ → Bool
logged_in e i k = is_marked (i e.disk (e.start + k / MAP_REGIONS)) (k % MAP_REGIONS)

-- a dirty region log in memory is the one of the volume, with a bit for each region
pub record DrlFits (c : Config) (v : ℕ) (d : Dirty) : Type 0 where
  pub log : LogLoaded c v DrlLog d.map
  pub regions : d.regions ≡ regions_in (blocks_in c.volumes v)

-- the logs in memory are those of the volume
pub record LogsFit (c : Config) (v : ℕ) (l : Logs) : Type 0 where
  pub drl : (d : Dirty) → l.drl ≡ Some d → DrlFits c v d
  pub fmr : (f : Missed) → l.fmr ≡ Some f → FmrLoaded c v f

-- each log that the configuration has and does not hold as lost is in memory
pub record LogsWhole (c : Config) (v : ℕ) (l : Logs) : Type 0 where
  pub drl : (e : LogEntry) → InUse c v DrlLog e → (d : Dirty) × (l.drl ≡ Some d)
  pub fmr : (e : LogEntry) → InUse c v FmrLog e → (f : Missed) × (l.fmr ≡ Some f)

-- whatever a crash leaves, their blocks hold them
pub record LogsStand (l : Logs) (m : Meaning) : Type 0 where
  pub drl : (d : Dirty) → l.drl ≡ Some d → MapOn d.map m
  pub fmr : (f : Missed) → l.fmr ≡ Some f → MapOn f.map m

-- the blocks of a dirty region log, where there is one
abbrev pub DrlRun : Option Dirty → Blocks
DrlRun None = Nowhere
DrlRun (Some d) = Run d.map.unit d.map.first (map_block_count d.map)

-- the blocks of a log of missed regions, where there is one
abbrev pub FmrRun : Option Missed → Blocks
FmrRun None = Nowhere
FmrRun (Some f) = Run f.map.unit f.map.first (map_block_count f.map)

-- the blocks of the logs
pub record LogsRun (l : Logs) (u b : ℕ) : Type 0 where
  pub here : DrlRun l.drl u b ⊎ FmrRun l.fmr u b

-- what was read of a dirty region log: none where none is in use, and else that one, which stands where a crash leaves one value at most
abbrev pub DrlFound : Config → ℕ → Option Dirty → Meaning → Meaning → Type 0
DrlFound c v None m m' = is_used c v DrlLog ≡ false
DrlFound c v (Some d) m m' =
    (is_used c v DrlLog ≡ true) × DrlFits c v d × IsRead d.map m × (Settled m (Run d.map.unit d.map.first (map_block_count d.map)) → MapOn d.map m')

-- the same of a log of missed regions
abbrev pub FmrFound : Config → ℕ → Option Missed → Meaning → Meaning → Type 0
FmrFound c v None m m' = is_used c v FmrLog ≡ false
FmrFound c v (Some f) m m' =
    (is_used c v FmrLog ≡ true) × FmrLoaded c v f × IsRead f.map m × (Settled m (Run f.map.unit f.map.first (map_block_count f.map)) → MapOn f.map m')
