-- That the regions of a write are marked before its plexes get a block.
use Rattle.std.specs.Prelude.{◌≡◌, ◌⊎◌, ℕ, ◌+◌, ◌*◌, ◌≤◌, true, IsTrue}
use Rattle.vx_model.specs.Sizes.{map_blocks}
use Rattle.vx_model.specs.declared.limits.TheConstants.{MAP_REGIONS}
use Rattle.vx_config.specs.Checks.{blocks_of as blocks_in}
use Rattle.vx_config.specs.declared.config.Config.{Config}
use Rattle.vx_config.specs.declared.entry.LogEntry.{LogEntry}
use Rattle.vx_config.specs.declared.entry.VolumeLog.TheVariants.{Drl as DrlLog, Fmr as FmrLog}
use Rattle.vx_disk.specs.Moves.{Beside}
use Rattle.vx_disk.specs.Shelf.{Image, Meaning}
use Rattle.vx_logs.specs.Held.{InUse, LogsRun, LogsStand, LogsWhole, logged_in, stale}
use Rattle.vx_logs.specs.declared.logs.Logs.{Logs}

-- for how many regions the map of each plex has bits
abbrev pub stride_of : Config → ℕ → ℕ
stride_of c v = MAP_REGIONS * map_blocks (blocks_in c.volumes v)

-- an image has the regions of a run in each log that the configuration has and does not hold as lost: as dirty, and as missed by each plex
-- that is STALE
pub record AreMarked (c : Config) (v first last : ℕ) (i : Image) : Type 0 where
  pub dirty : (e : LogEntry) → InUse c v DrlLog e → (r : ℕ) → first ≤ r → r ≤ last → logged_in e i r ≡ true
  pub missed : (e : LogEntry) → InUse c v FmrLog e → (p r : ℕ) → IsTrue (stale c v p) → first ≤ r → r ≤ last → logged_in e i (p * stride_of c v + r) ≡ true

-- An image in a write, where the logs in use are in memory and stand: until its regions are marked no block but those of the logs has a value
-- that it did not have.
pub record MarksFirst (c : Config) (v first last : ℕ) (l : Logs) (m : Meaning) (i : Image) : Type 0 where
  pub so : LogsWhole c v l → LogsStand l m → Beside (LogsRun l) m.leaves i ⊎ AreMarked c v first last i
