-- Where a configuration has the logs of its volumes, and which of them are held as lost.
use Rattle.std.specs.Prelude.{ℕ, Bool, false, Option, Some, None}
use Rattle.vx_config.specs.declared.config.Config.{Config}
use Rattle.vx_config.specs.declared.entry.LogEntry.{LogEntry}
use Rattle.vx_config.specs.declared.entry.Subdisk.{Subdisk}
use Rattle.vx_config.specs.declared.entry.VolumeLog.{VolumeLog}
use Rattle.vx_maplog.specs.Logs.{log_of, is_used}

abbrev pub run_or : Option LogEntry → Option Subdisk
run_or None = None
run_or (Some e) = Some (record { disk = e.disk; start = e.start; blocks = e.blocks })

-- the run of blocks of a log, lost or not; none where the volume has no such log
unfoldable pub log_place : Config → ℕ → VolumeLog → Option Subdisk
log_place c v log = run_or (log_of c v log)

abbrev pub lost_or : Option LogEntry → Bool
lost_or None = false
lost_or (Some e) = e.lost

-- whether a log is held as lost
unfoldable pub log_lost : Config → ℕ → VolumeLog → Bool
log_lost c v log = lost_or (log_of c v log)

-- whether a volume has a log that is not held as lost: an import goes by it
unfoldable pub log_trusted : Config → ℕ → VolumeLog → Bool
log_trusted c v log = is_used c v log
