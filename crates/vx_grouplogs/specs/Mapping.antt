-- A log of missed regions by itself, and what it has as it begins.
use Rattle.std.specs.Prelude.{◌≡◌, ℕ, ◌<◌, not, Option, None, Some}
use Rattle.vx_config.specs.Checks.{blocks_of, plexes_of}
use Rattle.vx_config.specs.declared.config.Config.{Config}
use Rattle.vx_fmr.specs.Missed.{Missed, has_missed}
use Rattle.vx_logs.specs.declared.logs.Logs.{Logs}
use Rattle.vx_model.specs.Sizes.{regions_of}
use Rattle.vx_volume.specs.Plexes.{active}

-- the logs of a volume, of which the log of missed regions is this one
abbrev pub map_logs : Option Missed → Logs
map_logs o = record { drl = None; fmr = o }

-- the maps of a volume as they begin: a plex that is ACTIVE has missed no region, and each other one all of them
pub record AreBegun (c : Config) (v : ℕ) (l : Logs) : Type 0 where
  pub each : (f : Missed) → l.fmr ≡ Some f → (p r : ℕ) → p < plexes_of c v → r < regions_of (blocks_of c.volumes v) → has_missed f p r ≡ not (active c v p)
