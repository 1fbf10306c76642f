-- What plexes that take no part have noted of a run.
use Rattle.std.specs.Prelude.{◌≡◌, ℕ, ◌<◌, ◌≤◌, Bool, true, false, Some, List}
use Rattle.vx_config.specs.Checks.{plexes_of}
use Rattle.vx_config.specs.declared.config.Config.{Config}
use Rattle.vx_fmr.specs.Missed.{Missed, has_missed}
use Rattle.vx_group.specs.declared.group_core.GroupCore.{GroupCore}
use Rattle.vx_logs.specs.declared.logs.Logs.{Logs}
use Rattle.vx_volume.specs.Plexes.{active}
use Rattle.vx_logged.specs.Begun.{fell_now}

-- where there is a map of missed regions, each plex that is not ACTIVE has noted the regions of a run
pub record HoldsRun (c : Config) (v first last : ℕ) (l : Logs) : Type 0 where
  pub each : (f : Missed) → l.fmr ≡ Some f → (p r : ℕ) → p < plexes_of c v → active c v p ≡ false → first ≤ r → r ≤ last → has_missed f p r ≡ true

-- so have these plexes
pub record TheseHold (these : ℕ → Bool) (first last : ℕ) (l : Logs) : Type 0 where
  pub each : (f : Missed) → l.fmr ≡ Some f → (p r : ℕ) → these p ≡ true → first ≤ r → r ≤ last → has_missed f p r ≡ true

-- none of the first n plexes of a list fell
pub record NoneFell (was : List Bool) (core : GroupCore) (v n : ℕ) : Type 0 where
  pub each : (p : ℕ) → p < n → fell_now was core v p ≡ false
