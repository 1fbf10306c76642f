-- A log of a volume that is lost, in a configuration in memory.
use Rattle.std.specs.Prelude.{◌≡◌, ℕ, true}
use Rattle.vx_config.specs.Changes.{lost_as}
use Rattle.vx_config.specs.declared.config.Config.{Config}
use Rattle.vx_config.specs.declared.entry.VolumeLog.{VolumeLog}
use Rattle.vx_kept.specs.Keeping.{SameShape}
use Rattle.vx_layout.specs.Places.{plex_at}
use Rattle.vx_maplog.specs.Logs.{log_of}

-- the same volumes with the same plexes, on the same disks
pub record SamePlexes (c d : Config) : Type 0 where
  pub shape : SameShape d c
  pub plexes : (x q : ℕ) → plex_at d x q ≡ plex_at c x q
  pub serial : d.serial ≡ c.serial
  pub site : d.site ≡ c.site
  pub disks : d.disks ≡ c.disks
  pub rvg : d.rvg ≡ c.rvg

-- this log of the volume is held as lost, where it is there, and each other log of the group is as it was
pub record LosesLog (v : ℕ) (log : VolumeLog) (c d : Config) : Type 0 where
  pub here : log_of d v log ≡ lost_as true (log_of c v log)
  pub others : (x : ℕ) (k : VolumeLog) → (x ≡ v → k ≡ log → ⊥) → log_of d x k ≡ log_of c x k
