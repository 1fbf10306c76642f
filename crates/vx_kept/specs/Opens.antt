-- Plexes that an import puts from CLEAN into ACTIVE, in a configuration in memory.
use Rattle.std.specs.Prelude.{◌≡◌, ℕ, ◌<◌, ◌≤◌, IsTrue, length}
use Rattle.vx_model.specs.declared.limits.TheConstants.{MOST_PLEXES}
use Rattle.vx_config.specs.declared.config.Config.{Config}
use Rattle.vx_config.specs.declared.entry.VolumeLog.{VolumeLog}
use Rattle.vx_layout.specs.Places.{plex_at}
use Rattle.vx_maplog.specs.Logs.{log_of}
use Rattle.vx_volume.specs.Plexes.{active}
use Rattle.vx_kept.specs.Choice.{live}
use Rattle.vx_kept.specs.Keeping.{SameShape}

-- the same volumes with the same logs, of which the same plexes take part
pub record SameLives (c d : Config) : Type 0 where
  pub shape : SameShape d c
  pub serial : d.serial ≡ c.serial
  pub site : d.site ≡ c.site
  pub disks : d.disks ≡ c.disks
  pub rvg : d.rvg ≡ c.rvg
  pub lives : (x q : ℕ) → live d x q ≡ live c x q
  pub logs : (x : ℕ) (log : VolumeLog) → log_of d x log ≡ log_of c x log

-- so it is, and of the plexes of a volume from number k on each that takes part is ACTIVE; the others are as they were
pub record OpenFrom (v k : ℕ) (c d : Config) : Type 0 where
  pub alike : SameLives c d
  pub same : (x q : ℕ) → (x ≡ v → k ≤ q → ⊥) → plex_at d x q ≡ plex_at c x q
  pub on : (q : ℕ) → k ≤ q → q < MOST_PLEXES → IsTrue (live d v q) → IsTrue (active d v q)

-- the same of all plexes of the volumes from number n on
pub record OpenVolumes (n : ℕ) (c d : Config) : Type 0 where
  pub alike : SameLives c d
  pub same : (x q : ℕ) → (n ≤ x → ⊥) → plex_at d x q ≡ plex_at c x q
  pub on : (x q : ℕ) → n ≤ x → x < length c.volumes → q < MOST_PLEXES → IsTrue (live d x q) → IsTrue (active d x q)
