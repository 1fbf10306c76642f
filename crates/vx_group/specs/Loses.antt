-- Plexes that a call takes out of use, and disks that it comes to hold as failed.
use Rattle.std.specs.Prelude.{◌≡◌, ◌⊎◌, ℕ, ◌≤◌, IsTrue, length, true}
use Rattle.vx_disk.specs.Shelf.{Meaning}
use Rattle.vx_config.specs.declared.config.Config.{Config}
use Rattle.vx_config.specs.declared.entry.VolumeLog.{VolumeLog}
use Rattle.vx_copies.specs.Commits.{MoreFailed}
use Rattle.vx_volume.specs.Plexes.{active, uses}
use Rattle.vx_volume.specs.Volumes.{PlexBlamed}
use Rattle.vx_kept.specs.Keeping.{frame_at}
use Rattle.vx_kept.specs.LogRuns.{log_trusted}

-- the same but for the serial, which does not fall, the volumes, and disks that are held as failed
pub record SameParts (c d : Config) : Type 0 where
  pub site : d.site ≡ c.site
  pub rvg : d.rvg ≡ c.rvg
  pub count : length d.disks ≡ length c.disks
  pub later : c.serial ≤ d.serial

-- a call on a disk of some plex of the volume failed
abbrev pub AnyBlamed : Config → ℕ → Meaning → Meaning → Type 0
AnyBlamed c v old new = (q : ℕ) × PlexBlamed c v q old new

-- The same volumes but for the states of their plexes, which lie on the disks on which they lay. One that was ACTIVE is so, or a call on one of its
-- disks failed; one that was not is not, or a call on another one failed, as one that is held back may be the last one. A disk is newly held as failed
-- only where a call on it failed.
pub record LosesPlexes (c d : Config) (old new : Meaning) : Type 0 where
  pub parts : SameParts c d
  pub frames : (v : ℕ) → frame_at d v ≡ frame_at c v
  pub lies : (v p u : ℕ) → uses d v p u ≡ uses c v p u
  pub on : (v p : ℕ) → IsTrue (active d v p) → IsTrue (active c v p) ⊎ AnyBlamed c v old new
  pub plexes : (v p : ℕ) → IsTrue (active c v p) → IsTrue (active d v p) ⊎ PlexBlamed c v p old new
  pub disks : MoreFailed old new c.disks d.disks

-- the same, and no count of a unit fell: calls in a row
pub record LosesAlong (c d : Config) (old new : Meaning) : Type 0 where
  pub loses : LosesPlexes c d old new
  pub rises : (u : ℕ) → old.faults u ≤ new.faults u

-- no log is held as lost that was not
pub record TrustsStill (c d : Config) : Type 0 where
  pub each : (v : ℕ) (log : VolumeLog) → log_trusted c v log ≡ true → log_trusted d v log ≡ true

-- but for this log of volume v
pub record TrustsBut (v : ℕ) (this : VolumeLog) (c d : Config) : Type 0 where
  pub each : (w : ℕ) (log : VolumeLog) → ((w ≡ v) × (log ≡ this) → ⊥) → log_trusted c w log ≡ true → log_trusted d w log ≡ true
