-- Disks that are held as good again before a plex on them is attached.
use Rattle.std.specs.Prelude.{◌≡◌, ◌⊎◌, ℕ, ◌<◌, ◌≤◌, Bool, true, false, slice_set}
use Rattle.vx_disk.specs.Counts.{Rose}
use Rattle.vx_disk.specs.Shelf.{Meaning}
use Rattle.vx_config.specs.declared.config.Config.{Config}
use Rattle.vx_copies.specs.Commits.{MoreFailed}
use Rattle.vx_copies.specs.Marks.{blocks_at, failed_at}
use Rattle.vx_kept.specs.Commits.{IsCommitted}
use Rattle.vx_volume.specs.Plexes.{uses}
use Rattle.vx_group.specs.Settled.{SameBut}

-- the configuration with the disk held as good
abbrev pub regained : Config → ℕ → Config
regained c disk = record { serial = c.serial; site = c.site; disks = slice_set c.disks disk (record { blocks = blocks_at c.disks disk; failed = false }); volumes = c.volumes; rvg = c.rvg }

-- one disk is held as good again, on which the plex lies; or it was so, or the plex does not lie on it
abbrev pub HeldOne : Config → Config → ℕ → ℕ → ℕ → Bool → Bool → Type 0
HeldOne c d v p disk any result =
    ((d ≡ regained c disk) × (uses c v p disk ≡ true) × (result ≡ true)) ⊎ ((d ≡ c) × (uses c v p disk ≡ true → failed_at c.disks disk ≡ false) × (result ≡ any))

-- the same but that each disk below n on which the plex lies is held as good; where none of them was held as failed nothing has changed
pub record Regained (c d : Config) (v p n : ℕ) (any : Bool) : Type 0 where
  pub same : SameBut c d
  pub blocks : (u : ℕ) → blocks_at d.disks u ≡ blocks_at c.disks u
  pub held : (u : ℕ) → u < n → uses c v p u ≡ true → failed_at d.disks u ≡ false
  pub stays : (u : ℕ) → failed_at c.disks u ≡ false → failed_at d.disks u ≡ false
  pub others : (u : ℕ) → failed_at c.disks u ≡ true → uses c v p u ≡ false → failed_at d.disks u ≡ true
  pub none : any ≡ false → d ≡ c

-- A disk is newly held as failed only where a call on it failed, and held as good again only where the plex lies on it.
pub record Regains (c d : Config) (v p : ℕ) (old new : Meaning) : Type 0 where
  pub blamed : (u : ℕ) → failed_at c.disks u ≡ false → failed_at d.disks u ≡ true → Rose (old.faults u) (new.faults u)
  pub others : (u : ℕ) → failed_at c.disks u ≡ true → uses c v p u ≡ false → failed_at d.disks u ≡ true

-- each disk on which the plex lies is held as good
pub record AreHeld (c : Config) (v p : ℕ) : Type 0 where
  pub each : (u : ℕ) → uses c v p u ≡ true → failed_at c.disks u ≡ false

-- one of them is held as failed
pub record LiesOnFailed (c : Config) (v p : ℕ) : Type 0 where
  pub disk : ℕ
  pub lies : uses c v p disk ≡ true
  pub failed : failed_at c.disks disk ≡ true

-- each of them is held as good, and where one was held as failed each image has this configuration
pub record HoldsNow (c d : Config) (v p : ℕ) (m : Meaning) : Type 0 where
  pub held : AreHeld d v p
  pub committed : LiesOnFailed c v p → IsCommitted d m

-- There was a moment at which each disk on which the plex lies was held as good, by each image too where one was held as failed before; since then
-- no count of a unit fell, and a disk came to be held as failed only where a call on it failed.
pub record HoldsPlex {T : Type 0} (meaning : T → Meaning) (c d : Config) (v p : ℕ) (new : T) : Type 0 where
  pub moment : T
  pub config : Config
  pub volumes : config.volumes ≡ c.volumes
  pub now : HoldsNow c config v p (meaning moment)
  pub rises : (u : ℕ) → (meaning moment).faults u ≤ (meaning new).faults u
  pub failing : MoreFailed (meaning moment) (meaning new) config.disks d.disks
