-- A disk that is held as failed.
use Rattle.std.specs.Prelude.{◌≡◌, ℕ, ◌+◌, ◌<◌, Bool, true, false, if◌then◌else◌, List, [], ◌∷◌, length, slice_index_or, slice_set, map}
use Rattle.vx_disk.specs.Blocks.{bit_at}
use Rattle.vx_config.specs.declared.config.Config.{Config}
use Rattle.vx_config.specs.declared.entry.DiskEntry.{DiskEntry}

abbrev pub failed_at : List DiskEntry → ℕ → Bool
failed_at disks k = slice_index_or (map (λ d. d.failed) disks) k false

abbrev pub blocks_at : List DiskEntry → ℕ → ℕ
blocks_at disks k = slice_index_or (map (λ d. d.blocks) disks) k 0

-- how many are held as good
abbrev pub good_count : List DiskEntry → ℕ
good_count [] = 0
good_count (d ∷ ds) = good_count ds + (if d.failed then 0 else 1)

-- the configuration with the disk held as failed
abbrev pub marked : Config → ℕ → Config
marked c disk = record { serial = c.serial; site = c.site; disks = slice_set c.disks disk (record { blocks = blocks_at c.disks disk; failed = true }); volumes = c.volumes; rvg = c.rvg }

-- a disk of the set that is held as good
pub record HasGood (disks : List DiskEntry) (good : ℕ) : Type 0 where
  pub disk : ℕ
  pub below : disk < length disks
  pub held : failed_at disks disk ≡ false
  pub member : bit_at good disk ≡ true

-- each disk of the set below n is held as failed
pub record NoneGood (disks : List DiskEntry) (n good : ℕ) : Type 0 where
  pub each : (u : ℕ) → u < n → bit_at good u ≡ true → failed_at disks u ≡ true
