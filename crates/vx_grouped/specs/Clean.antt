-- Volumes that stopped cleanly.
use Rattle.std.specs.Prelude.{◌≡◌, ◌<◌, ℕ, false, length}
use Rattle.vx_config.specs.declared.config.Config.{Config}
use Rattle.vx_copyfmt.specs.Imports.{Found}
use Rattle.vx_disk.specs.Shelf.{Each, Image, Meaning}
use Rattle.vx_kept.specs.Groups.{found}
use Rattle.vx_volume.specs.Plexes.{active}

-- a volume stopped cleanly: none of its plexes is ACTIVE
pub record StopsClean (c : Config) (v : ℕ) : Type 0 where
  pub each : (p : ℕ) → active c v p ≡ false

-- of disks that a crash may leave as in this image, with a configuration by which a volume stopped cleanly
pub record StoppedSome (m : Meaning) (v : ℕ) : Type 0 where
  pub image : Image
  pub config : Config
  pub each : Each m.leaves image
  pub finds : found m image ≡ Found config
  pub clean : StopsClean config v
  pub low : v < length config.volumes
