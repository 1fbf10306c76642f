-- Which configurations images have behind calls of a group.
use Rattle.std.specs.Prelude.{◌≡◌, ◌⊎◌, false, List, [], ◌∷◌}
use Rattle.vx_disk.specs.Shelf.{Each, Image, Meaning}
use Rattle.vx_config.specs.declared.config.Config.{Config}
use Rattle.vx_config.specs.declared.entry.DiskEntry.{DiskEntry}
use Rattle.vx_copyfmt.specs.Imports.{Found}
use Rattle.vx_kept.specs.Cleans.{at_serial}
use Rattle.vx_kept.specs.Groups.{found}

-- disks of which none is held as failed
abbrev pub good_disks : List DiskEntry → List DiskEntry
good_disks [] = []
good_disks (d ∷ ds) = record { blocks = d.blocks; failed = false } ∷ good_disks ds

-- a configuration under the serial 0, of which no disk is held as failed
abbrev pub good_config : Config → Config
good_config c = record { serial = 0; site = c.site; disks = good_disks c.disks; volumes = c.volumes; rvg = c.rvg }

-- an image that a crash may leave has this configuration
pub record LeavesConfig (m : Meaning) (x : Config) : Type 0 where
  pub image : Image
  pub left : Each m.leaves image
  pub found : found m image ≡ Found x

-- each image has a configuration that one had before, or such a one
pub record FindsFrom (New : Config → Type 0) (old new : Meaning) : Type 0 where
  pub each : (i : Image) (x : Config) → Each new.leaves i → found new i ≡ Found x → LeavesConfig old x ⊎ New x

-- no configuration
abbrev pub NoConfiguration : Config → Type 0
NoConfiguration x = ⊥

-- one that a commit of this one may begin: the same but for the serial and disks that are held as failed
abbrev pub IsTryOf : Config → Config → Type 0
IsTryOf a x = good_config x ≡ good_config a

-- one that a commit of one of these may begin
abbrev pub IsTryAmong : List Config → Config → Type 0
IsTryAmong [] x = ⊥
IsTryAmong (e ∷ es) x = IsTryOf e x ⊎ IsTryAmong es x

-- each image has this configuration, but for its serial
pub record AllAtOnce (c : Config) (m : Meaning) : Type 0 where
  pub each : (i : Image) (x : Config) → Each m.leaves i → found m i ≡ Found x → at_serial 0 x ≡ at_serial 0 c
