-- What is left where a site came up and can't be kept.
use Rattle.std.specs.Prelude.{◌≡◌, ℕ, ◌≤◌, IsFalse}
use Rattle.vx_model.specs.declared.limits.TheConstants.{LEAST_BLOCKS, MOST_DISKS}
use Rattle.vx_history.specs.World.{Node}
use Rattle.vx_disk.specs.Causes.{WithDisks}
use Rattle.vx_disk.specs.Shelf.{Meaning}
use Rattle.vx_diskset.specs.Stands.{bare_with}

-- disks that crashed and are up again, without a fuse
pub record Revived (old new : Meaning) : Type 0 where
  pub units : new.units ≡ old.units
  pub size : (u : ℕ) → new.size u ≡ old.size u
  pub tells : new.tells ≡ old.tells
  pub faults : (d : ℕ) → new.disk_faults d ≡ old.disk_faults d
  pub up : IsFalse new.down
  pub unarmed : IsFalse new.armed
  pub failing : WithDisks old.disks new.disks (λ o n. (u : ℕ) → n.failing u ≡ o.failing u)

-- a bare site with the disks of this one
pub record IsBareOf (n k : Node) : Type 0 where
  pub is : n ≡ bare_with n
  pub few : n.disks ≤ MOST_DISKS
  pub some : LEAST_BLOCKS ≤ n.blocks
  pub disks : k.disks ≡ n.disks
  pub blocks : k.blocks ≡ n.blocks
