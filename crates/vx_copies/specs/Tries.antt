-- What the tries of a commit make of the disks.
use Rattle.std.specs.Prelude.{◌≡◌, ◌⊎◌, ℕ, ◌+◌, true, false}
use Rattle.vx_disk.specs.Blocks.{bit_at}
use Rattle.vx_disk.specs.Moves.{Moves}
use Rattle.vx_disk.specs.Shelf.{Image, Meaning}
use Rattle.vx_copyfmt.specs.Copies.{Disk}
use Rattle.vx_copyfmt.specs.Commits.{Among, Fit, Forged, FromNew, FromOld, Lower, Tidy, Torn, exactly}
use Rattle.vx_copyio.specs.Putting.{AreasOf, FailedOn, IsMember, LeavesSame, part_of}
use Rattle.vx_copyio.specs.declared.spread.CopyFailed.{CopyFailed}
use Rattle.vx_config.specs.declared.config.Config.{Config}
use Rattle.vx_copies.specs.Answers.{good_set}
use Rattle.vx_copies.specs.Looking.{on_shelf}

-- this configuration, under its serial
pub record IsThis (c : Config) (serial : ℕ) (found : Config) : Type 0 where
  pub serial_is : serial ≡ c.serial
  pub config_is : found ≡ c

-- Where a disk is ready for this configuration, it has the copy of before or one of this configuration, or that of before is torn; and it is
-- ready for the next one.
pub record OldOrThis (c : Config) (u : ℕ) (m : Meaning) (d : Disk) : Type 0 where
  pub each : Fit (on_shelf m) c.serial (m.leaves u) → FromOld (on_shelf m) (m.leaves u) d ⊎ FromNew (on_shelf m) (IsThis c) (m.leaves u) d ⊎ Torn (on_shelf m) (m.leaves u) d
  pub fit : Fit (on_shelf m) c.serial (m.leaves u) → Tidy (on_shelf m) (c.serial + 1) (exactly d) ⊎ Forged (m.leaves u) d

-- the same of each of these disks in an image
pub record OldOrThese (disks : ℕ → Type 0) (c : Config) (m : Meaning) (i : Image) : Type 0 where
  pub each : (u : ℕ) → disks u → OldOrThis c u m (i u)

-- A try to write a configuration to these disks: at each moment a crash leaves each of them with the copy of before or the new one, and
-- the others as they were; and so it does now. No header is above the new ones.
pub record Tried (disks : ℕ → Type 0) (c : Config) (old new : Meaning) : Type 0 where
  pub moves : Moves (AreasOf disks) (OldOrThese disks c old) old new
  pub leaves : (u : ℕ) (d : Disk) → disks u → Among (new.leaves u) d → OldOrThis c u old d
  pub lower : (u : ℕ) → disks u → Lower c.serial (old.leaves u) → Lower (c.serial + 1) (new.leaves u)

-- where no header of the disk has this serial or a greater one, it has the new copy, and the next one goes to one area
pub record HasThis (c : Config) (u : ℕ) (old new : Meaning) : Type 0 where
  pub made : (d : Disk) → Lower c.serial (old.leaves u) → Among (new.leaves u) d → FromNew (on_shelf old) (IsThis c) (old.leaves u) d
  pub tidy : Lower c.serial (old.leaves u) → Tidy (on_shelf old) (c.serial + 1) (new.leaves u)

-- each of these disks has it
pub record AllThis (disks : ℕ → Type 0) (c : Config) (old new : Meaning) : Type 0 where
  pub each : (u : ℕ) → disks u → HasThis c u old new

-- why the configuration was not written to one of these disks; the others of them have the new copy, or are as they were
pub record TryStops (disks : ℕ → Type 0) (c : Config) (old new : Meaning) (failed : CopyFailed) : Type 0 where
  pub member : disks failed.disk
  pub cause : FailedOn old new failed.disk failed.error
  pub others : (u : ℕ) → disks u → (u ≡ failed.disk → ⊥) → LeavesSame u old new ⊎ HasThis c u old new

-- where it stopped at a disk that is no member of the set, each good disk that is one has the new copy
pub record GoodBefore (good : ℕ) (c : Config) (old new : Meaning) (failed : CopyFailed) : Type 0 where
  pub done : bit_at good failed.disk ≡ false → AllThis (IsMember (part_of (good_set c.disks) good true) old.units) c old new
