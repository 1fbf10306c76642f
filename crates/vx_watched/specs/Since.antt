-- What calls on a shelf make of it, and of the disks below where it is a rack, in facts without a choice.
use Rattle.std.specs.Prelude.{◌≡◌, ℕ, ◌≤◌, Bool, true, false, IsTrue, IsFalse, Option, Some, None}
use Rattle.vx_disk.specs.Disks.{Disks, is_set}
use Rattle.vx_disk.specs.Shelf.{Meaning}

-- how many calls a fuse has left, and its pick
abbrev pub fuse_calls : Option (ℕ × ℕ) → ℕ
fuse_calls None = 0
fuse_calls (Some fuse) = fuse.0

abbrev pub fuse_pick : Option (ℕ × ℕ) → ℕ
fuse_pick None = 0
fuse_pick (Some fuse) = fuse.1

-- A fuse behind calls that passed: it is set where it was, with its pick, and has no more calls left.
pub record FuseGoes (old new : Option (ℕ × ℕ)) : Type 0 where
  pub set : is_set new ≡ is_set old
  pub left : fuse_calls new ≤ fuse_calls old
  pub pick : fuse_pick new ≡ fuse_pick old

-- The disks of a rack behind calls, which is down or not: those that are made to fail are the same, and where it is up each call passed.
pub record DisksGo (down : Bool) (old new : Disks) : Type 0 where
  pub failing : (u : ℕ) → new.failing u ≡ old.failing u
  pub fuse : IsFalse down → FuseGoes old.fuse new.fuse

-- whether something is told of disks
abbrev pub is_rack : Option Disks → Bool
is_rack None = false
is_rack (Some disks) = true

-- A shelf behind some calls of its own, whatever they answered.
pub record CalledSince (old new : Meaning) : Type 0 where
  pub units : new.units ≡ old.units
  pub size : (u : ℕ) → new.size u ≡ old.size u
  pub tells : new.tells ≡ old.tells
  pub counts : (d : ℕ) → old.disk_faults d ≤ new.disk_faults d
  pub falls : IsTrue old.down → IsTrue new.down
  pub unarmed : IsFalse old.armed → IsFalse new.armed
  pub safe : IsFalse old.armed → IsTrue new.down → IsTrue old.down
  pub rack : is_rack new.disks ≡ is_rack old.disks
  pub told : (o n : Disks) → old.disks ≡ Some o → new.disks ≡ Some n → DisksGo new.down o n
