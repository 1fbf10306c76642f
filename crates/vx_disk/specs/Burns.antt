-- How many writes and flushes a call makes, by the fuse of the disks below.
use Rattle.std.specs.Prelude.{◌≡◌, ℕ, ◌-◌, ◌<◌, ◌≤◌, IsTrue, IsFalse, Option, Some, None}
use Rattle.vx_disk.specs.Causes.{WithDisks}
use Rattle.vx_disk.specs.Disks.{Disks}
use Rattle.vx_disk.specs.Shelf.{Meaning}

-- so many calls are left fewer, where a fuse is set
abbrev pub FewerLeft : ℕ → Option (ℕ × ℕ) → Option (ℕ × ℕ) → Type 0
FewerLeft n None new = new ≡ None
FewerLeft n (Some f) new = (n ≤ f.0) × (new ≡ Some (f.0 - n, f.1))

-- Exactly so many writes and flushes were made. Of a shelf that is no rack this says nothing.
pub record MakesCalls (n : ℕ) (old new : Meaning) : Type 0 where
  pub fuses : WithDisks old.disks new.disks (λ before after. FewerLeft n before.fuse after.fuse)

-- a fuse is set, with fewer calls left than these
abbrev pub IsShort : ℕ → Option (ℕ × ℕ) → Type 0
IsShort n None = ⊥
IsShort n (Some f) = f.0 < n

-- the same of a rack: of anything else this says nothing
abbrev pub RackIsShort : ℕ → Option Disks → Type 0
RackIsShort n None = Unit {0}
RackIsShort n (Some d) = IsShort n d.fuse

-- A shelf that was up is down now only where its fuse had fewer writes and flushes left than these.
pub record FallsShort (n : ℕ) (old new : Meaning) : Type 0 where
  pub left : IsFalse old.down → IsTrue new.down → RackIsShort n old.disks
