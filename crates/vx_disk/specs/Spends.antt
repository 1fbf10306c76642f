-- What calls on a shelf make of the disks of a rack below it: which of them are made to fail, and the fuse.
use Rattle.std.specs.Prelude.{◌≡◌, ◌⊎◌, ℕ, ◌+◌, ◌≤◌, Bool, IsTrue, Option, Some, None}
use Rattle.vx_disk.specs.Causes.{WithDisks}
use Rattle.vx_disk.specs.Disks.{Disks, RanOut, SameBlocks, Untouched}
use Rattle.vx_disk.specs.Shelf.{Meaning}

-- a fuse that is not set stays so, and one that is set keeps its pick and loses so many of its calls or more
abbrev pub Loses : ℕ → Option (ℕ × ℕ) → Option (ℕ × ℕ) → Type 0
Loses n None new = new ≡ None
Loses n (Some f) new = (left : ℕ) × (left + n ≤ f.0) × (new ≡ Some (left, f.1))

-- calls that passed: where they took none of a fuse that is set, no block changed
pub record Passed (old new : Disks) : Type 0 where
  pub fuse : Loses 0 old.fuse new.fuse
  pub still : (f : ℕ × ℕ) → old.fuse ≡ Some f → new.fuse ≡ Some f → SameBlocks old new

-- some calls passed, and in the next one the fuse ran out: the disks are as the crash with its pick left them
pub record BurntOut (size : ℕ → ℕ) (old new : Disks) : Type 0 where
  pub middle : Disks
  pub passed : Passed old middle
  pub out : RanOut size middle new

-- what some calls make of the disks of a rack, of which two flags say whether it was down before and is down behind them
pub record Spent (size : ℕ → ℕ) (before after : Bool) (old new : Disks) : Type 0 where
  pub failing : (u : ℕ) → new.failing u ≡ old.failing u
  -- the calls passed, and then it is down only where it was, or the fuse ran out in one of them
  pub burnt : (Passed old new × (IsTrue after → IsTrue before)) ⊎ (BurntOut size old new × IsTrue after)
  -- where it is down and has no fuse they do nothing
  pub rests : IsTrue before → old.fuse ≡ None → Untouched old new

-- Some calls on a shelf, or none, whatever they answer. Of a shelf that is no rack this says that it keeps its sizes, and that a down one stays so.
pub record Spends (old new : Meaning) : Type 0 where
  pub size : (u : ℕ) → new.size u ≡ old.size u
  pub falls : IsTrue old.down → IsTrue new.down
  pub told : WithDisks old.disks new.disks (Spent old.size old.down new.down)

-- So many writes and flushes were made, or more. Of a shelf that is no rack this says nothing.
pub record MakesAtLeast (n : ℕ) (old new : Meaning) : Type 0 where
  pub fuses : WithDisks old.disks new.disks (λ before after. Loses n before.fuse after.fuse)
