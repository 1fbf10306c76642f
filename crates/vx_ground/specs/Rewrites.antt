-- Blocks that are written as they read.
use Rattle.std.specs.Prelude.{◌≡◌, ℕ, ◌+◌, ◌<◌, ◌≤◌, List}
use Rattle.vx_disk.specs.Shelf.{Meaning}

-- a value of a block of the unit that a crash might leave
pub record WasLeft (unit : ℕ) (m : Meaning) (u b : ℕ) (x : List ℕ) : Type 0 where
  pub there : u ≡ unit
  pub left : m.leaves u b x

-- each of so many blocks from this one on reads as one value
pub record OneSeen (unit block count : ℕ) (m : Meaning) : Type 0 where
  pub one : (b : ℕ) (x y : List ℕ) → block ≤ b → b < block + count → m.reads unit b x → m.reads unit b y → x ≡ y

-- so they do then, and every other one reads as it did
pub record Rewrote (unit block count : ℕ) (old new : Meaning) : Type 0 where
  pub one : OneSeen unit block count new
  pub others : (b : ℕ) (x : List ℕ) → (block ≤ b → b < block + count → ⊥) → new.reads unit b x → old.reads unit b x

-- a crash leaves one value of each block
pub record OneRests (unit : ℕ) (m : Meaning) : Type 0 where
  pub one : (b : ℕ) (x y : List ℕ) → b < m.size unit → m.leaves unit b x → m.leaves unit b y → x ≡ y
