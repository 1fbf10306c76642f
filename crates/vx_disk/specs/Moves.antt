-- What a call does to a shelf that is handed to it: which blocks it may change, and what a crash in it may leave.
use Rattle.std.specs.Prelude.{◌≡◌, ◌⊎◌, ℕ, ◌<◌, ◌≤◌, ◌+◌, IsTrue, IsFalse, List}
use Rattle.vx_disk.specs.Shelf.{Meaning, Image, Values}

-- some blocks of some units
abbrev pub Blocks : Type 1
Blocks = ℕ → ℕ → Type 0

-- what is said of an image
abbrev pub Says : Type 1
Says = Image → Type 0

-- a run of blocks of one unit
pub record Run (unit base count : ℕ) (u b : ℕ) : Type 0 where
  pub there : u ≡ unit
  pub first : base ≤ b
  pub last : b < base + count

-- each block that is none of these has one of the values
abbrev pub Beside : Blocks → Values → Image → Type 0
Beside mine values i = (u b : ℕ) → values u b (i u b) ⊎ mine u b

-- A call that may change these blocks alone. At each moment of it a crash leaves every other block as it might before the call,
-- and an image of which `during` is true.
pub record Moves (mine : Blocks) (during : Says) (old new : Meaning) : Type 0 where
  pub units : new.units ≡ old.units
  pub size : (u : ℕ) → new.size u ≡ old.size u
  pub tells : new.tells ≡ old.tells
  pub reads : (u b : ℕ) (v : List ℕ) → new.reads u b v → old.reads u b v ⊎ mine u b ⊎ IsTrue new.down
  pub leaves : (u b : ℕ) (v : List ℕ) → new.leaves u b v → old.leaves u b v ⊎ mine u b
  pub later : old.moment ≤ new.moment
  pub since : (t : ℕ) (i : Image) → t ≤ old.moment → new.left_since t i → old.left_since t i ⊎ (Beside mine old.leaves i × during i)
  pub keeps : (t : ℕ) (i : Image) → t ≤ old.moment → old.left_since t i → new.left_since t i
  pub faults : (u : ℕ) → old.faults u ≤ new.faults u
  pub disk_faults : (d : ℕ) → old.disk_faults d ≤ new.disk_faults d
  pub falls : IsTrue old.down → IsTrue new.down
  pub unarmed : IsFalse old.armed → IsFalse new.armed
  pub safe : IsFalse old.armed → IsTrue new.down → IsTrue old.down

-- a crash in a call leaves what one before it might have left, or an image of which this is true
pub record Along (old new : Meaning) (during : Says) : Type 0 where
  pub each : (t : ℕ) (i : Image) → t ≤ old.moment → new.left_since t i → old.left_since t i ⊎ during i

-- whatever a crash leaves in the block has P
pub record Surely (m : Meaning) (u b : ℕ) (P : List ℕ → Type 0) : Type 0 where
  pub each : (v : List ℕ) → m.leaves u b v → P v

-- a crash leaves one value at most in each of these blocks
pub record Settled (m : Meaning) (mine : Blocks) : Type 0 where
  pub each : (u b : ℕ) (v w : List ℕ) → mine u b → m.leaves u b v → m.leaves u b w → v ≡ w

-- nothing is said
abbrev pub Anything : Says
Anything i = Unit {0}

-- no block
abbrev pub Nowhere : Blocks
Nowhere u b = ⊥

-- each block
abbrev pub Everywhere : Blocks
Everywhere u b = Unit {0}

-- the blocks of one or of the other
pub record Union (one two : Blocks) (u b : ℕ) : Type 0 where
  pub here : one u b ⊎ two u b
