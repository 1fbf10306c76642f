-- The meaning of a shelf: what its reads give, and what crashes may leave.
use Rattle.std.specs.Prelude.{◌≡◌, ◌≢◌, ◌⊎◌, ℕ, ◌+◌, ◌-◌, ◌*◌, ◌/◌, ◌%◌, ◌<◌, ◌≤◌, ◌^◌, Bool, IsTrue, IsFalse, true, false, Option, List, length, take, drop}
use Rattle.vx_model.specs.declared.limits.TheConstants.{BLOCK}
use Rattle.vx_disk.specs.Disks.{Disks}

-- for each unit and block a value, which outside the unit says nothing
abbrev pub Image : Type 0
Image = ℕ → ℕ → List ℕ

-- a set of values for each unit and block
abbrev pub Values : Type 1
Values = ℕ → ℕ → List ℕ → Type 0

pub record Meaning : Type 1 where
  pub units : ℕ
  pub size : ℕ → ℕ
  -- whether it tells its contents: one that does not has no values and no images below
  pub tells : Bool
  -- what a read of the block may give
  pub reads : Values
  -- what a crash at this moment may leave in the block, at most
  pub leaves : Values
  -- what a crash at this moment may leave
  pub now : Image → Type 0
  -- a number that does not fall
  pub moment : ℕ
  -- what a crash at some moment from that one on may have left
  pub left_since : ℕ → Image → Type 0
  -- failed calls on a unit, and on a disk below
  pub faults : ℕ → ℕ
  pub disk_faults : ℕ → ℕ
  pub down : Bool
  -- whether a fuse is set below it
  pub armed : Bool
  -- where it is a rack, what is told of its disks beside
  pub disks : Option Disks

-- each block by itself has one of these values
abbrev pub Each : Values → Image → Type 0
Each values image = (u b : ℕ) → values u b (image u b)

pub record Lawful (m : Meaning) : Type 0 where
  -- one that tells its contents has some value for each block and some image, and one that does not has none
  pub some : IsTrue m.tells → (u b : ℕ) → (v : List ℕ) × m.reads u b v
  pub image : IsTrue m.tells → (i : Image) × m.now i
  pub none : IsFalse m.tells → (u b : ℕ) (v : List ℕ) → m.leaves u b v → ⊥
  pub never : IsFalse m.tells → (t : ℕ) (i : Image) → m.left_since t i → ⊥
  -- sizes are numbers of the program
  pub few : m.units < 2 ^ 32
  pub small : (u : ℕ) → m.size u < 2 ^ 64
  -- a crash may leave what a read gives
  pub shown : (u b : ℕ) (v : List ℕ) → m.reads u b v → m.leaves u b v
  -- this moment is one of those since an earlier one
  pub counts_now : (t : ℕ) (i : Image) → t ≤ m.moment → m.now i → m.left_since t i
  -- since this moment there is no other
  pub only_now : (i : Image) → m.left_since m.moment i → m.now i
  -- block by block it leaves no more than this
  pub within : (i : Image) → m.now i → Each m.leaves i

-- a positive number of whole blocks that end within the unit
pub record Fits (m : Meaning) (unit block n : ℕ) : Type 0 where
  pub exists : unit < m.units
  pub some : 0 < n
  pub whole : n % BLOCK ≡ 0
  pub within : block + n / BLOCK ≤ m.size unit

-- the blocks that these bytes cover, and the value of one
pub record Covers (unit block : ℕ) (bytes : List ℕ) (u b : ℕ) : Type 0 where
  pub there : u ≡ unit
  pub first : block ≤ b
  pub last : BLOCK * (b - block) < length bytes

abbrev pub piece : ℕ → List ℕ → ℕ → List ℕ
piece block bytes b = take BLOCK (drop (BLOCK * (b - block)) bytes)

-- what a write puts there
pub record Written (unit block : ℕ) (bytes : List ℕ) (u b : ℕ) (v : List ℕ) : Type 0 where
  pub covers : Covers unit block bytes u b
  pub value : v ≡ piece block bytes b

abbrev pub Nothing : Values
Nothing u b v = ⊥

abbrev pub Or : Values → Values → Values
Or p q u b v = p u b v ⊎ q u b v

-- Whatever a call answers: a crash leaves what it might have left before, or what was written in the call.
pub record Goes (written : Values) (old new : Meaning) : Type 0 where
  pub units : new.units ≡ old.units
  pub size : (u : ℕ) → new.size u ≡ old.size u
  pub tells : new.tells ≡ old.tells
  pub reads : (u b : ℕ) (v : List ℕ) → new.reads u b v → Or old.reads written u b v ⊎ IsTrue new.down
  pub leaves : (u b : ℕ) (v : List ℕ) → new.leaves u b v → Or old.leaves written u b v
  pub later : old.moment ≤ new.moment
  pub since : (t : ℕ) (i : Image) → t ≤ old.moment → new.left_since t i → old.left_since t i ⊎ Each (Or old.leaves written) i
  pub keeps : (t : ℕ) (i : Image) → t ≤ old.moment → old.left_since t i → new.left_since t i
  pub faults : (u : ℕ) → old.faults u ≤ new.faults u
  pub disk_faults : (d : ℕ) → old.disk_faults d ≤ new.disk_faults d
  -- no call ends the down state or sets a fuse, and without a fuse none begins the down state
  pub falls : IsTrue old.down → IsTrue new.down
  pub unarmed : IsFalse old.armed → IsFalse new.armed
  pub safe : IsFalse old.armed → IsTrue new.down → IsTrue old.down

-- what was read: each block one of the values that a read may give
pub record Read (m : Meaning) (unit block : ℕ) (bytes : List ℕ) : Type 0 where
  pub each : IsTrue m.tells → (b : ℕ) → Covers unit block bytes unit b → m.reads unit b (piece block bytes b)

-- a read gives what was written, and elsewhere what it gave
pub record Wrote (unit block : ℕ) (bytes : List ℕ) (old new : Meaning) : Type 0 where
  pub each : (u b : ℕ) (v : List ℕ) → new.reads u b v → Written unit block bytes u b v ⊎ ((Covers unit block bytes u b → ⊥) × old.reads u b v)

-- a crash leaves what a read gave
pub record Flushed (unit : ℕ) (old new : Meaning) : Type 0 where
  pub each : (b : ℕ) (v : List ℕ) → new.leaves unit b v → old.reads unit b v

-- the same of the disks of a rack that tells its contents
pub record DisksWrote (unit block : ℕ) (bytes : List ℕ) (old new : Disks) : Type 0 where
  pub stable : (u b : ℕ) → new.stable u b ≡ old.stable u b
  pub latest : (u b : ℕ) → (Covers unit block bytes u b × (new.latest u b ≡ piece block bytes b) × (new.loose u b ≡ true))
      ⊎ ((Covers unit block bytes u b → ⊥) × (new.latest u b ≡ old.latest u b) × (new.loose u b ≡ old.loose u b))

pub record DisksFlushed (unit : ℕ) (old new : Disks) : Type 0 where
  pub latest : (u b : ℕ) → new.latest u b ≡ old.latest u b
  pub here : (b : ℕ) → (new.stable unit b ≡ old.latest unit b) × (new.loose unit b ≡ false)
  pub elsewhere : (u b : ℕ) → u ≢ unit → (new.stable u b ≡ old.stable u b) × (new.loose u b ≡ old.loose u b)

-- for clients: any read of the block gives this
pub record Holds (m : Meaning) (u b : ℕ) (x : List ℕ) : Type 0 where
  pub only : (v : List ℕ) → m.reads u b v → v ≡ x

-- any crash leaves this in the block
pub record Keeps (m : Meaning) (u b : ℕ) (x : List ℕ) : Type 0 where
  pub only : (v : List ℕ) → m.leaves u b v → v ≡ x

-- the same of each block that these bytes cover
pub record HoldsAll (m : Meaning) (unit block : ℕ) (bytes : List ℕ) : Type 0 where
  pub each : (b : ℕ) → Covers unit block bytes unit b → Holds m unit b (piece block bytes b)

pub record KeepsAll (m : Meaning) (unit block : ℕ) (bytes : List ℕ) : Type 0 where
  pub each : (b : ℕ) → Covers unit block bytes unit b → Keeps m unit b (piece block bytes b)

-- a crash at any moment since the first leaves an image that has P
pub record LeavesOnly (old new : Meaning) (P : Image → Type 0) : Type 0 where
  pub later : old.moment ≤ new.moment
  pub each : (i : Image) → new.left_since old.moment i → P i
