-- What is told of a rack beside its meaning as a shelf: which image each crash keeps, its fuse, and the disks that are made to fail.
use Rattle.std.specs.Prelude.{◌≡◌, ℕ, zero, suc, ◌+◌, ◌-◌, ◌%◌, ◌<◌, Bool, true, false, cond, Option, Some, None, List}
use Rattle.vx_disk.specs.Blocks.{bit_at}

pub record Disks : Type 0 where
  -- of each block the value that the last flush made durable, and the one that was written last
  pub stable : ℕ → ℕ → List ℕ
  pub latest : ℕ → ℕ → List ℕ
  -- whether the block was written since the last flush
  pub loose : ℕ → ℕ → Bool
  -- the writes and flushes left and the pick, where a fuse is set
  pub fuse : Option (ℕ × ℕ)
  -- the disks that are made to fail
  pub failing : ℕ → Bool

-- how many numbers below n pass
abbrev pub count_below : (ℕ → Bool) → ℕ → ℕ
count_below p zero = 0
count_below p (suc n) = count_below p n + cond (p n) 1 0

-- the sum of the values below n
abbrev pub sum_below : (ℕ → ℕ) → ℕ → ℕ
sum_below f zero = 0
sum_below f (suc n) = sum_below f n + f n

-- the place of a block in the list of the loose ones, by unit and then by block
abbrev pub loose_place : (ℕ → ℕ) → (ℕ → ℕ → Bool) → ℕ → ℕ → ℕ
loose_place size loose u b = sum_below (λ w. count_below (loose w) (size w)) u + count_below (loose u) b

-- what a crash keeps of a block
unfoldable pub picked : (ℕ → ℕ) → Disks → ℕ → ℕ → ℕ → List ℕ
picked size d pick u b = cond (d.loose u b) (cond (bit_at pick (loose_place size d.loose u b % 64)) (d.latest u b) (d.stable u b)) (d.stable u b)

-- no block changed
pub record SameBlocks (old new : Disks) : Type 0 where
  pub stable : (u b : ℕ) → new.stable u b ≡ old.stable u b
  pub latest : (u b : ℕ) → new.latest u b ≡ old.latest u b
  pub loose : (u b : ℕ) → new.loose u b ≡ old.loose u b

-- after a crash
pub record Crashed (size : ℕ → ℕ) (pick : ℕ) (old new : Disks) : Type 0 where
  pub stable : (u b : ℕ) → new.stable u b ≡ picked size old pick u b
  pub latest : (u b : ℕ) → new.latest u b ≡ picked size old pick u b
  pub loose : (u b : ℕ) → new.loose u b ≡ false
  pub fuse : new.fuse ≡ None

-- whether a fuse is set
abbrev pub is_set : Option (ℕ × ℕ) → Bool
is_set None = false
is_set (Some fuse) = true

-- a call that passes burns one of the calls left
abbrev pub Burns : Option (ℕ × ℕ) → Option (ℕ × ℕ) → Type 0
Burns None new = new ≡ None
Burns (Some f) new = (0 < f.0) × (new ≡ Some (f.0 - 1, f.1))

-- the fuse ran out: this was its crash
pub record RanOut (size : ℕ → ℕ) (old new : Disks) : Type 0 where
  pub pick : ℕ
  pub out : old.fuse ≡ Some (0, pick)
  pub crash : Crashed size pick old new

-- after a call that does nothing to it
pub record Untouched (old new : Disks) : Type 0 where
  pub blocks : SameBlocks old new
  pub fuse : new.fuse ≡ old.fuse

-- fresh disks: no block is loose, and the fuse is as it was
pub record Fresh (old new : Disks) : Type 0 where
  pub loose : (u b : ℕ) → new.loose u b ≡ false
  pub fuse : new.fuse ≡ old.fuse
