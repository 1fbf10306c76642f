-- The lowest run of free blocks on one disk.
use Rattle.std.specs.Prelude.{◌≡◌, ◌⊎◌, ℕ, ◌+◌, ◌<◌, ◌≤◌, true, List, Result, Ok, Err}
use Rattle.vx_model.specs.declared.limits.TheConstants.{PUBLIC_START}
use Rattle.vx_config.specs.declared.entry.Subdisk.{Subdisk}
use Rattle.vx_layout.specs.Free.{is_free}

-- so many blocks from this one on are free, on a disk with so many blocks
pub record FreeRun (used : List Subdisk) (disk end count block : ℕ) : Type 0 where
  pub public : PUBLIC_START ≤ block
  pub within : block + count ≤ end
  pub free : (b : ℕ) → block ≤ b → b < block + count → is_free used disk b ≡ true

-- the lowest such run
pub record LowestOn (used : List Subdisk) (disk end count block : ℕ) : Type 0 where
  pub run : FreeRun used disk end count block
  pub first : (b : ℕ) → FreeRun used disk end count b → block ≤ b

-- there is none, and this is the longest run
pub record LongestOn (used : List Subdisk) (disk end count longest : ℕ) : Type 0 where
  pub short : longest < count
  pub some : (longest ≡ 0) ⊎ ((b : ℕ) × FreeRun used disk end longest b)
  pub most : (b n : ℕ) → 0 < n → FreeRun used disk end n b → n ≤ longest

abbrev pub RunOn : List Subdisk → ℕ → ℕ → ℕ → Result ℕ ℕ → Type 0
RunOn used disk end count (Ok block) = LowestOn used disk end count block
RunOn used disk end count (Err longest) = LongestOn used disk end count longest

-- the same of the runs that begin before a block
pub record LongestBefore (used : List Subdisk) (disk end count block longest : ℕ) : Type 0 where
  pub public : PUBLIC_START ≤ block
  pub inside : (block ≤ end) ⊎ (block ≡ PUBLIC_START)
  pub short : longest < count
  pub some : (longest ≡ 0) ⊎ ((b : ℕ) × FreeRun used disk end longest b)
  pub most : (b n : ℕ) → 0 < n → b < block → FreeRun used disk end n b → n ≤ longest
