-- How far free blocks reach, run by run.
use Rattle.std.specs.Prelude.{◌≡◌, ◌⊎◌, ℕ, ◌+◌, ◌-◌, ◌<◌, ◌≤◌, true, false, List, ◌++◌, slice_get, Some}
use Rattle.vx_model.specs.declared.limits.TheConstants.{PUBLIC_START}
use Rattle.vx_config.specs.declared.entry.Subdisk.{Subdisk}
use Rattle.vx_layout.specs.Free.{AreLowest, free_in, holds, is_free}

-- as many blocks as a run leaves, which begins behind them or has none of them
pub record IsCut (s : Subdisk) (disk block blocks left : ℕ) : Type 0 where
  pub few : left ≤ blocks
  pub some : 0 < blocks → 0 < left
  pub free : (b : ℕ) → block ≤ b → b < block + left → holds disk b s ≡ false
  pub stops : (left ≡ blocks) ⊎ (holds disk (block + left) s ≡ true)

-- so many blocks are free, and the next one is not
pub record IsReach (used : List Subdisk) (disk block end blocks : ℕ) : Type 0 where
  pub within : block + blocks ≤ end
  pub some : block < end → 0 < blocks
  pub free : (b : ℕ) → block ≤ b → b < block + blocks → is_free used disk b ≡ true
  pub stops : block + blocks < end → is_free used disk (block + blocks) ≡ false

-- the same over the first runs
pub record Reaching (used : List Subdisk) (disk block end count blocks : ℕ) : Type 0 where
  pub within : block + blocks ≤ end
  pub some : 0 < blocks
  pub free : (k : ℕ) (s : Subdisk) → k < count → slice_get used k ≡ Some s → (b : ℕ) → block ≤ b → b < block + blocks → holds disk b s ≡ false
  pub stops : (block + blocks ≡ end) ⊎ ((k : ℕ) × (s : Subdisk) × (slice_get used k ≡ Some s) × (holds disk (block + blocks) s ≡ true))

-- so many blocks are still to be taken from this one on: with them all that were wanted are
pub record Taking (used : List Subdisk) (disk end wanted block left : ℕ) (old new : List Subdisk) : Type 0 where
  pub done : List Subdisk
  pub is : new ≡ old ++ done
  pub enough : left ≤ free_in used disk block (end - block)
  pub rest : (ss : List Subdisk) → AreLowest used disk block end left ss → AreLowest used disk PUBLIC_START end wanted (done ++ ss)
