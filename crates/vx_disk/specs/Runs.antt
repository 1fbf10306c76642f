-- The runs of blocks that were written to a disk in memory since its last flush.
use Rattle.std.specs.Prelude.{◌≡◌, ◌⊎◌, ℕ, suc, ◌+◌, ◌<◌, ◌≤◌, Bool, false, List, slice_index_or}
use Rattle.vx_disk.specs.declared.keeping.Run.{Run}

-- the run at this place, which is empty past the end
abbrev pub run_at : List Run → ℕ → Run
run_at runs k = slice_index_or runs k (record { first = 0; count = 0 })

-- the block lies before the run or behind it
abbrev pub Outside : Run → ℕ → Type 0
Outside run b = (b < run.first) ⊎ (run.first + run.count ≤ b)

-- a block that lies in none of the first runs is not loose
abbrev pub AreNoted : ℕ → List Run → List Bool → Type 0
AreNoted number runs loose = (b : ℕ) → ((k : ℕ) → k < number → Outside (run_at runs k) b) → slice_index_or loose b false ≡ false

-- each of the first runs ends within so many blocks
abbrev pub AreInside : ℕ → List Run → ℕ → Type 0
AreInside number runs blocks = (k : ℕ) → k < number → (run_at runs k).first + (run_at runs k).count ≤ blocks

-- one more run stands behind the first ones
pub record IsNoted (number first count : ℕ) (old : List Run) (next : ℕ) (new : List Run) : Type 0 where
  pub next_is : next ≡ suc number
  pub here : run_at new number ≡ record { first = first; count = count }
  pub kept : (k : ℕ) → k < number → run_at new k ≡ run_at old k
