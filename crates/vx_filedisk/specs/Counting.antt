-- The counts of failed calls.
use Rattle.std.specs.Prelude.{◌≡◌, ◌≢◌, ℕ, Result, Ok, Err, slice_index_or}
use Rattle.vx_disk.specs.Counts.{Rose}
use Rattle.vx_disk.specs.declared.shelf.ShelfError.{ShelfError}
use Rattle.vx_disk.specs.declared.shelf.ShelfError.TheVariants.{Fault, Down}
use Rattle.vx_filedisk.specs.declared.counts.Counts.{Counts}

-- the count of each disk
abbrev pub counts_of : Counts → ℕ → ℕ
counts_of counts d = slice_index_or counts.each d 0

-- the disk's count rose, and no other changed
pub record CountRaised (disk : ℕ) (old new : ℕ → ℕ) : Type 0 where
  pub rose : Rose (old disk) (new disk)
  pub others : (d : ℕ) → d ≢ disk → new d ≡ old d

-- no count changed
pub record CountsKept (old new : ℕ → ℕ) : Type 0 where
  pub same : (d : ℕ) → new d ≡ old d

-- a call on the disk was counted exactly where it was answered with a fault
abbrev pub CountsNoted : {T : Type 0} → ℕ → Result T ShelfError → (ℕ → ℕ) → (ℕ → ℕ) → Type 0
CountsNoted disk (Ok _) old new = CountsKept old new
CountsNoted disk (Err (Fault named)) old new = CountRaised disk old new
CountsNoted disk (Err Down) old new = CountsKept old new
