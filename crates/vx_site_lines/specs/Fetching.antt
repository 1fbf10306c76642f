-- What the yard promises of a line that reads blocks.
use Rattle.std.specs.Prelude.{◌≡◌, ◌⊎◌, ℕ, ◌*◌, List, length, min}
use Rattle.vx_model.specs.declared.limits.TheConstants.{BLOCK, MOST_CALL_BLOCKS}
use Rattle.vx_disk.specs.declared.shelf.Shelf.{Ghosts}
use Rattle.vx_script.specs.declared.line.ScriptLine.{ScriptLine}
use Rattle.vx_script.specs.declared.line.ScriptLine.TheVariants.{Read, Show}
use Rattle.vx_yard.specs.declared.yard.Yard.{Yard}
use Rattle.vx_yard.specs.Working.{IsFree}

-- a place for so many blocks, and for no more than a line may ask
abbrev pub IsBlockRoom : ℕ → List ℕ → Type 0
IsBlockRoom count room = length room ≡ BLOCK * min count MOST_CALL_BLOCKS

-- a line that reads these blocks, whichever of the two it is
abbrev pub IsReadLine : ScriptLine → List ℕ → List ℕ → ℕ → ℕ → Type 0
IsReadLine line name volume start count = (line ≡ Read name volume start count) ⊎ (line ≡ Show name volume start count)

module _ {R : Type 0} {g : Ghosts R} where
  -- blocks that a line may read, whichever of the two it is
  abbrev pub IsFetchFree : Yard R g → List ℕ → List ℕ → ℕ → ℕ → Type 0
  IsFetchFree y name volume start count = IsFree y (Read name volume start count) ⊎ IsFree y (Show name volume start count)
