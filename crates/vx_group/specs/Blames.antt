-- Why a call on the shelf below failed.
use Rattle.std.specs.Prelude.{◌≡◌, ◌≢◌, ◌⊎◌, ℕ, ◌≤◌, Bool, true, false, IsTrue, List, Result, Ok, Err, slice_index_or}
use Rattle.vx_disk.specs.Counts.{Rose}
use Rattle.vx_disk.specs.Shelf.{Meaning}
use Rattle.vx_disk.specs.declared.shelf.ShelfError.{ShelfError}
use Rattle.vx_disk.specs.declared.shelf.ShelfError.TheVariants.{Fault, Down}
use Rattle.vx_model.specs.declared.no.No.{No}
use Rattle.vx_model.specs.declared.no.No.TheVariants as refusal

-- a fault comes only where the count of its disk rose, and Down only where the shelf is then down
abbrev pub Blames : {T : Type 0} → Meaning → Meaning → Result T ShelfError → Type 0
Blames old new (Ok x) = IsTrue new.down → ⊥
Blames old new (Err (Fault disk)) = Rose (old.disk_faults disk) (new.disk_faults disk) × (IsTrue new.down → ⊥)
Blames old new (Err Down) = IsTrue new.down

-- the same, but that a fault may also be that of this disk, which failed before
abbrev pub BlamesOr : {T : Type 0} → ℕ → Meaning → Meaning → Result T ShelfError → Type 0
BlamesOr device old new (Ok x) = IsTrue new.down → ⊥
BlamesOr device old new (Err (Fault disk)) = (Rose (old.disk_faults disk) (new.disk_faults disk) ⊎ (disk ≡ device)) × (IsTrue new.down → ⊥)
BlamesOr device old new (Err Down) = IsTrue new.down

-- a refused commit as a fault, which names this disk where no serial was left
abbrev pub fault_of : No → ℕ → ShelfError
fault_of (refusal.Device disk) device = Fault disk
fault_of refusal.Down device = Down
fault_of other device = Fault device

-- the count of a volume rose where a call on it failed with a fault, and no other one changed
pub record Raised (v : ℕ) (old new : ℕ → ℕ) : Type 0 where
  pub rose : Rose (old v) (new v)
  pub no_less : (u : ℕ) → old u ≤ new u
  pub others : (u : ℕ) → u ≢ v → new u ≡ old u

abbrev pub CountsRise : ShelfError → ℕ → (ℕ → ℕ) → (ℕ → ℕ) → Type 0
CountsRise (Fault disk) v old new = Raised v old new
CountsRise Down v old new = (u : ℕ) → new u ≡ old u

-- a fault comes only where the count of its disk rose, and Down only where the shelf is then down; what Ok leaves is not said
abbrev pub StopsByDevice : {T : Type 0} → Meaning → Meaning → Result T ShelfError → Type 0
StopsByDevice old new (Ok x) = Unit {0}
StopsByDevice old new (Err (Fault disk)) = Rose (old.disk_faults disk) (new.disk_faults disk) × (IsTrue new.down → ⊥)
StopsByDevice old new (Err Down) = IsTrue new.down

-- a volume is marked as unsure, and no other mark changed
pub record MarkedUnsure (v : ℕ) (old new : List Bool) : Type 0 where
  pub here : slice_index_or new v false ≡ true
  pub others : (u : ℕ) → u ≢ v → slice_index_or new u false ≡ slice_index_or old u false

abbrev pub MarksUnsure : ShelfError → ℕ → List Bool → List Bool → Type 0
MarksUnsure (Fault disk) v old new = MarkedUnsure v old new
MarksUnsure Down v old new = new ≡ old

-- a write or a flush of a volume marks it exactly where it fails with a fault
abbrev pub MarksOn : {T : Type 0} → ℕ → List Bool → List Bool → Result T ShelfError → Type 0
MarksOn v old new (Ok x) = new ≡ old
MarksOn v old new (Err error) = MarksUnsure error v old new

-- The same of a call that goes on behind a refusal: where it says that the shelf is down the volume may be marked.
abbrev pub MarksOrFell : {T : Type 0} → ℕ → List Bool → List Bool → Result T ShelfError → Type 0
MarksOrFell v old new (Ok x) = new ≡ old
MarksOrFell v old new (Err (Fault disk)) = MarkedUnsure v old new
MarksOrFell v old new (Err Down) = (new ≡ old) ⊎ MarkedUnsure v old new

-- what a refusal is answered as: itself, or that the shelf is down
abbrev pub IsOrDown : ShelfError → ShelfError → Type 0
IsOrDown error said = (said ≡ error) ⊎ (said ≡ Down)
