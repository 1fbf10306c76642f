-- The numbers of calls on a shelf in memory.
use Rattle.std.specs.Prelude.{◌≡◌, ◌⊎◌, ℕ, ◌+◌, ◌-◌, ◌^◌, min, Bool, true, false, nat_eq, List, Option, Some, None, Result, Ok, Err}
use Rattle.std.specs.List.{list_any}
use Rattle.vx_disk.specs.Disks.{Disks}
use Rattle.vx_disk.specs.declared.shelf.ShelfError.{ShelfError}
use Rattle.vx_disk.specs.declared.shelf.ShelfError.TheVariants.{Fault, Down}

-- how many calls were made, and the numbers of those that are to fail
pub record Plan : Type 0 where
  pub made : ℕ
  pub fails : List ℕ

-- the number of the next call, which stays at its greatest value
abbrev pub next_number : Plan → ℕ
next_number plan = min (plan.made + 1) (2 ^ 64 - 1)

-- whether the next call is to fail
abbrev pub is_due : Plan → Bool
is_due plan = list_any (λ n. nat_eq n (next_number plan)) plan.fails

-- one call more was made
pub record CallCounted (old new : Plan) : Type 0 where
  pub made : new.made ≡ next_number old
  pub fails : new.fails ≡ old.fails

-- A call on a disk is counted where it is not answered with Down, and fails exactly where it is due or the disk is made to fail.
abbrev pub Numbered : {T : Type 0} → Plan → Plan → Bool → Result T ShelfError → Type 0
Numbered old new failing (Ok _) = CallCounted old new × (is_due old ≡ false) × (failing ≡ false)
Numbered old new failing (Err (Fault disk)) = CallCounted old new × ((is_due old ≡ true) ⊎ (failing ≡ true))
Numbered old new failing (Err Down) = new ≡ old

-- whether calls on this disk of a rack are made to fail
abbrev pub is_made_to_fail : Option Disks → ℕ → Bool
is_made_to_fail None unit = false
is_made_to_fail (Some disks) unit = disks.failing unit
