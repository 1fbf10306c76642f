-- A log as the program keeps it.
use Rattle.std.specs.Prelude.{◌≡◌, ℕ, ◌*◌, ◌≤◌, List, [], length}
use Rattle.vx_srlfmt.specs.declared.header.Header.{Header}
use Rattle.vx_srl.specs.Views.{IsOrdered, place_after, widths}
use Rattle.vx_srl.specs.declared.kept.Kept.{Kept}

-- its records in one queue, of which the first `sealed` are part of the log, and what is counted of them
pub record IsLogKept (ring : ℕ) (header : Header) (records : List Kept) (capacity sealed end used : ℕ) : Type 0 where
  pub ordered : IsOrdered ring header records
  pub room : ring ≤ 2 * capacity
  pub few : sealed ≤ length records
  pub end_is : end ≡ place_after ring header.place records
  pub used_is : used ≡ widths records

-- memory for the records of a ring
pub record IsEmptyRoom (ring : ℕ) (records : List Kept) (capacity : ℕ) : Type 0 where
  pub none : records ≡ []
  pub room : ring ≤ 2 * capacity
