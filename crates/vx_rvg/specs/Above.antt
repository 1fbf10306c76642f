-- The regions of logged writes above a number.
use Rattle.std.specs.Prelude.{◌≡◌, ℕ, ◌+◌, ◌-◌, ◌<◌, ◌≤◌, true, Some, slice_get}
use Rattle.vx_bitmap.specs.Bits.{AllAre}
use Rattle.vx_dcm.specs.Places.{IsPlaceAmong, Maps, has_mark, region_place}
use Rattle.vx_srl.specs.declared.kept.Kept.{Kept}
use Rattle.vx_rvg.specs.Marks.{write_first, write_last}
use Rattle.vx_rvg.specs.Views.{Core}

-- the record of a number of the log, where its write ends within its volume
pub record IsHeldRecord (core : Core) (size : ℕ → ℕ) (n : ℕ) (k : Kept) : Type 0 where
  pub low : core.log.header.low ≤ n
  pub there : slice_get core.log.held (n - core.log.header.low) ≡ Some k
  pub within : k.head.block + k.head.count ≤ size k.head.vol

-- each region of such a write is marked for a place of a link
pub record RecordMarked (core : Core) (size : ℕ → ℕ) (slot n : ℕ) (d : Maps) : Type 0 where
  pub each : (k : Kept) → IsHeldRecord core size n k → AllAre (write_first k.head.block) (write_last k.head.block k.head.count) true (has_mark d slot k.head.vol)

-- so it is of each number above one
pub record AboveMarked (core : Core) (size : ℕ → ℕ) (slot above : ℕ) (d : Maps) : Type 0 where
  pub each : (n : ℕ) → above < n → RecordMarked core size slot n d

-- the place of a region of such a write, of a number above one
pub record IsPlaceAbove (core : Core) (size : ℕ → ℕ) (slot above r : ℕ) : Type 0 where
  pub number : ℕ
  pub higher : above < number
  pub kept : Kept
  pub is : IsHeldRecord core size number kept
  pub among : IsPlaceAmong (region_place core.maps slot kept.head.vol (write_first kept.head.block)) (region_place core.maps slot kept.head.vol (write_last kept.head.block kept.head.count)) r
