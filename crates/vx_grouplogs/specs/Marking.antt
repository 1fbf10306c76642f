-- The regions of a run of blocks in the logs in memory.
use Rattle.std.specs.Prelude.{◌≡◌, ◌⊎◌, ℕ, ◌<◌, ◌≤◌, Bool, true, false, Option, Some, None}
use Rattle.vx_bitmap.specs.Bits.{AllAre}
use Rattle.vx_drl.specs.Dirty.{Dirty, is_dirty}
use Rattle.vx_drl.specs.declared.marks.TheConstants.{MOST_HELD}
use Rattle.vx_logs.specs.declared.logs.Logs.{Logs}

-- the dirty region log, where there is one, has these regions
pub record HoldRegions (first last : ℕ) (l : Logs) : Type 0 where
  pub so : (d : Dirty) → l.drl ≡ Some d → AllAre first last true (is_dirty d)

abbrev pub dirty_or : Option Dirty → ℕ → Bool
dirty_or None r = false
dirty_or (Some d) r = is_dirty d r

-- whether the dirty region log, where there is one, has a region
abbrev pub logs_dirty : Logs → ℕ → Bool
logs_dirty l r = dirty_or l.drl r

-- of the regions below n those from first to last alone have a mark that they had not
pub record MarksOnly (n first last : ℕ) (l l' : Logs) : Type 0 where
  pub each : (r : ℕ) → r < n → logs_dirty l' r ≡ true → (logs_dirty l r ≡ true) ⊎ ((first ≤ r) × (r ≤ last))

-- no region below n has a mark that it had not
pub record MarksFewer (n : ℕ) (l l' : Logs) : Type 0 where
  pub each : (r : ℕ) → r < n → logs_dirty l' r ≡ true → logs_dirty l r ≡ true

-- no region below n has a mark
pub record NoMarks (n : ℕ) (l : Logs) : Type 0 where
  pub each : (r : ℕ) → r < n → logs_dirty l r ≡ false

-- more marks are held than may be, where there is a log
abbrev pub HoldsMany : Option Dirty → Type 0
HoldsMany None = Unit {0}
HoldsMany (Some d) = MOST_HELD < d.held
