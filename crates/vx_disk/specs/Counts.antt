-- Counts of faults.
use Rattle.std.specs.Prelude.{◌⊎◌, ℕ, ◌<◌, ◌≤◌, ◌-◌, ◌^◌}

-- a count that stays at its greatest value rose, or stands there
pub record Rose (before now : ℕ) : Type 0 where
  pub fell_not : before ≤ now
  pub rose : (before < now) ⊎ (2 ^ 64 - 1 ≤ now)
