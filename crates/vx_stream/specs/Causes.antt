-- When a source or a sink may answer a fault.
use Rattle.std.specs.Prelude.{ℕ, ◌+◌, ◌-◌, ◌^◌, ◌≤◌, min, OnErr}
use Rattle.std.specs.declared.result.Result.{Result}

-- one count is above another, or it stands at its greatest value
pub record StreamRose (before now : ℕ) : Type 0 where
  pub fell_not : before ≤ now
  pub rose : min (before + 1) (2 ^ 64 - 1) ≤ now

-- the count has not fallen, and it rose where the answer is an error
pub record HasCause {T E : Type 0} (before now : ℕ) (result : Result T E) : Type 0 where
  pub later : before ≤ now
  pub failed : OnErr result (StreamRose before now)
