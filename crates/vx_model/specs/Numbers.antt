-- The bound of the numbers that are counted up: serials, stamps, runs and the like; and a test as a number.
use Rattle.std.specs.Prelude.{ℕ, ◌+◌, Bool, true, false}
use Rattle.vx_model.specs.declared.limits.TheConstants.{MOST_NUMBER}

-- one more than the greatest of them
abbrev pub number_bound : ℕ
number_bound = MOST_NUMBER + 1

-- one, if it is so
abbrev pub one_if : Bool → ℕ
one_if true = 1
one_if false = 0
