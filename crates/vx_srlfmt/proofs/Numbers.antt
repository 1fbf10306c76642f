-- Numbers that are spelled at a place are read there.
use Rattle.std.proofs.Common.{◌≡◌, ℕ, ◌+◌, List, ◌++◌, length, refl}
use Rattle.std.proofs.lemmas.List.{drop-drop, drop_at}
use Rattle.vx_wire.specs.Numbers.{number_at}

-- a number behind other bytes
pub number_at-behind : (w k : ℕ) (before xs : List ℕ) → number_at w (length before + k) (before ++ xs) ≡ number_at w k xs
unfolding number_at
number_at-behind w k before xs = rw (← drop-drop k (length before) (before ++ xs), drop_at before xs (length before) refl) refl
