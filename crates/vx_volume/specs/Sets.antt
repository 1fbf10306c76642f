-- Sets as bits.
use Rattle.std.specs.Prelude.{ℕ, ◌+◌, ◌*◌, Bool, if◌then◌else◌, List, [], ◌∷◌}

-- the number with these bits, the lowest first
abbrev pub bits : List Bool → ℕ
bits [] = 0
bits (b ∷ bs) = 2 * bits bs + (if b then 1 else 0)
