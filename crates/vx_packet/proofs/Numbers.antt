-- Numbers that are spelled are read.
use Rattle.std.proofs.Common.{◌≡◌, ℕ, ◌^◌, ◌<◌, [], ◌++◌, true, false}
use Rattle.vx_wire.specs.Numbers.{be_bytes, number_at}
use Rattle.vx_wire.proofs.NumberLemmas.{number_at-be_bytes}

pub read : (w n : ℕ) → n < 256 ^ w → number_at w 0 (be_bytes w n ++ []) ≡ n
read w n lt = number_at-be_bytes w n [] [] lt

-- a test has one answer
pub not_both : false ≡ true → ⊥
not_both h = cc
