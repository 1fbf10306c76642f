-- Places of a ring that lie less than its size apart have different blocks.
use Rattle.std.proofs.Common.{◌≡◌, inl, inr, ℕ, ◌+◌, ◌*◌, ◌/◌, ◌%◌, ◌<◌, ◌≤◌, arith}
use Rattle.std.proofs.lemmas.Bool.{cases_lt}
use Rattle.std.proofs.lemmas.Nat.{div-add-mod'}
use Rattle.std.proofs.Math.Nat.{mul-le-mul_left}
use Rattle.vx_ringlog.specs.Chain.{block}

pub block_apart : (size p x : ℕ) → p < x → x < p + size → block size p ≡ block size x → ⊥
block_apart size p x lt near same =
    let a = p / size in
    let b = x / size in
    let ea : a * size + p % size ≡ p = div-add-mod' p size in
    let eb : b * size + x % size ≡ x = div-add-mod' x size in
    elim (cases_lt a b) [
      | inl less ↦ let m : size * (a + 1) ≤ size * b = mul-le-mul_left size (omega arith) in absurd (omega arith)
      | inr more ↦ let m : size * b ≤ size * a = mul-le-mul_left size more in absurd (omega arith)
    ]
