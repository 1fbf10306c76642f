-- Sets as bits.
use Rattle.std.proofs.Common.{◌≡◌, ℕ, zero, suc, ◌+◌, ◌-◌, ◌*◌, ◌/◌, ◌%◌, ◌^◌, ◌<◌, ◌≤◌, Bool, true, false, List, [], ◌∷◌, length, get_or, drop, ap, sym, ◌∙◌, arith}
use Rattle.std.specs.Prelude.{◌==◌, if◌then◌else◌}
use Rattle.std.proofs.Math.Nat.{div-div-eq-div-mul, pow-le-pow_right, zero-div}
use Rattle.std.proofs.Math.Seq.{drop-cons}
use Rattle.std.proofs.lemmas.Bool.{eq-eqb}
use Rattle.std.proofs.lemmas.Nat.{div-mul-add, mod-mul-add}
use Rattle.vx_disk.specs.Blocks.{bit_at}
use Rattle.vx_volume.specs.Sets.{bits}
use Rattle.vx_volume.specs.Steps.{in_set}

-- one flag more
pub bits_more : (told : List Bool) (k set new : ℕ) → k < 8 → length told ≡ 8 → (set ≡ bits (drop (8 - k) told)) × (set < 2 ^ k) → new ≡ 2 * set + (if get_or told (8 - 1 - k) false then 1 else 0) → (new ≡ bits (drop (8 - (k + 1)) told)) × (new < 2 ^ (k + 1))
bits_more told k set new lt long so_far is = (new_is, small (get_or told (8 - 1 - k) false) is)
  where
    place : 8 - (k + 1) ≡ 8 - 1 - k
    place = omega arith

    next : suc (8 - (k + 1)) ≡ 8 - k
    next = omega (arith, lt)

    cons : drop (8 - (k + 1)) told ≡ get_or told (8 - (k + 1)) false ∷ drop (suc (8 - (k + 1))) told
    cons = drop-cons told (8 - (k + 1)) false (omega (arith, lt, long))

    new_is : new ≡ bits (drop (8 - (k + 1)) told)
    new_is =
        is ∙ ap (λ (s : ℕ). 2 * s + (if get_or told (8 - 1 - k) false then 1 else 0)) so_far.0 ∙ ap (λ (j : ℕ). 2 * bits (drop j told) + (if get_or told (8 - 1 - k) false then 1 else 0)) (sym next)
        ∙ ap (λ (j : ℕ). 2 * bits (drop (suc (8 - (k + 1))) told) + (if get_or told j false then 1 else 0)) (sym place) ∙ ap bits (sym cons)

    twice : 2 ^ (k + 1) ≡ 2 * 2 ^ k
    twice = ap (λ (n : ℕ). 2 ^ n) (let e : k + 1 ≡ suc k = omega arith in e) ∙ (let e : 2 ^ suc k ≡ 2 * 2 ^ k = omega arith in e)

    small : (b : Bool) → new ≡ 2 * set + (if b then 1 else 0) → new < 2 ^ (k + 1)
    small true e = omega (arith, e, so_far.1, twice)
    small false e = omega (arith, e, so_far.1, twice)

-- the bits of the number are the flags
pub bit_of : (told : List Bool) (p : ℕ) → bit_at (bits told) p ≡ in_set told p
bit_of [] p = ap (λ (n : ℕ). n % 2 == 1) (zero-div (2 ^ p))
bit_of (b ∷ bs) zero = by b
  where
    by : (b : Bool) → ((2 * bits bs + (if b then 1 else 0)) / 2 ^ zero) % 2 == 1 ≡ b
    by true =
        let one : (2 * bits bs + 1) / 2 ^ zero ≡ bits bs * 2 + 1 = omega arith in
        eq-eqb _ 1 (ap (λ (n : ℕ). n % 2) one ∙ mod-mul-add (bits bs) 2 1 (omega arith))
    by false =
        let one : (2 * bits bs + 0) / 2 ^ zero ≡ bits bs * 2 + 0 = omega arith in
        ap (λ (n : ℕ). n == 1) (ap (λ (n : ℕ). n % 2) one ∙ mod-mul-add (bits bs) 2 0 (omega arith))
bit_of (b ∷ bs) (suc p) = ap (λ (n : ℕ). n % 2 == 1) (half b) ∙ bit_of bs p
  where
    half : (b : Bool) → (2 * bits bs + (if b then 1 else 0)) / 2 ^ suc p ≡ bits bs / 2 ^ p
    half b =
        let power : 2 ^ suc p ≡ 2 * 2 ^ p = omega arith in
        ap (λ (n : ℕ). (2 * bits bs + (if b then 1 else 0)) / n) power ∙ sym (div-div-eq-div-mul (2 * bits bs + (if b then 1 else 0)) 2 (2 ^ p)) ∙ ap (λ (n : ℕ). n / 2 ^ p) (first b)
      where
        first : (b : Bool) → (2 * bits bs + (if b then 1 else 0)) / 2 ≡ bits bs
        first true = ap (λ (n : ℕ). n / 2) (let e : 2 * bits bs + 1 ≡ bits bs * 2 + 1 = omega arith in e) ∙ div-mul-add (bits bs) 2 1 (omega arith)
        first false = ap (λ (n : ℕ). n / 2) (let e : 2 * bits bs + 0 ≡ bits bs * 2 + 0 = omega arith in e) ∙ div-mul-add (bits bs) 2 0 (omega arith)

-- a set of fewer than eight flags fits a byte with one more
pub set_small : (k set : ℕ) → k < 8 → set < 2 ^ k → set ≤ 127
set_small k set lt small = let most : 2 ^ k ≤ 2 ^ 7 = pow-le-pow_right {n = 2} (omega arith) {i = k} {j = 7} (omega (arith, lt)) in omega (arith, small, most)
