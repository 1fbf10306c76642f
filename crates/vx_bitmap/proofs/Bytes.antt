-- Bits of one byte, decided for each byte and place.
use Rattle.std.proofs.Common.{◌≡◌, ◌∙◌, ℕ, zero, suc, ◌+◌, ◌^◌, ◌<◌, Bool, true, false, ⊎_elim, refl, sym, ap, subst, arith}
use Rattle.std.specs.Prelude.{◌==◌, ◌&&◌, if◌then◌else◌, nat_lt}
use Rattle.std.proofs.lemmas.Bool.{and_parts, cases_eq, ltb-true}
use Rattle.vx_bitmap.specs.Bits.{bit, with_bit}

-- all numbers below n
abbrev all_below : ℕ → (ℕ → Bool) → Bool
all_below zero f = true
all_below (suc n) f = f n && all_below n f

below_all : (n : ℕ) (f : ℕ → Bool) → all_below n f ≡ true → (k : ℕ) → k < n → f k ≡ true
below_all zero f all k low = absurd (omega (arith, low))
below_all (suc n) f all k low =
    let parts = and_parts (f n) (all_below n f) all in
    ⊎_elim (λ (same : k ≡ n). subst (λ (j : ℕ). f j ≡ true) (sym same) parts.0) (λ other. below_all n f parts.1 k (omega (arith, low, other))) (cases_eq k n)

abbrev same_bool : Bool → Bool → Bool
same_bool true b = b
same_bool false true = false
same_bool false false = true

same_told : (a b : Bool) → same_bool a b ≡ true → a ≡ b
same_told true true e = refl
same_told true false e = sym e
same_told false true e = e
same_told false false e = refl

abbrev tested : Bool → ℕ → ℕ → ℕ → Bool
tested value byte k j = same_bool (bit (with_bit byte k value) j) (if j == k then value else bit byte j)

decided : (value : Bool) → all_below 256 (λ byte. all_below 8 (λ k. all_below 8 (λ j. tested value byte k j))) ≡ true
decided true = refl
decided false = refl

pub bit-with_bit : (byte k j : ℕ) (value : Bool) → byte < 256 → k < 8 → j < 8 → bit (with_bit byte k value) j ≡ (if j == k then value else bit byte j)
bit-with_bit byte k j value b_low k_low j_low =
    same_told (bit (with_bit byte k value) j) (if j == k then value else bit byte j)
    (below_all 8 (λ i. tested value byte k i)
    (below_all 8 (λ i. all_below 8 (λ j. tested value byte i j))
    (below_all 256 (λ b. all_below 8 (λ k. all_below 8 (λ j. tested value b k j))) (decided value) byte b_low) k k_low) j j_low)

abbrev room : ℕ → ℕ → Bool
room byte k = if bit byte k then true else nat_lt (byte + 2 ^ k) 256

room_all : all_below 256 (λ byte. all_below 8 (λ k. room byte k)) ≡ true
room_all = refl

-- a byte with one bit more is a byte
pub fits-more : (byte k : ℕ) → byte < 256 → k < 8 → bit byte k ≡ false → byte + 2 ^ k < 256
fits-more byte k b_low k_low clear =
    let all : room byte k ≡ true = below_all 8 (λ i. room byte i) (below_all 256 (λ b. all_below 8 (λ k. room b k)) room_all byte b_low) k k_low in
    ltb-true (byte + 2 ^ k) 256 (ap (λ (b : Bool). if b then true else nat_lt (byte + 2 ^ k) 256) (sym clear) ∙ all)
