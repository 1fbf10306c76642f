-- Which blocks of a write a volume has: one block more, and what a read tells of them.
use Rattle.std.proofs.Common.{◌≡◌, ◌⊎◌, ◌∙◌, ℕ, zero, suc, ◌+◌, ◌-◌, ◌*◌, ◌<◌, ◌≤◌, Bool, false, Some, List, ◌++◌, length, take, drop, slice_get, slice_set, bytes_eq, ap, sym, refl, subst, inl, inr, arith}
use Rattle.std.proofs.lemmas.List.{take_at}
use Rattle.vx_model.specs.Content.{block_of}
use Rattle.vx_model.proofs.Lists.{get-set_other, get-set_same, length-set}
use Rattle.vx_disk.specs.Shelf.{Meaning}
use Rattle.vx_history.specs.Groups.{BlockMay, GroupNode}
use Rattle.vx_grouped.specs.Keepings.{BytesKept, KeepsPlain}
use Rattle.vx_grouped.specs.Plain.{ReadsPlain}

below_or_here : (k n : ℕ) → k < n + 1 → (k < n) ⊎ (k ≡ n)
below_or_here zero zero lt = inr refl
below_or_here zero (suc n) lt = inl (omega arith)
below_or_here (suc k) zero lt = absurd (omega (arith, lt))
below_or_here (suc k) (suc n) lt = elim (below_or_here k n (omega (arith, lt))) [
  | inl less ↦ inl (omega (arith, less))
  | inr same ↦ inr (ap suc same)
]

-- one block more
pub one_more : (seen bytes : List ℕ) (bits : List Bool) (n : ℕ) (bit : Bool) → n < 16 → bit ≡ bytes_eq (block_of seen n) (block_of bytes n)
    → ((k : ℕ) → k < n → slice_get bits k ≡ Some (bytes_eq (block_of seen k) (block_of bytes k))) × ((k : ℕ) → n ≤ k → k < 16 → slice_get bits k ≡ Some false) × (length bits ≡ 16)
    → ((k : ℕ) → k < n + 1 → slice_get (slice_set bits n bit) k ≡ Some (bytes_eq (block_of seen k) (block_of bytes k)))
    × ((k : ℕ) → n + 1 ≤ k → k < 16 → slice_get (slice_set bits n bit) k ≡ Some false) × (length (slice_set bits n bit) ≡ 16)
one_more seen bytes bits n bit few is it = (
  λ k lt. elim (below_or_here k n lt) [
    | inl less ↦ get-set_other bits n k bit (λ e. omega (arith, e, less)) ∙ it.0 k less
    | inr same ↦ subst (λ j. slice_get (slice_set bits n bit) j ≡ Some (bytes_eq (block_of seen j) (block_of bytes j))) (sym same) (get-set_same bits n bit (let long = it.2 in omega (arith, few, long)) ∙ ap Some is)
  ],
  λ k ge lt. get-set_other bits n k bit (λ e. omega (arith, e, ge)) ∙ it.1 k (omega (arith, ge)) lt,
  length-set bits n bit ∙ it.2,
)

-- what a read tells of the blocks
pub keeps_plain : (note : GroupNode) (m : Meaning) (v block : ℕ) (seen bytes : List ℕ) (bits : List Bool) → length seen ≡ length bytes → ReadsPlain note m v block seen → BytesKept seen bytes bits → KeepsPlain note m v block bytes bits
keeps_plain note m v block seen bytes bits long read kept = record {
  each = λ told k lt.
      let place : block + k - block ≡ k = omega arith in
      (block_of seen k, subst (λ (j : ℕ). BlockMay note v (block + k) (take 512 (drop (512 * j) seen))) place (read.each told (block + k) (record { there = refl; first = omega arith; last = omega (arith, lt, long, place) })), kept.each k lt);
  rest = kept.rest;
}

-- the same where what was read stands at the front of a longer list
pub keeps_front : (note : GroupNode) (m : Meaning) (v block : ℕ) (seen bytes : List ℕ) (bits : List Bool) (rest : List ℕ) → length seen ≡ length bytes → ReadsPlain note m v block seen
    → BytesKept (take (length bytes) (seen ++ rest)) bytes bits → KeepsPlain note m v block bytes bits
keeps_front note m v block seen bytes bits rest long read kept =
    keeps_plain note m v block seen bytes bits long read (subst (λ (xs : List ℕ). BytesKept xs bytes bits) (take_at seen rest (length bytes) long) kept)
