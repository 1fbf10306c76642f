-- Lists of the values of a function.
use Rattle.std.proofs.Common.{◌≡◌, ℕ, zero, suc, ◌+◌, ◌-◌, ◌<◌, ◌≤◌, List, [], ◌∷◌, ◌++◌, length, refl, ap, ◌∙◌, sym, arith}
use Rattle.std.specs.Prelude.{slice_get, Some, slice_index}
use Rattle.vx_events.specs.Facts.{values_from}

-- one value more
pub values_from-push : {A : Type 0} (f : ℕ → A) (k n : ℕ) → values_from f k (suc n) ≡ values_from f k n ++ f (k + n) ∷ []
values_from-push f k zero = ap (λ (j : ℕ). f j ∷ []) (let e : k ≡ k + 0 = omega arith in e)
values_from-push f k (suc n) =
    let e : (k + 1) + n ≡ k + suc n = omega arith in
    ap (λ xs. f k ∷ xs) (values_from-push f (k + 1) n ∙ ap (λ (j : ℕ). values_from f (k + 1) n ++ f j ∷ []) e)

pub length-values_from : {A : Type 0} (f : ℕ → A) (k n : ℕ) → length (values_from f k n) ≡ n
length-values_from f k zero = refl
length-values_from f k (suc n) = ap suc (length-values_from f (k + 1) n)

pub slice_get-values_from : {A : Type 0} (f : ℕ → A) (k n i : ℕ) → i < n → slice_get (values_from f k n) i ≡ Some (f (k + i))
slice_get-values_from f k zero i h = absurd (omega arith)
slice_get-values_from f k (suc n) zero h = ap (λ (j : ℕ). Some (f j)) (let e : k ≡ k + 0 = omega arith in e)
slice_get-values_from f k (suc n) (suc i) h =
    let e : (k + 1) + i ≡ k + suc i = omega arith in
    slice_get-values_from f (k + 1) n i (omega arith) ∙ ap (λ (j : ℕ). Some (f j)) e

pub slice_index-values_from : (k n i : ℕ) → i < n → slice_index (values_from (λ j. j) k n) i ≡ k + i
slice_index-values_from k zero i h = absurd (omega arith)
slice_index-values_from k (suc n) zero h = omega arith
slice_index-values_from k (suc n) (suc i) h =
    let e : (k + 1) + i ≡ k + suc i = omega arith in
    slice_index-values_from (k + 1) n i (omega arith) ∙ e

pub raw_more : (k : ℕ) (vols new : List ℕ) → 1 ≤ k → vols ≡ values_from (λ j. j) 1 (k - 1) → new ≡ vols ++ k ∷ [] → new ≡ values_from (λ j. j) 1 (k + 1 - 1)
raw_more k vols new some is more =
    let last : 1 + (k - 1) ≡ k = omega arith in
    let count : suc (k - 1) ≡ k + 1 - 1 = omega arith in
    more ∙ ap (λ (xs : List ℕ). xs ++ k ∷ []) is ∙ ap (λ (j : ℕ). values_from (λ i. i) 1 (k - 1) ++ j ∷ []) (sym last)
    ∙ sym (values_from-push (λ i. i) 1 (k - 1)) ∙ ap (λ (j : ℕ). values_from (λ i. i) 1 j) count
