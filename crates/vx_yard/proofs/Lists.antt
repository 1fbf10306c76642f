-- Lists with another element at one place.
use Rattle.std.proofs.Common.{◌≡◌, ◌∙◌, ◌+◌, ◌<◌, ℕ, zero, suc, List, [], ◌∷◌, ◌++◌, length, take, ap, sym, refl, arith, ◌-◌, length-append}
use Rattle.std.specs.Prelude.{Some, slice_get, slice_set}
pub use Rattle.vx_model.proofs.Lists.{get-set_other, get-set_same, get_at, length-set}
use Rattle.vx_events.specs.Facts.{values_from}

pub set_twice : {A : Type 0} (xs : List A) (i : ℕ) (x y : A) → slice_set (slice_set xs i x) i y ≡ slice_set xs i y
set_twice [] i x y = refl
set_twice (z ∷ xs) zero x y = refl
set_twice (z ∷ xs) (suc i) x y = ap (λ ys. z ∷ ys) (set_twice xs i x y)

-- a place past the end
pub set_past : {A : Type 0} (xs : List A) (i : ℕ) (x : A) → (i < length xs → ⊥) → xs ≡ slice_set xs i x
set_past [] i x past = refl
set_past (y ∷ xs) zero x past = absurd (past (omega arith))
set_past (y ∷ xs) (suc i) x past = ap (λ ys. y ∷ ys) (set_past xs i x (λ below. past (omega (arith, below))))

-- an element in its own place
pub set_same : {A : Type 0} (xs : List A) (i : ℕ) (x : A) → slice_get xs i ≡ Some x → slice_set xs i x ≡ xs
set_same [] i x is = refl
set_same (y ∷ xs) zero x is = ap (λ z. z ∷ xs) (sym (let e : y ≡ x = cc in e))
set_same (y ∷ xs) (suc i) x is = ap (λ ys. y ∷ ys) (set_same xs i x is)

-- the values of a function that differs at one place
pub values_from-set : {A : Type 0} (f h : ℕ → A) (k n i : ℕ) (x : A) → h (k + i) ≡ x → ((j : ℕ) → (j ≡ k + i → ⊥) → h j ≡ f j) → values_from h k n ≡ slice_set (values_from f k n) i x
values_from-set f h k zero i x here there = refl
values_from-set f h k (suc n) zero x here there =
    let e : k + 0 ≡ k = omega arith in
    ap (λ y. y ∷ values_from h (k + 1) n) (ap h (sym e) ∙ here)
    ∙ ap (λ ys. x ∷ ys) (values_from-same f h (k + 1) n (λ j past. there j (omega arith)))
  where
    values_from-same : {A : Type 0} (f h : ℕ → A) (k n : ℕ) → ((j : ℕ) → k < j + 1 → h j ≡ f j) → values_from h k n ≡ values_from f k n
    values_from-same f h k zero same = refl
    values_from-same f h k (suc n) same =
        ap (λ y. y ∷ values_from h (k + 1) n) (same k (omega arith)) ∙ ap (λ ys. f k ∷ ys) (values_from-same f h (k + 1) n (λ j past. same j (omega arith)))
values_from-set f h k (suc n) (suc i) x here there =
    let e : (k + 1) + i ≡ k + suc i = omega arith in
    ap (λ y. y ∷ values_from h (k + 1) n) (there k (omega arith))
    ∙ ap (λ ys. f k ∷ ys) (values_from-set f h (k + 1) n i x (ap h e ∙ here) (λ j apart. there j (λ is. apart (is ∙ sym e))))

pub take_pushed : {A : Type 0} (xs : List A) (x : A) → take (length xs) (xs ++ x ∷ []) ≡ xs
take_pushed [] x = refl
take_pushed (y ∷ xs) x = ap (λ ys. y ∷ ys) (take_pushed xs x)

-- a list that got one more element, and lost it again
pub pop_pushed : {A : Type 0} (xs mid new : List A) (x : A) (len : ℕ) → mid ≡ xs ++ x ∷ [] → len ≡ length mid → new ≡ take (len - 1) mid → new ≡ xs
pop_pushed xs mid new x len pushed many popped =
    let count : len - 1 ≡ length xs = omega (arith, many, ap length pushed, length-append xs (x ∷ [])) in
    popped ∙ ap (λ (n : ℕ). take n mid) count ∙ ap (λ ys. take (length xs) ys) pushed ∙ take_pushed xs x
