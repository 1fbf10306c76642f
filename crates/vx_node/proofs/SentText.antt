-- A text with something at the end of its first line.
use Rattle.std.proofs.Common.{◌≡◌, ◌∙◌, ◌+◌, ◌<◌, ℕ, zero, suc, List, [], ◌∷◌, ◌++◌, length, take, drop, true, false, ap, sym, subst, refl, arith}
use Rattle.std.specs.Prelude.{Some, Bool, eqb, if◌then◌else◌, slice_get, slice_index_or}
use Rattle.std.proofs.lemmas.Bool.Decides.{nat_tests}
use Rattle.std.proofs.lemmas.List.{append_assoc, append-nil}
use Rattle.vx_events.proofs.Places.{never_some, some_same}
use Rattle.vx_yard.specs.Replies.{first_line_with}

-- a list from a place on, and up to it
drop_at : (xs : List ℕ) (k x : ℕ) → slice_get xs k ≡ Some x → drop k xs ≡ x ∷ drop (suc k) xs
drop_at [] k x is = absurd (never_some is)
drop_at (y ∷ ys) zero x is = ap (λ (z : ℕ). z ∷ ys) (some_same is)
drop_at (y ∷ ys) (suc k) x is = drop_at ys k x is

take_at : (xs : List ℕ) (k x : ℕ) → slice_get xs k ≡ Some x → take (suc k) xs ≡ take k xs ++ x ∷ []
take_at [] k x is = absurd (never_some is)
take_at (y ∷ ys) zero x is = ap (λ (z : ℕ). z ∷ []) (some_same is)
take_at (y ∷ ys) (suc k) x is = ap (λ (zs : List ℕ). y ∷ zs) (take_at ys k x is)

-- the byte of a place
pub byte_at : (text : List ℕ) (k : ℕ) → k < length text → slice_get text k ≡ Some (slice_index_or text k 0)
byte_at [] k below = absurd (omega (arith, below))
byte_at (x ∷ xs) zero below = refl
byte_at (x ∷ xs) (suc k) below = byte_at xs k (omega (arith, below))

-- the first line goes on behind place k
abbrev pub GoesOn : (text : List ℕ) → ℕ → Type 0
GoesOn text k = (more : List ℕ) → first_line_with more text ≡ take k text ++ first_line_with more (drop k text)

-- it ends there
abbrev pub EndsAt : (text : List ℕ) → ℕ → Type 0
EndsAt text k = (more : List ℕ) → first_line_with more text ≡ take k text ++ (more ++ drop k text)

pub goes_first : (text : List ℕ) → GoesOn text 0
goes_first text more = refl

with_byte : (more rest : List ℕ) (x : ℕ) → eqb x 10 ≡ false → first_line_with more (x ∷ rest) ≡ x ∷ first_line_with more rest
with_byte more rest x is = ap (λ (b : Bool). if b then more ++ x ∷ rest else x ∷ first_line_with more rest) is

with_end : (more rest : List ℕ) (x : ℕ) → eqb x 10 ≡ true → first_line_with more (x ∷ rest) ≡ more ++ x ∷ rest
with_end more rest x is = ap (λ (b : Bool). if b then more ++ x ∷ rest else x ∷ first_line_with more rest) is

pub goes_further : (text : List ℕ) (k x : ℕ) → slice_get text k ≡ Some x → (x ≡ 10 → ⊥) → GoesOn text k → GoesOn text (k + 1)
goes_further text k x is other goes =
    let next : suc k ≡ k + 1 = omega arith in
    subst (λ (n : ℕ). GoesOn text n) next (λ more.
    let test : eqb x 10 ≡ false = not_ten x other in
    goes more ∙ ap (λ (xs : List ℕ). take k text ++ first_line_with more xs) (drop_at text k x is) ∙ ap (λ (xs : List ℕ). take k text ++ xs) (with_byte more (drop (suc k) text) x test)
    ∙ sym (append_assoc (take k text) (x ∷ []) (first_line_with more (drop (suc k) text))) ∙ ap (λ (xs : List ℕ). xs ++ first_line_with more (drop (suc k) text)) (sym (take_at text k x is)))
  where
    not_ten : (x : ℕ) → (x ≡ 10 → ⊥) → eqb x 10 ≡ false
    not_ten x other = grind (arith, nat_tests)

pub ends_there : (text : List ℕ) (k x : ℕ) → slice_get text k ≡ Some x → x ≡ 10 → GoesOn text k → EndsAt text k
ends_there text k x is ten goes more =
    let test : eqb x 10 ≡ true = grind (arith, nat_tests) in
    goes more ∙ ap (λ (xs : List ℕ). take k text ++ first_line_with more xs) (drop_at text k x is) ∙ ap (λ (xs : List ℕ). take k text ++ xs) (with_end more (drop (suc k) text) x test)
    ∙ ap (λ (xs : List ℕ). take k text ++ (more ++ xs)) (sym (drop_at text k x is))

drop_whole : (xs : List ℕ) → drop (length xs) xs ≡ []
drop_whole [] = refl
drop_whole (x ∷ xs) = drop_whole xs

pub ends_last : (text : List ℕ) → GoesOn text (length text) → EndsAt text (length text)
ends_last text goes more =
    goes more ∙ ap (λ (xs : List ℕ). take (length text) text ++ first_line_with more xs) (drop_whole text)
    ∙ ap (λ (xs : List ℕ). take (length text) text ++ xs) (sym (append-nil more)) ∙ ap (λ (xs : List ℕ). take (length text) text ++ (more ++ xs)) (sym (drop_whole text))
