-- A list with one item changed.
use Rattle.std.proofs.Common.{◌≡◌, ◌∙◌, ℕ, zero, suc, ◌<◌, Some, None, List, [], ◌∷◌, length, refl, sym, ap, subst, arith}
use Rattle.std.proofs.lemmas.Option.{slice_get-get_or}
use Rattle.std.proofs.Math.ListN.{set}
use Rattle.std.specs.Prelude.{get_or, slice_get}

pub set_each : {X : Type 0} (xs : List X) (k : ℕ) (y : X) (Q : ℕ → X → Type 0) → ((w : ℕ) (x : X) → (w ≡ k → ⊥) → slice_get xs w ≡ Some x → Q w x) → Q k y → (w : ℕ) (x : X) → slice_get (set xs k y) w ≡ Some x → Q w x
set_each [] k y Q others new w x is = absurd (let clash : None ≡ Some x = is in cc)
set_each (z ∷ zs) zero y Q others new zero x is = let same : y ≡ x = cc in subst (Q 0) same new
set_each (z ∷ zs) zero y Q others new (suc w) x is = others (suc w) x (λ same. omega (arith, same)) is
set_each (z ∷ zs) (suc k) y Q others new zero x is = others 0 x (λ same. omega (arith, same)) is
set_each (z ∷ zs) (suc k) y Q others new (suc w) x is = set_each zs k y (λ v. Q (suc v)) (λ v u apart at. others (suc v) u (λ same. apart (omega (arith, same))) at) new w x is

-- the other items
pub set_other : {X : Type 0} (xs : List X) (k : ℕ) (y : X) (w : ℕ) → (w ≡ k → ⊥) → slice_get (set xs k y) w ≡ slice_get xs w
set_other [] k y w apart = refl
set_other (z ∷ zs) zero y zero apart = absurd (apart refl)
set_other (z ∷ zs) zero y (suc w) apart = refl
set_other (z ∷ zs) (suc k) y zero apart = refl
set_other (z ∷ zs) (suc k) y (suc w) apart = set_other zs k y w (λ same. apart (omega (arith, same)))

-- the one that was changed
pub set_here : {X : Type 0} (xs : List X) (k : ℕ) (y x : X) → slice_get (set xs k y) k ≡ Some x → y ≡ x
set_here [] k y x is = absurd (let clash : None ≡ Some x = is in cc)
set_here (z ∷ zs) zero y x is = cc
set_here (z ∷ zs) (suc k) y x is = set_here zs k y x is

-- an item that is there
pub item_at : {X : Type 0} (xs : List X) (k : ℕ) → k < length xs → (x : X) × (slice_get xs k ≡ Some x)
item_at [] k lt = absurd (omega (arith, lt))
item_at (z ∷ zs) zero lt = (z, refl)
item_at (z ∷ zs) (suc k) lt = item_at zs k (omega (arith, lt))

-- an item that was lent
pub item_of : {X : Type 0} (xs : List X) (k : ℕ) (x : X) → x ≡ get_or xs k x → k < length xs → slice_get xs k ≡ Some x
item_of xs k x is lt = slice_get-get_or xs k x lt ∙ ap Some (sym is)
