-- Functions with another value at one place.
use Rattle.std.proofs.Common.{◌≡◌, ℕ, Bool, true, false, refl, sym, ap, subst, ◌∙◌, arith}
use Rattle.std.specs.Prelude.{eqb, if◌then◌else◌}
use Rattle.std.proofs.lemmas.Bool.Decides.{nat_tests}
pub use Rattle.vx_model.proofs.Tests.{and_left, and_right}
use Rattle.vx_model.specs.Sites.{same_line}
use Rattle.vx_history.specs.World.{updated, line_updated}
use Rattle.vx_model.specs.declared.history.Line.{Line}

-- what holds of both outcomes of a test holds of the one that it picks
pub by_test : {A : Type 0} (P : A → Type 0) (b : Bool) (x y : A) → (b ≡ true → P x) → (b ≡ false → P y) → P (if b then x else y)
by_test P true x y f g = f refl
by_test P false x y f g = g refl

pub eqb_equal : (a b : ℕ) → eqb a b ≡ true → a ≡ b
eqb_equal a b h = grind (arith, nat_tests)

pub eqb_apart : (a b : ℕ) → eqb a b ≡ false → a ≡ b → ⊥
eqb_apart a b h e = grind (arith, nat_tests)

pub eqb_self : (a : ℕ) → eqb a a ≡ true
eqb_self a = grind (arith, nat_tests)

-- each place of an updated function has what the new value has there, or what was there before
pub all_updated : {A : Type 0} (P : ℕ → A → Type 0) (f : ℕ → A) (i : ℕ) (x : A) → P i x → ((k : ℕ) → (k ≡ i → ⊥) → P k (f k)) → (k : ℕ) → P k (updated f i x k)
all_updated P f i x here rest k =
    by_test (P k) (eqb k i) x (f k) (λ e. subst (λ j. P j x) (sym (eqb_equal k i e)) here) (λ e. rest k (eqb_apart k i e))

line_made : (g o h p : ℕ) → g ≡ h → o ≡ p → (let x : Line = record { generation = g; origin = o } in x) ≡ record { generation = h; origin = p }
line_made g o h p e f =
    ap (λ k. let x : Line = record { generation = k; origin = o } in x) e ∙ ap (λ k. let x : Line = record { generation = h; origin = k } in x) f

pub same_line_equal : (a b : Line) → same_line a b ≡ true → a ≡ b
same_line_equal a b h =
    line_made a.generation a.origin b.generation b.origin
    (eqb_equal a.generation b.generation (and_left (eqb a.generation b.generation) (eqb a.origin b.origin) h))
    (eqb_equal a.origin b.origin (and_right (eqb a.generation b.generation) (eqb a.origin b.origin) h))

pub same_line_self : (a : Line) → same_line a a ≡ true
same_line_self a = rw (eqb_self a.generation) (eqb_self a.origin)

-- the same of a function of lines
pub all_lines : {A : Type 0} (P : Line → A → Type 0) (f : Line → A) (l : Line) (x : A) → P l x → ((k : Line) → (k ≡ l → ⊥) → P k (f k)) → (k : Line) → P k (line_updated f l x k)
all_lines P f l x here rest k =
    by_test (P k) (same_line k l) x (f k) (λ e. subst (λ j. P j x) (sym (same_line_equal k l e)) here) (λ e. rest k (λ (is : k ≡ l). different (subst (λ j. same_line j l ≡ false) is e)))
  where
    different : same_line l l ≡ false → ⊥
    different e = let s : same_line l l ≡ true = same_line_self l in cc

pub at_line : {A : Type 0} (f : Line → A) (l : Line) (x : A) → line_updated f l x l ≡ x
at_line f l x = ap (λ b. if b then x else f l) (same_line_self l)

pub at_place : {A : Type 0} (f : ℕ → A) (i : ℕ) (x : A) → updated f i x i ≡ x
at_place f i x = ap (λ b. if b then x else f i) (eqb_self i)

pub updated_other : {A : Type 0} (f : ℕ → A) (i j : ℕ) (x : A) → (j ≡ i → ⊥) → updated f i x j ≡ f j
updated_other f i j x apart = by_test (λ y. y ≡ f j) (eqb j i) x (f j) (λ e. absurd (apart (eqb_equal j i e))) (λ _. refl)
