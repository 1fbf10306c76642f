-- What the loops over the links of a site keep.
use Rattle.std.proofs.Common.{◌≡◌, ◌∙◌, ◌≤◌, ℕ, zero, suc, List, [], ◌∷◌, ◌++◌, length, take, Bool, true, false, ap, sym, refl, arith}
use Rattle.std.specs.Prelude.{◌||◌, Some, slice_get, slice_set}
use Rattle.std.specs.List.{list_any}
use Rattle.vx_model.specs.declared.state.KeptLink.{KeptLink}
use Rattle.vx_order.specs.declared.facts.LinkFacts.{LinkFacts}
use Rattle.vx_events.proofs.Places.{some_same}
use Rattle.vx_effects.specs.Facts.{grown_link, grown_links}
use Rattle.vx_effects.specs.Restarts.{fact_again, facts_again}
use Rattle.vx_linked.specs.Holds.{grown_below}

pub none_any : {A : Type 0} (p : A → Bool) (xs : List A) (k : ℕ) (x : A) → list_any p xs ≡ false → slice_get xs k ≡ Some x → p x ≡ false
none_any p [] k x none is = absurd (cc)
none_any p (y ∷ ys) zero x none is = ap p (sym (some_same is)) ∙ first (p y) (list_any p ys) none
  where
    first : (a b : Bool) → (a || b) ≡ false → a ≡ false
    first true b e = absurd (cc)
    first false b e = refl
none_any p (y ∷ ys) (suc k) x none is = none_any p ys k x (second (p y) (list_any p ys) none) is
  where
    second : (a b : Bool) → (a || b) ≡ false → b ≡ false
    second true b e = absurd (cc)
    second false b e = e

-- ---- links that come back

pub facts_more : (ls : List KeptLink) (us : List ℕ) (k : ℕ) (l : KeptLink) (u : ℕ) → slice_get ls k ≡ Some l → slice_get us k ≡ Some u
    → facts_again (take (suc k) ls) us ≡ facts_again (take k ls) us ++ fact_again l u ∷ []
facts_more [] us k l u one two = absurd (cc)
facts_more (x ∷ ls) [] k l u one two = absurd (cc)
facts_more (x ∷ ls) (y ∷ us) zero l u one two = ap (λ (z : KeptLink). fact_again z y ∷ []) (some_same one) ∙ ap (λ (n : ℕ). fact_again l n ∷ []) (some_same two)
facts_more (x ∷ ls) (y ∷ us) (suc k) l u one two = ap (λ (fs : List LinkFacts). fact_again x y ∷ fs) (facts_more ls us k l u one two)

pub facts_few : (ls : List KeptLink) (us : List ℕ) (k : ℕ) → length (facts_again (take k ls) us) ≤ k
facts_few ls us zero = omega arith
facts_few [] us (suc k) = omega arith
facts_few (x ∷ ls) [] (suc k) = omega arith
facts_few (x ∷ ls) (y ∷ us) (suc k) = let rest : length (facts_again (take k ls) us) ≤ k = facts_few ls us k in omega (arith, rest)

-- ---- links that grow

module _ (number blocks : ℕ) where
  abbrev below : ℕ → List LinkFacts → List LinkFacts
  below = grown_below number blocks

  pub grown_get : (k : ℕ) (ls : List LinkFacts) → slice_get (below k ls) k ≡ slice_get ls k
  grown_get zero ls = refl
  grown_get (suc k) [] = refl
  grown_get (suc k) (l ∷ ls) = grown_get k ls

  pub grown_step : (k : ℕ) (ls : List LinkFacts) (x : LinkFacts) → slice_get ls k ≡ Some x → slice_set (below k ls) k (grown_link number blocks x) ≡ below (suc k) ls
  grown_step zero [] x is = absurd (cc)
  grown_step zero (l ∷ ls) x is = ap (λ (y : LinkFacts). grown_link number blocks y ∷ ls) (sym (some_same is))
  grown_step (suc k) [] x is = absurd (cc)
  grown_step (suc k) (l ∷ ls) x is = ap (λ (fs : List LinkFacts). grown_link number blocks l ∷ fs) (grown_step k ls x is)

  pub grown_all : (k : ℕ) (ls : List LinkFacts) → length ls ≤ k → below k ls ≡ grown_links number blocks ls
  grown_all zero [] h = refl
  grown_all zero (l ∷ ls) h = absurd (omega (arith, h))
  grown_all (suc k) [] h = refl
  grown_all (suc k) (l ∷ ls) h = ap (λ (fs : List LinkFacts). grown_link number blocks l ∷ fs) (grown_all k ls (omega (arith, h)))
