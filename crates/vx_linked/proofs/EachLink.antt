-- What loops over the links of a site keep, in which each link gets a change of its own, or a bit.
use Rattle.std.proofs.Common.{◌≡◌, ◌∙◌, ◌+◌, ◌-◌, ◌*◌, ◌^◌, ◌<◌, ◌≤◌, ℕ, zero, suc, List, [], ◌∷◌, length, drop, map, Bool, true, false, ap, sym, refl, arith, add-one}
use Rattle.std.proofs.Math.Nat.{pow-succ'}
use Rattle.std.specs.Prelude.{Some, if◌then◌else◌, slice_get, slice_set}
use Rattle.vx_order.specs.declared.facts.LinkFacts.{LinkFacts}
use Rattle.vx_events.proofs.Places.{some_same}
use Rattle.vx_linked.specs.Converting.{mode_maps, places_with_maps, turned_below}

module _ (f : LinkFacts → LinkFacts) where
  pub turned_get : (k : ℕ) (ls : List LinkFacts) → slice_get (turned_below f k ls) k ≡ slice_get ls k
  turned_get zero ls = refl
  turned_get (suc k) [] = refl
  turned_get (suc k) (l ∷ ls) = turned_get k ls

  pub turned_step : (k : ℕ) (ls : List LinkFacts) (x : LinkFacts) → slice_get ls k ≡ Some x → slice_set (turned_below f k ls) k (f x) ≡ turned_below f (suc k) ls
  turned_step zero [] x is = absurd (cc)
  turned_step zero (l ∷ ls) x is = ap (λ (y : LinkFacts). f y ∷ ls) (sym (some_same is))
  turned_step (suc k) [] x is = absurd (cc)
  turned_step (suc k) (l ∷ ls) x is = ap (λ (fs : List LinkFacts). f l ∷ fs) (turned_step k ls x is)

  pub turned_all : (k : ℕ) (ls : List LinkFacts) → length ls ≤ k → turned_below f k ls ≡ map f ls
  turned_all zero [] h = refl
  turned_all zero (l ∷ ls) h = absurd (omega (arith, h))
  turned_all (suc k) [] h = refl
  turned_all (suc k) (l ∷ ls) h = ap (λ (fs : List LinkFacts). f l ∷ fs) (turned_all k ls (omega (arith, h)))

-- ---- places, from the last to the first

-- that of the next one before
pub places_before : (ls : List LinkFacts) (n : ℕ) (x : LinkFacts) → slice_get ls n ≡ Some x → places_with_maps (drop n ls) ≡ (if mode_maps x.link.mode then 1 else 0) + 2 * places_with_maps (drop (suc n) ls)
places_before [] n x is = absurd (cc)
places_before (l ∷ ls) zero x is = ap (λ (y : LinkFacts). (if mode_maps y.link.mode then 1 else 0) + 2 * places_with_maps ls) (some_same is)
places_before (l ∷ ls) (suc n) x is = places_before ls n x is

pub places_past : (ls : List LinkFacts) (n : ℕ) → length ls ≤ n → places_with_maps (drop n ls) ≡ 0
places_past [] zero le = refl
places_past [] (suc n) le = refl
places_past (l ∷ ls) zero le = absurd (omega (arith, le))
places_past (l ∷ ls) (suc n) le = places_past ls n (omega (arith, le))

bit_few : (b : Bool) → (if b then 1 else 0) ≤ 1
bit_few true = omega arith
bit_few false = omega arith

pub bit_small : (bit : ℕ) (b : Bool) → bit ≡ (if b then 1 else 0) → bit ≤ 1
bit_small bit b is = omega (arith, is, bit_few b)

-- one place more fits
pub places_few : (places back bit : ℕ) (b : Bool) → bit ≡ (if b then 1 else 0) → places < 2 ^ back → 2 * places + bit < 2 ^ (back + 1)
places_few places back bit b is low = rw (add-one back) (omega (arith, is, low, bit_few b, pow-succ' 2 back))

module _ (ls : List LinkFacts) (x : LinkFacts) (count back at places bit : ℕ) (long : count ≡ length ls) (below : back < count) (at_is : at ≡ count - 1 - back) (there : slice_get ls at ≡ Some x)
    (is : places ≡ places_with_maps (drop (count - back) ls)) (bit_is : bit ≡ (if mode_maps x.link.mode then 1 else 0)) where
  pub places_on : 2 * places + bit ≡ places_with_maps (drop (count - (back + 1)) ls)
  places_on =
      let here : count - (back + 1) ≡ at = omega (arith, at_is) in
      let next : count - back ≡ suc at = omega (arith, at_is, below) in
      let was : places ≡ places_with_maps (drop (suc at) ls) = is ∙ ap (λ (n : ℕ). places_with_maps (drop n ls)) next in
      let step = places_before ls at x there in
      let now : 2 * places + bit ≡ places_with_maps (drop at ls) = omega (arith, was, bit_is, step) in
      now ∙ ap (λ (n : ℕ). places_with_maps (drop n ls)) (sym here)
