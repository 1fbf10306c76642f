-- What tests that are made together tell.
use Rattle.std.proofs.Common.{◌≡◌, ◌<◌, ◌≤◌, ℕ, Bool, true, false, eqb, leb, ltb, refl, arith}
use Rattle.std.specs.Prelude.{◌&&◌, ◌||◌}
use Rattle.std.proofs.lemmas.Bool.Decides.{nat_tests}

pub and_left : (a b : Bool) → (a && b) ≡ true → a ≡ true
and_left true b h = refl
and_left false b h = h

pub and_right : (a b : Bool) → (a && b) ≡ true → b ≡ true
and_right true b h = h
and_right false b h = absurd (cc)

-- the test that a block lies among some
pub tells : (w v b k p q : ℕ) → (eqb w v && (leb b k && ltb p q)) ≡ true → (w ≡ v) × (b ≤ k) × (p < q)
tells w v b k p q h = (grind (arith, nat_tests), grind (arith, nat_tests), grind (arith, nat_tests))

pub shows : (w v b k p q : ℕ) → w ≡ v → b ≤ k → p < q → (eqb w v && (leb b k && ltb p q)) ≡ true
shows w v b k p q same low high = grind (arith, nat_tests)

pub both_true : (a b : Bool) → a ≡ true → b ≡ true → (a && b) ≡ true
both_true true b e f = f
both_true false b e f = absurd (cc)

pub or_true : (a b : Bool) → b ≡ true → (a || b) ≡ true
or_true true b is = refl
or_true false b is = is

pub by_bool : {A : Type 0} (b : Bool) → (b ≡ true → A) → (b ≡ false → A) → A
by_bool true f g = f refl
by_bool false f g = g refl
