-- Lists of which each two members are in a relation, and tests of several parts.
use Rattle.std.proofs.Common.{◌≡◌, ℕ, zero, suc, ◌<◌, Bool, true, false, Some, List, [], ◌∷◌, ◌++◌, refl, ap, sym, ◌∙◌, subst, arith}
use Rattle.std.specs.Prelude.{◌&&◌, slice_get, flat_map, if◌then◌else◌}
use Rattle.std.specs.List.{list_all}
use Rattle.std.proofs.lemmas.List.Folds.{list_all-append}
pub use Rattle.vx_model.proofs.Lists.{all_at}
pub use Rattle.vx_model.proofs.Tests.{and_left, and_right}
use Rattle.vx_config.specs.Checks.{pairwise}

pub then_of : (t a b : Bool) → t ≡ true → (if t then a else b) ≡ true → a ≡ true
then_of true a b is e = e
then_of false a b is e = absurd (let clash : false ≡ true = is in cc)

-- ---- lists of which each two are in a relation

pub get_left : {A : Type 0} (xs ys : List A) (i : ℕ) (x : A) → slice_get xs i ≡ Some x → (j : ℕ) × (slice_get (xs ++ ys) j ≡ Some x)
get_left [] ys i x at = absurd cc
get_left (y ∷ xs) ys zero x at = (0, at)
get_left (y ∷ xs) ys (suc i) x at = let it = get_left xs ys i x at in (suc it.0, it.1)

pub get_right : {A : Type 0} (xs ys : List A) (i : ℕ) (x : A) → slice_get ys i ≡ Some x → (j : ℕ) × (slice_get (xs ++ ys) j ≡ Some x)
get_right [] ys i x at = (i, at)
get_right (y ∷ xs) ys i x at = let it = get_right xs ys i x at in (suc it.0, it.1)

module _ {A : Type 0} (r : A → A → Bool) where
  pub pairs_left : (xs ys : List A) → pairwise r (xs ++ ys) ≡ true → pairwise r xs ≡ true
  pairs_left [] ys all = refl
  pairs_left (x ∷ xs) ys all = both (list_all (r x) xs) (pairwise r xs) (front xs (and_left (list_all (r x) (xs ++ ys)) (pairwise r (xs ++ ys)) all)) (pairs_left xs ys (and_right (list_all (r x) (xs ++ ys)) (pairwise r (xs ++ ys)) all))
    where
      both : (a b : Bool) → a ≡ true → b ≡ true → a && b ≡ true
      both a b one two = rw one two

      front : (zs : List A) → list_all (r x) (zs ++ ys) ≡ true → list_all (r x) zs ≡ true
      front zs is = by zs (list_all-append (r x) zs ys) is
        where
          by : (zs : List A) → list_all (r x) (zs ++ ys) ≡ (list_all (r x) zs && list_all (r x) ys) → list_all (r x) (zs ++ ys) ≡ true → list_all (r x) zs ≡ true
          by zs split is = and_left (list_all (r x) zs) (list_all (r x) ys) (sym split ∙ is)

  pub pairs_right : (xs ys : List A) → pairwise r (xs ++ ys) ≡ true → pairwise r ys ≡ true
  pairs_right [] ys all = all
  pairs_right (x ∷ xs) ys all = pairs_right xs ys (and_right (list_all (r x) (xs ++ ys)) (pairwise r (xs ++ ys)) all)

  pub pairs_across : (xs ys : List A) (i j : ℕ) (x y : A) → pairwise r (xs ++ ys) ≡ true → slice_get xs i ≡ Some x → slice_get ys j ≡ Some y → r x y ≡ true
  pairs_across [] ys i j x y all at_x at_y = absurd cc
  pairs_across (z ∷ xs) ys zero j x y all at_x at_y =
      let same : z ≡ x = cc in
      let k = get_right xs ys j y at_y in
      ap (λ (w : A). r w y) (sym same) ∙ all_at (r z) (xs ++ ys) k.0 y (and_left (list_all (r z) (xs ++ ys)) (pairwise r (xs ++ ys)) all) k.1
  pairs_across (z ∷ xs) ys (suc i) j x y all at_x at_y = pairs_across xs ys i j x y (and_right (list_all (r z) (xs ++ ys)) (pairwise r (xs ++ ys)) all) at_x at_y

  pub pairs_at : (xs : List A) (i j : ℕ) (x y : A) → pairwise r xs ≡ true → i < j → slice_get xs i ≡ Some x → slice_get xs j ≡ Some y → r x y ≡ true
  pairs_at [] i j x y all lt at_x at_y = absurd cc
  pairs_at (z ∷ xs) zero zero x y all lt at_x at_y = absurd (omega (arith, lt))
  pairs_at (z ∷ xs) zero (suc j) x y all lt at_x at_y = let same : z ≡ x = cc in ap (λ (w : A). r w y) (sym same) ∙ all_at (r z) xs j y (and_left (list_all (r z) xs) (pairwise r xs) all) at_y
  pairs_at (z ∷ xs) (suc i) zero x y all lt at_x at_y = absurd (omega (arith, lt))
  pairs_at (z ∷ xs) (suc i) (suc j) x y all lt at_x at_y = pairs_at xs i j x y (and_right (list_all (r z) xs) (pairwise r xs) all) (omega (arith, lt)) at_x at_y

-- ---- the same of lists of lists

module _ {A B : Type 0} (f : B → List A) where
  pub in_flat : (bs : List B) (i n : ℕ) (b : B) (x : A) → slice_get bs i ≡ Some b → slice_get (f b) n ≡ Some x → (j : ℕ) × (slice_get (flat_map f bs) j ≡ Some x)
  in_flat [] i n b x at_b at_x = absurd cc
  in_flat (c ∷ bs) zero n b x at_b at_x = let same : c ≡ b = cc in get_left (f c) (flat_map f bs) n x (ap (λ (w : B). slice_get (f w) n) same ∙ at_x)
  in_flat (c ∷ bs) (suc i) n b x at_b at_x = let it = in_flat bs i n b x at_b at_x in get_right (f c) (flat_map f bs) it.0 x it.1

  module _ (r : A → A → Bool) where
    pub flat_part : (bs : List B) (i : ℕ) (b : B) → pairwise r (flat_map f bs) ≡ true → slice_get bs i ≡ Some b → pairwise r (f b) ≡ true
    flat_part [] i b all at = absurd cc
    flat_part (c ∷ bs) zero b all at = let same : c ≡ b = cc in subst (λ (w : B). pairwise r (f w) ≡ true) same (pairs_left r (f c) (flat_map f bs) all)
    flat_part (c ∷ bs) (suc i) b all at = flat_part bs i b (pairs_right r (f c) (flat_map f bs) all) at

    pub flat_across : (bs : List B) (i k m n : ℕ) (b d : B) (x y : A) → pairwise r (flat_map f bs) ≡ true → i < k → slice_get bs i ≡ Some b → slice_get bs k ≡ Some d → slice_get (f b) m ≡ Some x → slice_get (f d) n ≡ Some y → r x y ≡ true
    flat_across [] i k m n b d x y all lt at_b at_d at_x at_y = absurd cc
    flat_across (c ∷ bs) zero zero m n b d x y all lt at_b at_d at_x at_y = absurd (omega (arith, lt))
    flat_across (c ∷ bs) (suc i) zero m n b d x y all lt at_b at_d at_x at_y = absurd (omega (arith, lt))
    flat_across (c ∷ bs) zero (suc k) m n b d x y all lt at_b at_d at_x at_y =
        let same : c ≡ b = cc in
        let it = in_flat bs k n d y at_d at_y in
        pairs_across r (f c) (flat_map f bs) m it.0 x y all (ap (λ (w : B). slice_get (f w) m) same ∙ at_x) it.1
    flat_across (c ∷ bs) (suc i) (suc k) m n b d x y all lt at_b at_d at_x at_y = flat_across bs i k m n b d x y (pairs_right r (f c) (flat_map f bs) all) (omega (arith, lt)) at_b at_d at_x at_y
