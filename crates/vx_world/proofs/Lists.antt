-- First parts of lists of writes, and what holds of each item of a list.
use Rattle.std.proofs.Common.{◌≡◌, ℕ, zero, suc, ◌+◌, List, [], ◌∷◌, ◌++◌, length, take, drop, refl, ap, sym, ◌∙◌, subst, append_assoc, arith, Bool, true, false}
use Rattle.std.proofs.lemmas.List.{append-nil}
use Rattle.std.specs.Prelude.{slice_get, Some, pred, ◌||◌}
use Rattle.std.specs.List.{AllByRecursion}
use Rattle.vx_model.specs.Content.{Write, IsPrefixOf, IsNumber}
use Rattle.vx_model.proofs.Lists.{found_more}
pub use Rattle.vx_history.proofs.Each.{each_append, each_weaker, prefix_length}

pub prefix_refl : (xs : List Write) → IsPrefixOf xs xs
unfolding IsPrefixOf
prefix_refl xs = ([], append-nil xs)

pub prefix_more : (xs ys : List Write) → IsPrefixOf xs (xs ++ ys)
unfolding IsPrefixOf
prefix_more xs ys = (ys, refl)

pub prefix_none : (xs : List Write) → IsPrefixOf [] xs
unfolding IsPrefixOf
prefix_none xs = (xs, refl)

pub prefix_trans : (xs ys zs : List Write) → IsPrefixOf xs ys → IsPrefixOf ys zs → IsPrefixOf xs zs
unfolding IsPrefixOf
prefix_trans xs ys zs (r, e) (s, f) = (r ++ s, sym (append_assoc xs r s) ∙ ap (λ t. t ++ s) e ∙ f)

pub prefix_take : (n : ℕ) (xs : List Write) → IsPrefixOf (take n xs) xs
unfolding IsPrefixOf
prefix_take n xs = (drop n xs, take_drop n xs)
  where
    take_drop : (n : ℕ) (xs : List Write) → take n xs ++ drop n xs ≡ xs
    take_drop zero xs = refl
    take_drop (suc n) [] = refl
    take_drop (suc n) (x ∷ xs) = ap (λ t. x ∷ t) (take_drop n xs)

pub prefix_get : (xs ys : List Write) (k : ℕ) (x : Write) → IsPrefixOf xs ys → slice_get xs k ≡ Some x → slice_get ys k ≡ Some x
unfolding IsPrefixOf
prefix_get xs ys k x (r, e) h = subst (λ t. slice_get t k ≡ Some x) e (found_more xs r k x h)

pub prefix_number : (xs ys : List Write) (n : ℕ) (x : Write) → IsPrefixOf xs ys → IsNumber xs n x → IsNumber ys n x
prefix_number xs ys n x p (h, e) = (h, prefix_get xs ys (pred n) x p e)

at_end : (xs rest : List Write) → slice_get (xs ++ rest) (length xs) ≡ slice_get rest zero
at_end [] rest = refl
at_end (y ∷ xs) rest = at_end xs rest

extend_by : (xs ys rest : List Write) (x : Write) → xs ++ rest ≡ ys → slice_get rest zero ≡ Some x → IsPrefixOf (xs ++ x ∷ []) ys
unfolding IsPrefixOf
extend_by xs ys [] x e h = absurd (cc)
extend_by xs ys (y ∷ rest) x e h = let f : y ≡ x = cc in (rest, append_assoc xs (x ∷ []) rest ∙ ap (λ t. xs ++ t ∷ rest) (sym f) ∙ e)

-- a receiver's log that takes the next number of its line is still a first part of the line
pub prefix_next : (xs ys : List Write) (n : ℕ) (x : Write) → IsPrefixOf xs ys → IsNumber ys n x → n ≡ length xs + 1 → IsPrefixOf (xs ++ x ∷ []) ys
unfolding IsPrefixOf
prefix_next xs ys n x (r, e) (h, g) f =
    let p : pred n ≡ length xs = omega arith in
    let a : slice_get (xs ++ r) (length xs) ≡ Some x = ap (λ t. slice_get t (length xs)) e ∙ ap (λ k. slice_get ys k) (sym p) ∙ g in
    extend_by xs ys r x e (sym (at_end xs r) ∙ a)

pub drop_get : (n : ℕ) (xs : List Write) (k : ℕ) → slice_get (drop n xs) k ≡ slice_get xs (n + k)
drop_get zero xs k = ap (λ m. slice_get xs m) (omega arith)
drop_get (suc n) [] k = refl
drop_get (suc n) (x ∷ xs) k = drop_get n xs k ∙ ap (λ m. slice_get (x ∷ xs) m) (let e : suc (n + k) ≡ suc n + k = omega arith in e)

pub or_left : (a b : Bool) → (a || b) ≡ false → a ≡ false
or_left true b h = h
or_left false b h = refl

pub or_right : (a b : Bool) → (a || b) ≡ false → b ≡ false
or_right true b h = absurd (cc)
or_right false b h = h

pub not_both : {P : Type 0} (b : Bool) → b ≡ true → b ≡ false → P
not_both b h k = absurd (let e : true ≡ false = sym h ∙ k in cc)

-- an item that is found is one of them
pub each_found : {A : Type 0} (P : A → Type 0) (xs : List A) (k : ℕ) (x : A) → slice_get xs k ≡ Some x → AllByRecursion P xs → P x
each_found P [] k x e h = absurd (cc)
each_found P (y ∷ xs) zero x e (h, t) = let f : y ≡ x = cc in subst P f h
each_found P (y ∷ xs) (suc k) x e (h, t) = each_found P xs k x e t
