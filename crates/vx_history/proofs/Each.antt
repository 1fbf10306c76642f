-- What holds of each write of a list, of its first part and of what follows; and first parts of lists.
use Rattle.std.proofs.Common.{◌≡◌, ◌∙◌, ℕ, zero, suc, ◌≤◌, List, [], ◌∷◌, ◌++◌, length, take, drop, refl, ap, sym, subst, arith, length-append}
use Rattle.std.specs.List.{AllByRecursion}
use Rattle.std.proofs.lemmas.List.{take-append-le}
use Rattle.vx_model.specs.Content.{Write, IsPrefixOf}

pub each_append : {A : Type 0} (P : A → Type 0) (xs ys : List A) → AllByRecursion P xs → AllByRecursion P ys → AllByRecursion P (xs ++ ys)
each_append P [] ys h k = k
each_append P (x ∷ xs) ys (h, t) k = (h, each_append P xs ys t k)

pub each_front : {A : Type 0} (P : A → Type 0) (xs ys : List A) → AllByRecursion P (xs ++ ys) → AllByRecursion P xs
each_front P [] ys h = tt
each_front P (x ∷ xs) ys (h, t) = (h, each_front P xs ys t)

pub each_weaker : {A : Type 0} (P Q : A → Type 0) → ((x : A) → P x → Q x) → (xs : List A) → AllByRecursion P xs → AllByRecursion Q xs
each_weaker P Q f [] h = tt
each_weaker P Q f (x ∷ xs) (h, t) = (f x h, each_weaker P Q f xs t)

pub each_drop : {A : Type 0} (P : A → Type 0) (n : ℕ) (xs : List A) → AllByRecursion P xs → AllByRecursion P (drop n xs)
each_drop P zero xs h = h
each_drop P (suc n) [] h = tt
each_drop P (suc n) (x ∷ xs) (h, t) = each_drop P n xs t

pub each_drop_more : {A : Type 0} (P : A → Type 0) (n m : ℕ) (xs : List A) → n ≤ m → AllByRecursion P (drop n xs) → AllByRecursion P (drop m xs)
each_drop_more P zero m xs h k = each_drop P m xs k
each_drop_more P (suc n) zero xs h k = absurd (omega arith)
each_drop_more P (suc n) (suc m) [] h k = tt
each_drop_more P (suc n) (suc m) (x ∷ xs) h k = each_drop_more P n m xs (omega arith) k

pub each_drop_append : {A : Type 0} (P : A → Type 0) (n : ℕ) (xs ys : List A) → AllByRecursion P (drop n xs) → AllByRecursion P ys → AllByRecursion P (drop n (xs ++ ys))
each_drop_append P zero xs ys h k = each_append P xs ys h k
each_drop_append P (suc n) [] ys h k = each_drop P (suc n) ys k
each_drop_append P (suc n) (x ∷ xs) ys h k = each_drop_append P n xs ys h k

pub each_drop_front : {A : Type 0} (P : A → Type 0) (n : ℕ) (xs ys : List A) → AllByRecursion P (drop n (xs ++ ys)) → AllByRecursion P (drop n xs)
each_drop_front P zero xs ys h = each_front P xs ys h
each_drop_front P (suc n) [] ys h = tt
each_drop_front P (suc n) (x ∷ xs) ys h = each_drop_front P n xs ys h

pub each_take : {A : Type 0} (P : A → Type 0) (m : ℕ) (xs : List A) → AllByRecursion P xs → AllByRecursion P (take m xs)
each_take P zero xs h = tt
each_take P (suc m) [] h = tt
each_take P (suc m) (x ∷ xs) (h, t) = (h, each_take P m xs t)

pub each_drop_take : {A : Type 0} (P : A → Type 0) (n m : ℕ) (xs : List A) → AllByRecursion P (drop n xs) → AllByRecursion P (drop n (take m xs))
each_drop_take P zero m xs h = each_take P m xs h
each_drop_take P (suc n) zero xs h = tt
each_drop_take P (suc n) (suc m) [] h = tt
each_drop_take P (suc n) (suc m) (x ∷ xs) h = each_drop_take P n m xs h

pub drop_none : {A : Type 0} (P : A → Type 0) (n : ℕ) (xs : List A) → length xs ≤ n → AllByRecursion P (drop n xs)
drop_none P zero [] h = tt
drop_none P zero (x ∷ xs) h = absurd (omega arith)
drop_none P (suc n) [] h = tt
drop_none P (suc n) (x ∷ xs) h = drop_none P n xs (omega arith)

-- ---- first parts

pub prefix_length : (xs ys : List Write) → IsPrefixOf xs ys → length xs ≤ length ys
unfolding IsPrefixOf
prefix_length xs ys (r, e) = omega (arith, ap length e, length-append xs r)

pub prefix_front : (xs ys : List Write) (k : ℕ) → IsPrefixOf xs ys → k ≤ length xs → take k xs ≡ take k ys
unfolding IsPrefixOf
prefix_front xs ys k (r, e) le = sym (take-append-le k xs r le) ∙ ap (take k) e

pub prefix_each : (P : Write → Type 0) (n : ℕ) (xs ys : List Write) → IsPrefixOf xs ys → AllByRecursion P (drop n ys) → AllByRecursion P (drop n xs)
unfolding IsPrefixOf
prefix_each P n xs ys (r, e) c = each_drop_front P n xs r (subst (λ (zs : List Write). AllByRecursion P (drop n zs)) (sym e) c)

pub drop_whole : (xs ys : List Write) → drop (length xs) (xs ++ ys) ≡ ys
drop_whole [] ys = refl
drop_whole (x ∷ xs) ys = drop_whole xs ys

pub drop_front : (n : ℕ) (xs ys : List Write) → n ≤ length xs → drop n (xs ++ ys) ≡ drop n xs ++ ys
drop_front zero xs ys le = refl
drop_front (suc n) [] ys le = absurd (omega arith)
drop_front (suc n) (x ∷ xs) ys le = drop_front n xs ys (omega arith)
