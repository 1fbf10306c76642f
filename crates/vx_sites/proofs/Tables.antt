-- Lists that are seen as functions of a place.
use Rattle.std.proofs.Common.{◌≡◌, ◌≢◌, ℕ, zero, suc, ◌+◌, ◌<◌, ◌≤◌, Bool, true, false, List, [], ◌∷◌, ◌++◌, length, get_or, map, replicate, append_assoc, refl, sym, ap, ◌∙◌, arith}
use Rattle.std.specs.Prelude.{eqb, ltb, if◌then◌else◌}
use Rattle.std.proofs.lemmas.Bool.Decides.{nat_tests}
use Rattle.std.proofs.lemmas.List.{get_or-set_same, get_or-set_other, map-set, length-map, map-append, replicate-append-replicate}
use Rattle.std.proofs.Math.ListN.{set}
use Rattle.std.proofs.Math.Path.{fun_ext}
use Rattle.vx_history.specs.World.{updated}
use Rattle.vx_history.proofs.Updates.{by_test, eqb_equal, eqb_apart}

-- the list as a function
abbrev pub seen : {A B : Type 0} → (A → B) → B → List A → ℕ → B
seen f d xs i = get_or (map f xs) i d

pub seen-at : {A B : Type 0} (f : A → B) (d : B) (xs : List A) (i : ℕ) (v : A) → i < length xs → v ≡ get_or xs i v → seen f d xs i ≡ f v
seen-at f d (x ∷ xs) zero v h e = ap f (sym e)
seen-at f d (x ∷ xs) (suc i) v h e = seen-at f d xs i v (omega arith) e
seen-at f d [] i v h e = absurd (omega arith)

-- beyond the end stands the value of before the first
pub seen-beyond : {A B : Type 0} (f : A → B) (d : B) (xs : List A) (i : ℕ) → length xs ≤ i → seen f d xs i ≡ d
seen-beyond f d [] i h = refl
seen-beyond f d (x ∷ xs) zero h = absurd (omega arith)
seen-beyond f d (x ∷ xs) (suc i) h = seen-beyond f d xs i (omega arith)

-- the equation at one place of two functions, by whether it is the place that was set
pub at_each : {A : Type 0} (f : ℕ → A) (i : ℕ) (x : A) (g : ℕ → A) → g i ≡ x → ((k : ℕ) → k ≢ i → g k ≡ f k) → g ≡ updated f i x
at_each {A} f i x g here rest =
    fun_ext (λ k. by_test (λ (y : A). g k ≡ y) (eqb k i) x (f k) (λ e. ap g (eqb_equal k i e) ∙ here) (λ e. rest k (eqb_apart k i e)))

pub seen-set : {A B : Type 0} (f : A → B) (d : B) (xs : List A) (i : ℕ) (x : A) → i < length xs → seen f d (set xs i x) ≡ updated (seen f d xs) i (f x)
seen-set f d xs i x h =
    at_each (seen f d xs) i (f x) (seen f d (set xs i x))
    (let long : i < length (map f xs) = omega (arith, length-map xs f) in rw (map-set f xs i x) (get_or-set_same (map f xs) i (f x) d long))
    (λ k apart. rw (map-set f xs i x) (get_or-set_other (map f xs) i k (f x) d apart))

-- one more at the end
pub seen-push : {A B : Type 0} (f : A → B) (d : B) (xs : List A) (x : A) → seen f d (xs ++ x ∷ []) ≡ updated (seen f d xs) (length xs) (f x)
seen-push f d xs x =
    at_each (seen f d xs) (length xs) (f x) (seen f d (xs ++ x ∷ []))
    (at_end xs)
    (λ k apart. elsewhere xs k apart)
  where
    at_end : (ys : List _) → seen f d (ys ++ x ∷ []) (length ys) ≡ f x
    at_end [] = refl
    at_end (y ∷ ys) = at_end ys

    elsewhere : (ys : List _) (k : ℕ) → k ≢ length ys → seen f d (ys ++ x ∷ []) k ≡ seen f d ys k
    elsewhere [] zero apart = absurd (apart refl)
    elsewhere [] (suc k) apart = refl
    elsewhere (y ∷ ys) zero apart = refl
    elsewhere (y ∷ ys) (suc k) apart = elsewhere ys k (λ e. apart (ap suc e))

-- what stands at a place set there again changes nothing
pub updated-same : {A : Type 0} (f : ℕ → A) (i : ℕ) (x : A) → f i ≡ x → updated f i x ≡ f
updated-same f i x h = sym (at_each f i x f h (λ k apart. refl))

-- one more at the end that is as beyond it
pub seen-longer : {A B : Type 0} (f : A → B) (d : B) (xs : List A) (x : A) → f x ≡ d → seen f d (xs ++ x ∷ []) ≡ seen f d xs
seen-longer f d xs x h =
    seen-push f d xs x ∙ updated-same (seen f d xs) (length xs) (f x) (seen-beyond f d xs (length xs) (omega arith) ∙ sym h)

-- one more of the same
pub one-more : {A B : Type 0} (f : A → B) (old : List B) (now : List A) (x : A) (k : ℕ) → map f now ≡ old ++ f x ∷ replicate k (f x) → map f (now ++ x ∷ []) ≡ old ++ f x ∷ replicate (k + 1) (f x)
one-more {A} {B} f old now x k h =
    map-append f now (x ∷ [])
    ∙ ap (λ (ys : List B). ys ++ f x ∷ []) h
    ∙ append_assoc old (f x ∷ replicate k (f x)) (f x ∷ [])
    ∙ ap (λ (ys : List B). old ++ f x ∷ ys) (replicate-append-replicate k 1 (f x))

-- what stands at one place changes
pub seen-changed : {A B : Type 0} (f : A → B) (d : B) (xs : List A) (i : ℕ) (v x : A) (old : ℕ → B) (change : B → B) → i < length xs → v ≡ get_or xs i v
    → seen f d xs ≡ old → f x ≡ change (f v) → seen f d (set xs i x) ≡ updated old i (change (old i))
seen-changed {A} {B} f d xs i v x old change lt is same changed =
    let was : old i ≡ f v = ap (λ (g : ℕ → B). g i) (sym same) ∙ seen-at f d xs i v lt is in
    seen-set f d xs i x lt
    ∙ ap (λ (g : ℕ → B). updated g i (f x)) same
    ∙ ap (λ (y : B). updated old i y) (changed ∙ ap change (sym was))

-- a function that is changed at the places below a number, by the place and what stands there
abbrev pub changed_below : {A : Type 0} → (ℕ → A → A) → ℕ → (ℕ → A) → ℕ → A
changed_below g n f k = if ltb k n then g k (f k) else f k

pub changed-none : {A : Type 0} (g : ℕ → A → A) (f : ℕ → A) → f ≡ changed_below g 0 f
changed-none {A} g f = fun_ext (λ k. let past : ltb k 0 ≡ false = grind (arith, nat_tests) in sym (ap (λ (b : Bool). if b then g k (f k) else f k) past))

changed_at : {A : Type 0} (g : ℕ → A → A) (i : ℕ) (f : ℕ → A) (k : ℕ) (b : Bool) → eqb k i ≡ b
    → (if b then g i (changed_below g i f i) else changed_below g i f k) ≡ changed_below g (i + 1) f k
changed_at {A} g i f k true e =
    let is : k ≡ i = eqb_equal k i e in
    let past : ltb i i ≡ false = grind (arith, nat_tests) in
    let below : ltb i (i + 1) ≡ true = grind (arith, nat_tests) in
    ap (λ (c : Bool). g i (if c then g i (f i) else f i)) past
    ∙ sym (ap (λ (c : Bool). if c then g i (f i) else f i) below)
    ∙ ap (λ (j : ℕ). changed_below g (i + 1) f j) (sym is)
changed_at {A} g i f k false e =
    let apart : k ≢ i = eqb_apart k i e in
    let same : ltb k i ≡ ltb k (i + 1) = same_test k i apart in
    ap (λ (c : Bool). if c then g k (f k) else f k) same
  where
    same_test : (m n : ℕ) → m ≢ n → ltb m n ≡ ltb m (n + 1)
    same_test m n apart = grind (arith, nat_tests)

-- one more place
pub changed-more : {A : Type 0} (g : ℕ → A → A) (i : ℕ) (f h : ℕ → A) → h ≡ changed_below g i f → updated h i (g i (h i)) ≡ changed_below g (i + 1) f
changed-more {A} g i f h is =
    ap (λ (x : ℕ → A). updated x i (g i (x i))) is ∙ fun_ext (λ k. changed_at g i f k (eqb k i) refl)

-- all places, where beyond the end of the list nothing changes
pub changed-all : {A B : Type 0} (g : ℕ → B → B) (f : A → B) (d : B) (xs : List A) → ((k : ℕ) → g k d ≡ d) → changed_below g (length xs) (seen f d xs) ≡ (λ k. g k (seen f d xs k))
changed-all {A} {B} g f d xs same = fun_ext (λ k. by_test (λ (y : B). y ≡ g k (seen f d xs k)) (ltb k (length xs)) (g k (seen f d xs k)) (seen f d xs k) (λ e. refl) (λ e. beyond k e))
  where
    beyond : (k : ℕ) → ltb k (length xs) ≡ false → seen f d xs k ≡ g k (seen f d xs k)
    beyond k e =
        let past : length xs ≤ k = grind (arith, nat_tests) in
        let is : seen f d xs k ≡ d = seen-beyond f d xs k past in
        is ∙ sym (same k) ∙ ap (λ (y : B). g k y) (sym is)
