-- Places among those that stay.
use Rattle.std.proofs.Common.{◌≡◌, ◌≢◌, ◌⊎◌, ℕ, zero, suc, ◌+◌, ◌<◌, ◌≤◌, ◌==◌, Bool, true, false, List, [], ◌∷◌, ◌++◌, length, take, refl, ap, sym, ◌∙◌, subst, ⊎_elim, inl, inr, arith, length-append, eq-eqb, ne_eqb, slice_get, slice_set, Some}
use Rattle.std.proofs.lemmas.List.{append-nil}
use Rattle.std.proofs.lemmas.Option.{slice_get-get_or, get_or_from_slice_get, slice_get_within}
use Rattle.std.specs.List.{fold, Contains}
use Rattle.std.specs.List.Sorted.{IsPermutation}
use Rattle.std.proofs.lemmas.List.Sorted.{Contains-permutation, sum_by-IsPermutation, length_permutation, IsPermutation-sym}
use Rattle.vx_model.specs.Numbers.{one_if}
use Rattle.vx_turn.specs.Acting.{LiesAmong}
use Rattle.vx_turn.proofs.Dealing.{get-snoc}
use Rattle.vx_settle.proofs.Bringings.{among-left, among-right}
use Rattle.vx_settle.proofs.ManyPeers.{some-one, get-set, set-long, set-here, set-else, get-inside}
use Rattle.vx_burst_threads.specs.declared.plan.Answered.{Answered}
use Rattle.vx_burst.specs.declared.placing.Spot.{Spot}
use Rattle.vx_burst.specs.Finishing.{unplaced}
use Rattle.vx_burst.specs.Placing.{spot_of, times_noted, NotedOnce, SpotsNoted, SpotsNumbered}

times-append : (k : ℕ) (xs ys : List Spot) → times_noted k (xs ++ ys) ≡ times_noted k xs + times_noted k ys
times-append k [] ys = omega arith
times-append k (x ∷ xs) ys = let r = times-append k xs ys in omega (arith, r)

times-none : (k : ℕ) (xs : List Spot) → ((i : ℕ) (s : Spot) → slice_get xs i ≡ Some s → s.at ≢ k) → times_noted k xs ≡ 0
times-none k [] none = refl
times-none k (x ∷ xs) none = let e : one_if (x.at == k) ≡ 0 = ap one_if (ne_eqb x.at k (none 0 x refl)) in let r = times-none k xs (λ i s at. none (suc i) s at) in omega (arith, e, r)

times-one : (k : ℕ) (xs : List Spot) (i : ℕ) (s : Spot) → slice_get xs i ≡ Some s → s.at ≡ k → 1 ≤ times_noted k xs
times-one k [] i s at is = absurd (cc at)
times-one k (x ∷ xs) zero s at is = let e : one_if (x.at == k) ≡ 1 = ap one_if (eq-eqb x.at k (ap (λ (y : Spot). y.at) (some-one at) ∙ is)) in omega (arith, e)
times-one k (x ∷ xs) (suc i) s at is = let r = times-one k xs i s at is in omega (arith, r)

times-two : (k : ℕ) (xs : List Spot) (i j : ℕ) (s t : Spot) → i < j → slice_get xs i ≡ Some s → slice_get xs j ≡ Some t → s.at ≡ k → t.at ≡ k → 2 ≤ times_noted k xs
times-two k [] i j s t lt x y a b = absurd (cc x)
times-two k (z ∷ zs) zero zero s t lt x y a b = absurd (omega (arith, lt))
times-two k (z ∷ zs) zero (suc j) s t lt x y a b = let e : one_if (z.at == k) ≡ 1 = ap one_if (eq-eqb z.at k (ap (λ (w : Spot). w.at) (some-one x) ∙ a)) in let r = times-one k zs j t y b in omega (arith, e, r)
times-two k (z ∷ zs) (suc i) zero s t lt x y a b = absurd (omega (arith, lt))
times-two k (z ∷ zs) (suc i) (suc j) s t lt x y a b = let r = times-two k zs i j s t (omega (arith, lt)) x y a b in omega (arith, r)

which : (i j : ℕ) → (i ≡ j) ⊎ ((i < j) ⊎ (j < i))
which zero zero = inl refl
which zero (suc j) = inr (inl (omega arith))
which (suc i) zero = inr (inr (omega arith))
which (suc i) (suc j) = ⊎_elim (λ (x : i ≡ j). inl (ap suc x)) (λ (x : (i < j) ⊎ (j < i)). inr (⊎_elim (λ (y : i < j). inl (omega (arith, y))) (λ (y : j < i). inr (omega (arith, y))) x)) (which i j)

-- two spots of one member are one
pub once-same : (xs : List Spot) (i j : ℕ) (s t : Spot) → NotedOnce xs → slice_get xs i ≡ Some s → slice_get xs j ≡ Some t → s.at ≡ t.at → i ≡ j
once-same xs i j s t once x y same = ⊎_elim (λ (e : i ≡ j). e) (λ (o : (i < j) ⊎ (j < i)). ⊎_elim (λ (lt : i < j). absurd (let a = times-two t.at xs i j s t lt x y same refl in let b = once t.at in omega (arith, a, b)))
    (λ (lt : j < i). absurd (let a = times-two t.at xs j i t s lt y x refl same in let b = once t.at in omega (arith, a, b))) o) (which i j)

unplaced-more : (answers : List Answered) (k : ℕ) (a : Answered) → slice_get answers k ≡ Some a → unplaced (take (suc k) answers) ≡ unplaced (take k answers) + one_if (a.place == 0)
unplaced-more [] k a at = absurd (cc at)
unplaced-more (x ∷ xs) zero a at = let e : one_if (x.place == 0) ≡ one_if (a.place == 0) = ap (λ (y : Answered). one_if (y.place == 0)) (some-one at) in omega (arith, e)
unplaced-more (x ∷ xs) (suc k) a at = let r = unplaced-more xs k a at in omega (arith, r)

spot-cases : (n at : ℕ) → ((n ≡ 0) × (spot_of n at ≡ [])) ⊎ ((0 < n) × (spot_of n at ≡ record { place = n; at = at } ∷ []))
spot-cases zero at = inl (refl, refl)
spot-cases (suc n) at = inr (omega arith, refl)

pub noted-none : (answers : List Answered) (xs : List Spot) → xs ≡ [] → SpotsNoted answers 0 xs
noted-none answers xs is = subst (SpotsNoted answers 0) (sym is) (record { each = λ i s at. absurd (cc at); cover = λ j a lt. absurd (omega (arith, lt)); once = λ k. omega arith; count = refl })

pub noted-more : (answers : List Answered) (k : ℕ) (a : Answered) (xs ys : List Spot) → slice_get answers k ≡ Some a → ys ≡ xs ++ spot_of a.place k → SpotsNoted answers k xs → SpotsNoted answers (k + 1) ys
noted-more answers k a xs ys at is n = subst (SpotsNoted answers (k + 1)) (sym is) (⊎_elim zero-case some-case (spot-cases a.place k))
  where
    next : unplaced (take (k + 1) answers) ≡ unplaced (take k answers) + one_if (a.place == 0)
    next = let e : suc k ≡ k + 1 = omega arith in subst (λ j. unplaced (take j answers) ≡ unplaced (take k answers) + one_if (a.place == 0)) e (unplaced-more answers k a at)

    split : (j : ℕ) → j < k + 1 → (j < k) ⊎ (j ≡ k)
    split j lt = ⊎_elim (λ (x : j ≡ k). inr x) (λ (x : (j < k) ⊎ (k < j)). ⊎_elim (λ (y : j < k). inl y) (λ (y : k < j). absurd (omega (arith, lt, y))) x) (which j k)

    zero-case : (a.place ≡ 0) × (spot_of a.place k ≡ []) → SpotsNoted answers (k + 1) (xs ++ spot_of a.place k)
    zero-case z = subst (λ l. SpotsNoted answers (k + 1) (xs ++ l)) (sym z.1) (subst (SpotsNoted answers (k + 1)) (sym (append-nil xs)) (record {
      each = λ i s get. let o = n.each i s get in (let d = o.0 in omega (arith, d), o.1);
      cover = λ j b lt get some. ⊎_elim (λ (x : j < k). n.cover j b x get some) (λ (x : j ≡ k). absurd (let e : b.place ≡ a.place = ap (λ (y : Answered). y.place) (some-one (sym get ∙ (ap (slice_get answers) x ∙ at))) in let f = z.0 in omega (arith, e, f, some))) (split j lt);
      once = n.once;
      count = let c = n.count in let e : one_if (a.place == 0) ≡ 1 = ap one_if (eq-eqb a.place 0 z.0) in let d = next in omega (arith, c, d, e);
    }))

    some-case : (0 < a.place) × (spot_of a.place k ≡ record { place = a.place; at = k } ∷ []) → SpotsNoted answers (k + 1) (xs ++ spot_of a.place k)
    some-case z = subst (λ l. SpotsNoted answers (k + 1) (xs ++ l)) (sym z.1) (record {
      each = λ i s get. ⊎_elim (λ (x : slice_get xs i ≡ Some s). let o = n.each i s x in (let d = o.0 in omega (arith, d), o.1))
          (λ (x : (i ≡ length xs) × (record { place = a.place; at = k } ≡ s)). subst (λ (y : Spot). (y.at < k + 1) × ((b : Answered) × (slice_get answers y.at ≡ Some b) × (y.place ≡ b.place) × (0 < b.place))) x.1 (omega arith, (a, at, refl, z.0))) (get-snoc xs spot s i get);
      cover = λ j b lt get some. ⊎_elim (λ (x : j < k). let o = n.cover j b x get some in (o.0, among-left o.0 xs (spot ∷ []) o.1, o.2)) (λ (x : j ≡ k). (spot, among-right spot xs (spot ∷ []) (0, refl), sym x)) (split j lt);
      once = λ j. ⊎_elim (λ (x : j ≡ k). let t = times-append j xs (spot ∷ []) in let u = times-none j xs (λ i s get same. let o = n.each i s get in let d = o.0 in absurd (omega (arith, d, same, x))) in let w = one-few (k == j) in omega (arith, t, u, w))
          (λ (x : (j < k) ⊎ (k < j)). let t = times-append j xs (spot ∷ []) in let u = n.once j in let w : one_if (k == j) ≡ 0 = ap one_if (ne_eqb k j (λ e. apart j x (sym e))) in omega (arith, t, u, w)) (which j k);
      count = let c = n.count in let e : one_if (a.place == 0) ≡ 0 = ap one_if (ne_eqb a.place 0 (λ y. absurd (let v = z.0 in omega (arith, v, y)))) in let d = next in let l = length-append xs (spot ∷ []) in omega (arith, c, d, e, l);
    })
      where
        spot : Spot
        spot = record { place = a.place; at = k }

        apart : (j : ℕ) → (j < k) ⊎ (k < j) → j ≡ k → ⊥
        apart j x e = ⊎_elim (λ (y : j < k). absurd (omega (arith, y, e))) (λ (y : k < j). absurd (omega (arith, y, e))) x

        one-few : (b : Bool) → one_if b ≤ 1
        one-few true = omega arith
        one-few false = omega arith

among-contains : {A : Type 0} (xs : List A) (x : A) → LiesAmong x xs → Contains xs x
among-contains xs x a = (a.0, slice_get_within xs a.0 x a.1, get_or_from_slice_get xs a.0 x x a.1)

contains-among : {A : Type 0} (xs : List A) (x : A) → Contains xs x → LiesAmong x xs
contains-among xs x c = (c.0, slice_get-get_or xs c.0 x c.1 ∙ ap Some c.2)

sum-from : (k n : ℕ) (xs : List Spot) → fold (λ (a : ℕ) (x : Spot). a + one_if (x.at == k)) n xs ≡ n + times_noted k xs
sum-from k n [] = omega arith
sum-from k n (x ∷ xs) = let r = sum-from k (n + one_if (x.at == k)) xs in omega (arith, r)

pub noted-sorted : (answers : List Answered) (k : ℕ) (xs ys : List Spot) → IsPermutation xs ys → SpotsNoted answers k xs → SpotsNoted answers k ys
noted-sorted answers k xs ys p n = record {
  each = λ i s at. let m = contains-among xs s (Contains-permutation ys xs s (IsPermutation-sym xs ys p) (among-contains ys s (i, at))) in n.each m.0 s m.1;
  cover = λ j a lt at some. let o = n.cover j a lt at some in (o.0, contains-among ys o.0 (Contains-permutation xs ys o.0 p (among-contains xs o.0 o.1)), o.2);
  once = λ j. let e = sum_by-IsPermutation (λ (s : Spot). one_if (s.at == j)) xs ys p in let o = n.once j in let a = sum-from j 0 xs in let b = sum-from j 0 ys in omega (arith, e, o, a, b);
  count = let l = length_permutation xs ys p in let c = n.count in omega (arith, l, c);
}

pub numbered-none : (spots : List Spot) (olds : List Answered) → SpotsNumbered spots 0 olds olds
numbered-none spots olds = record { long = refl; each = λ i s lt. absurd (omega (arith, lt)); same = λ k b at. (b, at, refl); else = λ k none. refl }

pub numbered-more : (spots : List Spot) (n : ℕ) (olds news : List Answered) (s : Spot) (a b : Answered) → NotedOnce spots → slice_get spots n ≡ Some s → slice_get news s.at ≡ Some a → b.place ≡ n + 1 → b.reply ≡ a.reply → SpotsNumbered spots n olds news
    → SpotsNumbered spots (n + 1) olds (slice_set news s.at b)
numbered-more spots n olds news s a b once here at place reply d = record {
  long = set-long news s.at b ∙ d.long;
  each = λ i t lt get. ⊎_elim (λ (x : i ≡ n). let same : t ≡ s = some-one (sym get ∙ (ap (slice_get spots) x ∙ here)) in (b, ap (λ (y : Spot). slice_get (slice_set news s.at b) y.at) same ∙ set-here news s.at b (get-inside news s.at a at), place ∙ ap (λ j. j + 1) (sym x)))
      (λ (x : (i < n) ⊎ (n < i)). ⊎_elim (λ (y : i < n). let o = d.each i t y get in (o.0, set-else news s.at b t.at o.0 (λ e. absurd (let z = once-same spots i n t s once get here e in omega (arith, z, y))) o.1, o.2))
      (λ (y : n < i). absurd (omega (arith, y, lt))) x) (which i n);
  same = λ k x get. ⊎_elim (λ (o : (k ≡ s.at) × (b ≡ x)). let z = d.same s.at a at in (z.0, ap (slice_get olds) o.0 ∙ z.1, ap (λ (y : Answered). y.reply) (sym o.1) ∙ (reply ∙ z.2))) (λ (o : (k ≢ s.at) × (slice_get news k ≡ Some x)). d.same k x o.1) (get-set news s.at b k x get);
  else = λ k none. get-else news s.at b k (λ e. none n s (omega arith) here (sym e)) ∙ d.else k (λ i t lt get is. none i t (omega (arith, lt)) get is);
}
  where
    get-else : (xs : List Answered) (j : ℕ) (x : Answered) (k : ℕ) → k ≢ j → slice_get (slice_set xs j x) k ≡ slice_get xs k
    get-else [] j x k far = refl
    get-else (y ∷ ys) zero x zero far = absurd (far refl)
    get-else (y ∷ ys) zero x (suc k) far = refl
    get-else (y ∷ ys) (suc j) x zero far = refl
    get-else (y ∷ ys) (suc j) x (suc k) far = get-else ys j x k (λ e. far (ap suc e))
