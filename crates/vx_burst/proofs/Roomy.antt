-- The memory of a burst.
use Rattle.std.proofs.Common.{◌≡◌, ℕ, zero, suc, ◌+◌, ◌-◌, ◌≤◌, ◌==◌, Bool, true, false, List, [], ◌∷◌, ◌++◌, length, take, cond, refl, ap, sym, ◌∙◌, subst, ⊎_elim, arith, slice_get, Some, vec_capacity}
use Rattle.vx_model.specs.Numbers.{one_if}
use Rattle.vx_turn.proofs.Dealing.{get-snoc}
use Rattle.vx_settle.proofs.ManyPeers.{some-one}
use Rattle.vx_burst_threads.specs.declared.plan.Planned.{Planned}
use Rattle.vx_burst_threads.specs.declared.plan.Answered.{Answered}
use Rattle.vx_burst_threads.specs.Planning.{own_count}
use Rattle.vx_burst.specs.declared.rooms.Space.{Space}
use Rattle.vx_burst.specs.Setting.{AreBlank, AreThreadRooms}

pub blank-none : (xs : List Answered) → xs ≡ [] → AreBlank xs
blank-none xs is k a at = absurd (cc (subst (λ l. slice_get l k ≡ Some a) is at))

pub blank-more : (xs ys : List Answered) (a : Answered) → ys ≡ xs ++ a ∷ [] → a.place ≡ 0 → AreBlank xs → AreBlank ys
blank-more xs ys a is none b k x at = ⊎_elim (λ (o : slice_get xs k ≡ Some x). b k x o) (λ (o : (k ≡ length xs) × (a ≡ x)). ap (λ (y : Answered). y.place) (sym o.1) ∙ none) (get-snoc xs a x k (subst (λ l. slice_get l k ≡ Some x) is at))

pub spaces-none : (plan : List Planned) (threads : ℕ) (xs : List Space) → xs ≡ [] → AreThreadRooms plan threads xs
spaces-none plan threads xs is i r at = absurd (cc (subst (λ l. slice_get l i ≡ Some r) is at))

pub spaces-more : (plan : List Planned) (threads thread : ℕ) (xs ys : List Space) (r : Space) → ys ≡ xs ++ r ∷ [] → r.made.items ≡ [] → own_count thread plan ≤ vec_capacity r.made → length xs + thread ≡ threads → AreThreadRooms plan threads xs → AreThreadRooms plan threads ys
spaces-more plan threads thread xs ys r is none room sum b i x at = ⊎_elim (λ (o : slice_get xs i ≡ Some x). b i x o)
    (λ (o : (i ≡ length xs) × (r ≡ x)). let t : thread ≡ threads - i = (let n = o.0 in omega (arith, sum, n)) in
    subst (λ (y : ℕ × Space). (y.1.made.items ≡ []) × (own_count y.0 plan ≤ vec_capacity y.1.made)) (λ k. (t k, o.1 k)) (none, room)) (get-snoc xs r x i (subst (λ l. slice_get l i ≡ Some x) is at))

-- one member more
pub own-step : (thread : ℕ) (plan : List Planned) (k : ℕ) (pl : Planned) → slice_get plan k ≡ Some pl → own_count thread (take (suc k) plan) ≡ own_count thread (take k plan) + one_if (pl.thread == thread)
own-step thread [] k pl at = absurd (cc at)
own-step thread (x ∷ xs) zero pl at = branch (x.thread == thread) ∙ ap (λ (q : Planned). 0 + one_if (q.thread == thread)) (some-one at)
  where
    branch : (b : Bool) → cond b (1 + 0) 0 ≡ 0 + one_if b
    branch true = refl
    branch false = refl
own-step thread (x ∷ xs) (suc k) pl at = branch (x.thread == thread) (own-step thread xs k pl at)
  where
    branch : (b : Bool) → own_count thread (take (suc k) xs) ≡ own_count thread (take k xs) + one_if (pl.thread == thread)
        → cond b (1 + own_count thread (take (suc k) xs)) (own_count thread (take (suc k) xs)) ≡ cond b (1 + own_count thread (take k xs)) (own_count thread (take k xs)) + one_if (pl.thread == thread)
    branch true e = omega (arith, e)
    branch false e = e

pub own-next : (thread : ℕ) (plan : List Planned) (k n m : ℕ) (pl : Planned) → slice_get plan k ≡ Some pl → m ≡ one_if (pl.thread == thread) → n ≡ own_count thread (take k plan) → n + m ≡ own_count thread (take (k + 1) plan)
own-next thread plan k n m pl at is e = let u : suc k ≡ k + 1 = omega arith in let t = own-step thread plan k pl at in subst (λ j. n + m ≡ own_count thread (take j plan)) u (omega (arith, t, is, e))

pub one-few : (b : Bool) → one_if b ≤ 1
one-few true = omega arith
one-few false = omega arith

pub own-all : (thread : ℕ) (plan : List Planned) (k : ℕ) → k ≡ length plan → own_count thread (take k plan) ≡ own_count thread plan
own-all thread plan k is = subst (λ n. own_count thread (take n plan) ≡ own_count thread plan) (sym is) (ap (own_count thread) (whole plan))
  where
    whole : (xs : List Planned) → take (length xs) xs ≡ xs
    whole [] = refl
    whole (x ∷ xs) = ap (λ l. x ∷ l) (whole xs)
