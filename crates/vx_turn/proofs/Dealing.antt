-- The passes that are not given out yet.
use Rattle.std.proofs.Common.{◌≡◌, ◌⊎◌, ℕ, zero, suc, ◌+◌, ◌-◌, false, List, [], ◌∷◌, ◌++◌, length, refl, ap, sym, ◌∙◌, subst, ⊎_elim, inl, inr, arith, Option, Some, None, slice_get, option_to_list, length-append}
use Rattle.std.specs.Prelude.{Result, Ok, Err, true, MatchOption, ⊤}
use Rattle.std.specs.Result.{is_ok, is_err}
use Rattle.atomic_table.specs.Seated.{TableId}
use Rattle.vx_turn.specs.declared.view.View.{View}
use Rattle.vx_turn.specs.declared.passes.Pass.{Pass}
use Rattle.vx_turn.specs.declared.meaning.State.{State}
use Rattle.vx_turn.specs.Turning.{first_view, upper}
use Rattle.vx_turn.specs.Resting.{only}
use Rattle.std.proofs.lemmas.List.{append-nil}
use Rattle.vx_turn.specs.declared.passes.Passes.{Passes}
use Rattle.vx_turn.specs.Passing.{IsNewPass, PassesLeft, Pops}

pub get-snoc : {A : Type 0} (l : List A) (a b : A) (k : ℕ) → slice_get (l ++ a ∷ []) k ≡ Some b → (slice_get l k ≡ Some b) ⊎ ((k ≡ length l) × (a ≡ b))
get-snoc [] a b zero e = inr (refl, cc)
get-snoc [] a b (suc k) e = absurd cc
get-snoc (x ∷ xs) a b zero e = inl e
get-snoc (x ∷ xs) a b (suc k) e = ⊎_elim (λ (h : slice_get xs k ≡ Some b). inl h) (λ (h : (k ≡ length xs) × (a ≡ b)). inr (ap suc h.0, h.1)) (get-snoc xs a b k e)

pub get-longer : {A : Type 0} (l m : List A) (k : ℕ) (b : A) → slice_get l k ≡ Some b → slice_get (l ++ m) k ≡ Some b
get-longer [] m k b e = absurd cc
get-longer (x ∷ xs) m zero b e = e
get-longer (x ∷ xs) m (suc k) b e = get-longer xs m k b e

pub get-last : {A : Type 0} (l : List A) (a : A) → slice_get (l ++ a ∷ []) (length l) ≡ Some a
get-last [] a = refl
get-last (x ∷ xs) a = get-last xs a

pops_from : (new : List Pass) (given : Option Pass) → MatchOption given (length new ≡ 0) (λ _. ⊤) → (old left : Passes) → left.left.items ≡ new → old.left.items ≡ new ++ option_to_list given → Pops old given left
pops_from new None none old left now is z start callers n d = let all : old.left.items ≡ new = is ∙ append-nil new in
    let zero : length left.left.items ≡ 0 = ap (λ l. length l) now ∙ none in
    ((let k = d.1 in let l : length old.left.items ≡ length new = ap (λ l. length l) all in omega (arith, k, l, none)), (subst (PassesLeft z start callers) (all ∙ sym now) d.0, zero))
pops_from new (Some p) none old left now is z start callers n d =
    let l : length old.left.items ≡ length (new ++ p ∷ []) = ap (λ l. length l) is in let k = length-append new (p ∷ []) in let m : length left.left.items ≡ length new = ap (λ l. length l) now in
    let all : PassesLeft z start callers (new ++ p ∷ []) = subst (PassesLeft z start callers) is d.0 in
    let at : suc (length new) ≡ n = (let x = d.1 in omega (arith, l, k, x)) in (
      (omega (arith, at)),
      subst (λ x. IsNewPass z start callers (callers - x) p) at (all (length new) p (get-last new p)).1,
      (subst (PassesLeft z start callers) (sym now) (λ q r e. all q r (get-longer new (p ∷ []) q r e)), omega (arith, m, at)),
    )

module _ (z : TableId) (start : State) (callers : ℕ) where
  pub none_left : PassesLeft z start callers []
  none_left k p e = absurd cc

  pub one_more : (left : List Pass) (number : ℕ) (p : Pass) → length left + suc number ≡ callers → IsNewPass z start callers number p → PassesLeft z start callers left → PassesLeft z start callers (left ++ p ∷ [])
  one_more left number p at new old k q e = ⊎_elim (λ (h : slice_get left k ≡ Some q). old k q h)
      (λ (h : (k ≡ length left) × (p ≡ q)). let n : number ≡ callers - suc k = omega (arith, h.0, at) in (omega (arith, h.0, at), subst (λ (x : ℕ × Pass). IsNewPass z start callers x.0 x.1) (λ i. (n i, h.1 i)) new))
      (get-snoc left p q k e)

  -- the pass that the first view's upper part gives
  pub dealt : (number n : ℕ) (v w : View) (p : Pass) → v ≡ record (first_view callers start) { high = n } → p.number ≡ number → p.badge.table_id ≡ z → w ≡ upper v → p.badge.views ≡ w ∷ [] → IsNewPass z start callers number p
  dealt number n v w p root is table new views = let u : only p.badge.views ≡ upper (record (first_view callers start) { high = n }) = ap only views ∙ (new ∙ ap upper root) in record {
    number_is = is;
    table = table;
    unseen = ap (λ (x : View). x.seen) u;
    none_made = ap (λ (x : View). x.mine) u;
    none_met = ap (λ (x : View). x.met) u;
    start_is = ap (λ (x : View). x.start) u;
    callers_is = ap (λ (x : View). x.callers) u;
  }

pub ok_of : {A B : Type 0} (r : Result A B) → is_err r ≡ false → is_ok r ≡ true
ok_of (Ok a) e = refl
ok_of (Err b) e = absurd cc

pub pops : (old : Passes) (new : List Pass) (given : Option Pass) → MatchOption given ((old.left.items ≡ []) × (new ≡ [])) (λ _. length old.left.items ≡ length new + 1) → old.left.items ≡ new ++ option_to_list given
    → (left : Passes) → left.left.items ≡ new → Pops old given left
pops old new None cases is left now = pops_from new None (ap (λ l. length l) cases.1) old left now is
pops old new (Some p) cases is left now = pops_from new (Some p) tt old left now is
