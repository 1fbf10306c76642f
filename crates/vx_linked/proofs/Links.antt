-- The links of a site in the order of their making, as one of them changes.
use Rattle.std.proofs.Common.{◌≡◌, ◌∙◌, inl, inr, ◌+◌, ℕ, suc, List, [], ◌∷◌, Bool, true, false, ap, sym, subst, refl, arith}
use Rattle.std.specs.Prelude.{◌==◌, not, cond, slice_set}
use Rattle.std.specs.List.{position_or_len}
use Rattle.std.proofs.lemmas.Bool.Decides.{nat_tests}
use Rattle.vx_model.proofs.Tests.{by_bool}
use Rattle.vx_history.specs.World.{Node, Link, updated}
use Rattle.vx_history.proofs.Updates.{at_place}
use Rattle.vx_order.specs.declared.facts.LinkFacts.{LinkFacts}
use Rattle.vx_events.specs.LinkedFacts.{link_fact, link_facts}
use Rattle.vx_history.specs.Listed.{IsAmong}
use Rattle.vx_effects.proofs.Fitting.{updated_other}
use Rattle.vx_effects.proofs.Rows.{AreApart}
use Rattle.vx_linked.specs.Tables.{leads_to}

-- ---- the facts of the links with those of one of them in its place

same_number : (s t : ℕ) → (s == t) ≡ true → s ≡ t
same_number s t e = grind (arith, nat_tests)

other_number : (s t : ℕ) → (s == t) ≡ false → t ≡ s → ⊥
other_number s t e is = grind (arith, nat_tests)

others_same : (n : Node) (row : ℕ → Link) (s : ℕ) (l : Link) (ss : List ℕ) → (IsAmong s ss → ⊥) → link_facts n (updated row s l) ss ≡ link_facts n row ss
others_same n row s l [] never = refl
others_same n row s l (t ∷ ts) never =
    ap (λ (x : Link). link_fact n t x ∷ link_facts n (updated row s l) ts) (updated_other row s t l (λ e. never (inl (sym e))))
    ∙ ap (λ (fs : List LinkFacts). link_fact n t (row t) ∷ fs) (others_same n row s l ts (λ more. never (inr more)))

place_here : {A : Type 0} (p : A → Bool) (x : A) (xs : List A) → p x ≡ true → position_or_len p (x ∷ xs) ≡ 0
place_here p x xs e = ap (λ (b : Bool). cond (not b) (1 + position_or_len p xs) 0) e

place_later : {A : Type 0} (p : A → Bool) (x : A) (xs : List A) → p x ≡ false → position_or_len p (x ∷ xs) ≡ suc (position_or_len p xs)
place_later p x xs e = let more : 1 + position_or_len p xs ≡ suc (position_or_len p xs) = omega arith in ap (λ (b : Bool). cond (not b) (1 + position_or_len p xs) 0) e ∙ more

-- the facts of one link and those of the others, where they stand before and behind
set_here : (n : Node) (row : ℕ → Link) (s : ℕ) (l : Link) (t : ℕ) (ts : List ℕ) → (IsAmong t ts → ⊥) → (t == s) ≡ true
    → link_facts n (updated row s l) (t ∷ ts) ≡ slice_set (link_facts n row (t ∷ ts)) (position_or_len (leads_to s) (link_facts n row (t ∷ ts))) (link_fact n s l)
set_here n row s l t ts never is =
    let fs : List LinkFacts = link_facts n row ts in
    let same : t ≡ s = same_number t s is in
    let first : link_fact n t (updated row s l t) ≡ link_fact n s l = ap (λ (j : ℕ). link_fact n j (updated row s l j)) same ∙ ap (link_fact n s) (at_place row s l) in
    let rest : link_facts n (updated row s l) ts ≡ fs = others_same n row s l ts (subst (λ (j : ℕ). IsAmong j ts → ⊥) same never) in
    ap (λ (f : LinkFacts). f ∷ link_facts n (updated row s l) ts) first
    ∙ ap (λ (gs : List LinkFacts). link_fact n s l ∷ gs) rest
    ∙ ap (λ (k : ℕ). slice_set (link_fact n t (row t) ∷ fs) k (link_fact n s l)) (sym (place_here (leads_to s) (link_fact n t (row t)) fs is))

set_later : (n : Node) (row : ℕ → Link) (s : ℕ) (l : Link) (t : ℕ) (ts : List ℕ) → (t == s) ≡ false
    → link_facts n (updated row s l) ts ≡ slice_set (link_facts n row ts) (position_or_len (leads_to s) (link_facts n row ts)) (link_fact n s l)
    → link_facts n (updated row s l) (t ∷ ts) ≡ slice_set (link_facts n row (t ∷ ts)) (position_or_len (leads_to s) (link_facts n row (t ∷ ts))) (link_fact n s l)
set_later n row s l t ts is rest =
    let fs : List LinkFacts = link_facts n row ts in
    ap (λ (x : Link). link_fact n t x ∷ link_facts n (updated row s l) ts) (updated_other row s t l (λ e. other_number t s is (sym e)))
    ∙ ap (λ (gs : List LinkFacts). link_fact n t (row t) ∷ gs) rest
    ∙ ap (λ (k : ℕ). slice_set (link_fact n t (row t) ∷ fs) k (link_fact n s l)) (sym (place_later (leads_to s) (link_fact n t (row t)) fs is))

pub link_facts_set : (n : Node) (row : ℕ → Link) (s : ℕ) (l : Link) (ss : List ℕ) → AreApart ss
    → link_facts n (updated row s l) ss ≡ slice_set (link_facts n row ss) (position_or_len (leads_to s) (link_facts n row ss)) (link_fact n s l)
link_facts_set n row s l [] all = refl
link_facts_set n row s l (t ∷ ts) all = by_bool (t == s) (set_here n row s l t ts all.0) (λ is. set_later n row s l t ts is (link_facts_set n row s l ts all.1))
