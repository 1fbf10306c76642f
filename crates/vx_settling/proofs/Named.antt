-- The names of sites stay, and of a packet between two sites it is known which way it goes.
use Rattle.std.proofs.Common.{arith, ltb, [], ◌∷◌, ◌≡◌, ◌∙◌, ◌⊎◌, inl, inr, ◌+◌, ℕ, zero, suc, List, Bool, true, false, cond, refl, ap, sym, subst, length}
use Rattle.std.proofs.lemmas.Bool.Decides.{nat_tests}
use Rattle.std.proofs.lemmas.List.Recursion.{is_position_or_len}
use Rattle.std.specs.List.{position_or_len}
use Rattle.std.specs.Prelude.{◌&&◌, ◌||◌, eqb, Option, Some, None, unwrap_or}
use Rattle.std.specs.Str.{bytes_eq}
use Rattle.vx_history.proofs.Updates.{and_right, eqb_apart, eqb_equal}
use Rattle.vx_history.specs.Doubts.{Doubted}
use Rattle.vx_history.specs.Settling.{is_between}
use Rattle.vx_history.specs.World.{Node, Packet, World}
use Rattle.vx_order.specs.declared.facts.SiteFacts.{SiteFacts}
use Rattle.vx_events.specs.Facts.{site_fact, site_number, values_from}
use Rattle.vx_events.specs.LinkFinds.{MovesBetween}
use Rattle.vx_settling.specs.Between.{IsSent, is_update}

-- ---- names

module _ (name : List ℕ) (f g : ℕ → SiteFacts) (same : (i : ℕ) → (g i).name ≡ (f i).name) where
  abbrev is : SiteFacts → Bool
  is x = bytes_eq x.name name

  abbrev first_at : List SiteFacts → ℕ
  first_at [] = 0
  first_at (x ∷ xs) = cond (is x) 0 (1 + first_at xs)

  found_same : (k m : ℕ) → first_at (values_from g k m) ≡ first_at (values_from f k m)
  found_same k zero = refl
  found_same k (suc m) =
      ap (λ (b : Bool). cond b 0 (1 + first_at (values_from g (k + 1) m))) (ap (λ (n : List ℕ). bytes_eq n name) (same k))
      ∙ ap (λ (j : ℕ). cond (is (f k)) 0 (1 + j)) (found_same (k + 1) m)

  first_is : (xs : List SiteFacts) → first_at xs ≡ position_or_len is xs
  first_is xs = is_position_or_len first_at is refl (λ x ys. refl) xs

  places_same : (k m : ℕ) → position_or_len is (values_from g k m) ≡ position_or_len is (values_from f k m)
  places_same k m = sym (first_is (values_from g k m)) ∙ found_same k m ∙ first_is (values_from f k m)

  lengths_same : (k m : ℕ) → length (values_from g k m) ≡ length (values_from f k m)
  lengths_same k zero = refl
  lengths_same k (suc m) = ap suc (lengths_same (k + 1) m)

-- a name is that of the same site in a world with the same names
pub names_stay : (w v : World) (name : List ℕ) → v.sites ≡ w.sites → ((i : ℕ) → (v.nodes i).name ≡ (w.nodes i).name) → site_number v name ≡ site_number w name
names_stay w v name sites same =
    let f : ℕ → SiteFacts = λ i. site_fact (w.nodes i) in
    let g : ℕ → SiteFacts = λ i. site_fact (v.nodes i) in
    let at : ℕ → ℕ → Option ℕ = λ i n. cond (ltb i n) (Some i) None in
    ap (λ (n : ℕ). unwrap_or (at (position_or_len (λ (x : SiteFacts). bytes_eq x.name name) (values_from g 0 n)) (length (values_from g 0 n))) 0) sites
    ∙ ap (λ (i : ℕ). unwrap_or (at i (length (values_from g 0 w.sites))) 0) (places_same name f g same 0 w.sites)
    ∙ ap (λ (n : ℕ). unwrap_or (at (position_or_len (λ (x : SiteFacts). bytes_eq x.name name) (values_from f 0 w.sites)) n) 0) (lengths_same name f g same 0 w.sites)

pub moved_names : (p s : ℕ) (d e : Doubted) (name : List ℕ) → MovesBetween p s d e → site_number e.world name ≡ site_number d.world name
moved_names p s d e name m = names_stay d.world e.world name m.sites (λ i. by_site i (eqb i s) refl)
  where
    by_site : (i : ℕ) (b : Bool) → eqb i s ≡ b → (e.world.nodes i).name ≡ (d.world.nodes i).name
    by_site i true here = subst (λ (j : ℕ). (e.world.nodes j).name ≡ (d.world.nodes j).name) (sym (eqb_equal i s here)) (ap (λ (n : Node). n.name) m.takes.rest)
    by_site i false there = ap (λ (n : Node). n.name) (m.nodes i (eqb_apart i s there))

-- ---- packets

-- of two tests the first of which fails the second holds
second : (a b c e : Bool) → a ≡ false → ((a && b) || (c && e)) ≡ true → e ≡ true
second true b c e none one = absurd (cc)
second false b c e none one = and_right c e one

differs : (m n : ℕ) → (m ≡ n → ⊥) → eqb m n ≡ false
differs m n h = grind (arith, nat_tests)

-- a packet of s between the two goes to p
pub to_first : (p s : ℕ) (q : Packet) → (s ≡ p → ⊥) → q.source ≡ s → is_between p s q ≡ true → q.target ≡ p
to_first p s q apart from between =
    eqb_equal q.target p
    (second (eqb q.source p) (eqb q.target s) (eqb q.source s) (eqb q.target p) (differs q.source p (λ (e : q.source ≡ p). apart (sym from ∙ e))) between)

-- what settling sends between the two is an update to s, or an answer or a greeting to p
pub between_two : (p s : ℕ) (q : Packet) → (s ≡ p → ⊥) → IsSent p s q → is_between p s q ≡ true
    → ((q.source ≡ p) × (q.target ≡ s) × (is_update q.message ≡ true)) ⊎ ((q.source ≡ s) × (q.target ≡ p) × (is_update q.message ≡ false))
between_two p s q apart (inl update) between = inl update
between_two p s q apart (inr (from, other)) between = inr (from, to_first p s q apart from between, other)
