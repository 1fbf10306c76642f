-- Names of which each differs from those behind it, and tests of names in a row.
use Rattle.std.proofs.Common.{◌≡◌, ◌∙◌, ◌<◌, ◌≤◌, ◌+◌, ◌-◌, ℕ, suc, List, [], ◌∷◌, length, take, drop, get_or, ap, sym, arith, Bool, true, false, not, ◌&&◌}
use Rattle.std.specs.List.{list_any}
use Rattle.std.specs.Prelude.{Option}
use Rattle.std.specs.Str.{bytes_eq}
use Rattle.std.proofs.Math.Seq.{drop-cons}
use Rattle.std.proofs.lemmas.List.{drop_all, take_all, length-drop}
use Rattle.vx_model.specs.declared.no.No.{No}
use Rattle.vx_order.specs.Replicating.{are_distinct}
use Rattle.vx_order.specs.Tests.{before, first_said_no}
use Rattle.vx_order.proofs.KindLemmas.{before_none}

-- the first of the names that are left
first_left : (xs : List (List ℕ)) (i : ℕ) (d : List ℕ) → i < length xs → are_distinct (drop i xs) ≡ (not (list_any (bytes_eq (get_or xs i d)) (drop (i + 1) xs)) && are_distinct (drop (i + 1) xs))
first_left xs i d lt =
    let next : suc i ≡ i + 1 = omega arith in
    ap are_distinct (drop-cons xs i d lt) ∙ ap (λ (n : ℕ). not (list_any (bytes_eq (get_or xs i d)) (drop n xs)) && are_distinct (drop n xs)) next

-- those behind it, as a slice gives them
behind_is : (xs : List (List ℕ)) (i : ℕ) → take (length xs - (i + 1)) (drop (i + 1) xs) ≡ drop (i + 1) xs
behind_is xs i = take_all (length xs - (i + 1)) (drop (i + 1) xs) (omega (arith, length-drop (i + 1) xs))

-- one stands in no other place
pub name_differs : (xs : List (List ℕ)) (i : ℕ) (d : List ℕ) → i < length xs → false ≡ list_any (bytes_eq (get_or xs i d)) (take (length xs - (i + 1)) (drop (i + 1) xs))
    → are_distinct (drop i xs) ≡ are_distinct xs → are_distinct (drop (i + 1) xs) ≡ are_distinct xs
name_differs xs i d lt test so_far =
    let none : list_any (bytes_eq (get_or xs i d)) (drop (i + 1) xs) ≡ false = sym (test ∙ ap (λ (ys : List (List ℕ)). list_any (bytes_eq (get_or xs i d)) ys) (behind_is xs i)) in
    sym (first_left xs i d lt ∙ ap (λ (b : Bool). not b && are_distinct (drop (i + 1) xs)) none) ∙ so_far

-- one stands in another place too
pub name_again : (xs : List (List ℕ)) (i : ℕ) (d : List ℕ) → i < length xs → true ≡ list_any (bytes_eq (get_or xs i d)) (take (length xs - (i + 1)) (drop (i + 1) xs))
    → are_distinct (drop i xs) ≡ are_distinct xs → false ≡ are_distinct xs
name_again xs i d lt test so_far =
    let again : list_any (bytes_eq (get_or xs i d)) (drop (i + 1) xs) ≡ true = sym (test ∙ ap (λ (ys : List (List ℕ)). list_any (bytes_eq (get_or xs i d)) ys) (behind_is xs i)) in
    sym (first_left xs i d lt ∙ ap (λ (b : Bool). not b && are_distinct (drop (i + 1) xs)) again) ∙ so_far

-- none is left
pub names_end : (xs : List (List ℕ)) (i : ℕ) → length xs ≤ i → are_distinct (drop i xs) ≡ are_distinct xs → true ≡ are_distinct xs
names_end xs i le so_far = sym (ap are_distinct (drop_all i xs le)) ∙ so_far

-- ---- tests of three names

first_of_three : (x y z : Option No) → first_said_no (x ∷ y ∷ z ∷ []) ≡ before x (before y z)
unfolding first_said_no
first_of_three x y z = ap (λ (o : Option No). before x (before y o)) (before_none z)

pub three_in_a_row : {a b c x y z : Option No} → a ≡ x → b ≡ y → c ≡ z → first_said_no (a ∷ b ∷ c ∷ []) ≡ before x (before y z)
three_in_a_row {a} {b} {c} {x} {y} {z} e f g =
    let same : (a ∷ b ∷ c ∷ []) ≡ (x ∷ y ∷ z ∷ []) = cc in
    ap first_said_no same ∙ first_of_three x y z
