-- Names with commas between are read one by one.
use Rattle.std.proofs.Common.{◌≡◌, ℕ, zero, suc, get_or, ltb, ◌+◌, ◌<◌, Bool, true, false, not, cond, List, [], ◌∷◌, ◌++◌, length, take, drop, Option, Some, None, refl, arith, ap, sym, ◌∙◌, ⊎_elim, append_assoc}
use Rattle.std.specs.List.{position_or_len, slice_split, onto_first, join_with_byte}
use Rattle.std.proofs.lemmas.Bool.{cases_Bool, lt-ltb}
use Rattle.std.proofs.lemmas.List.{take_more}
use Rattle.vx_script.specs.Tokens.{comma_name}
use Rattle.std.proofs.lemmas.List.Splits.{slice_split_first}
use Rattle.vx_script.specs.Words.{is_comma, word_name, both_names, all_names, names_of, with_front}
use Rattle.std.specs.Prelude.{◌⊎◌}

-- no comma is left
pub no_more : (p : ℕ → Bool) (xs : List ℕ) → position_or_len p xs ≡ length xs → slice_split p xs ≡ xs ∷ []
no_more p [] e = refl
no_more p (x ∷ xs) e = ⊎_elim
    (λ (t : p x ≡ true). let zero : position_or_len p (x ∷ xs) ≡ 0 = ap (λ (b : Bool). cond (not b) (1 + position_or_len p xs) 0) t in absurd (omega (arith, zero, e)))
    (λ (t : p x ≡ false).
    let one : position_or_len p (x ∷ xs) ≡ 1 + position_or_len p xs = ap (λ (b : Bool). cond (not b) (1 + position_or_len p xs) 0) t in
    let rest : position_or_len p xs ≡ length xs = omega (arith, one, e) in
    ap (λ (b : Bool). cond b ([] ∷ slice_split p xs) (onto_first x (slice_split p xs))) t ∙ ap (onto_first x) (no_more p xs rest))
    (cases_Bool (p x))

-- the first part ends at the first comma
pub first_part : (p : ℕ → Bool) (xs : List ℕ) → (parts : List (List ℕ)) × (slice_split p xs ≡ take (position_or_len p xs) xs ∷ parts)
first_part p [] = ([], refl)
first_part p (x ∷ xs) = ⊎_elim
    (λ (t : p x ≡ true). (
      slice_split p xs,
      ap (λ (b : Bool). cond b ([] ∷ slice_split p xs) (onto_first x (slice_split p xs))) t
          ∙ ap (λ (n : ℕ). take n (x ∷ xs) ∷ slice_split p xs) (sym (ap (λ (b : Bool). cond (not b) (1 + position_or_len p xs) 0) t)),
    ))
    (λ (t : p x ≡ false).
    let a = first_part p xs in
    let one : position_or_len p (x ∷ xs) ≡ suc (position_or_len p xs) = ap (λ (b : Bool). cond (not b) (1 + position_or_len p xs) 0) t ∙ omega arith in
    (a.0, ap (λ (b : Bool). cond b ([] ∷ slice_split p xs) (onto_first x (slice_split p xs))) t ∙ ap (onto_first x) a.1 ∙ ap (λ (n : ℕ). take n (x ∷ xs) ∷ a.0) (sym one)))
    (cases_Bool (p x))

pub front_none : (names : Option (List (List ℕ))) → names ≡ with_front [] names
front_none None = refl
front_none (Some names) = refl

front_more : (front : List (List ℕ)) (name : List ℕ) (names : Option (List (List ℕ))) → with_front front (both_names (Some name) names) ≡ with_front (front ++ name ∷ []) names
front_more front name None = refl
front_more front name (Some names) = ap (λ (l : List (List ℕ)). Some l) (sym (append_assoc front (name ∷ []) names))

pub one_more_name : (front : List (List ℕ)) (name rest : List ℕ) → position_or_len is_comma rest < length rest → word_name (take (position_or_len is_comma rest) rest) ≡ Some name
    → with_front front (names_of rest) ≡ with_front (front ++ name ∷ []) (names_of (drop (position_or_len is_comma rest + 1) rest))
unfolding names_of
one_more_name front name rest more is =
    ap (λ (ps : List (List ℕ)). with_front front (all_names ps)) (slice_split_first is_comma rest 0 more)
    ∙ ap (λ (o : Option (List ℕ)). with_front front (both_names o (all_names (slice_split is_comma (drop (position_or_len is_comma rest + 1) rest))))) is
    ∙ front_more front name (all_names (slice_split is_comma (drop (position_or_len is_comma rest + 1) rest)))

pub last_name : (front : List (List ℕ)) (name rest : List ℕ) → position_or_len is_comma rest ≡ length rest → word_name (take (position_or_len is_comma rest) rest) ≡ Some name
    → with_front front (names_of rest) ≡ Some (front ++ name ∷ [])
unfolding names_of
last_name front name rest last is =
    let a = first_part is_comma rest in
    let s : take (position_or_len is_comma rest) rest ∷ a.0 ≡ rest ∷ [] = sym a.1 ∙ no_more is_comma rest last in
    let whole : take (position_or_len is_comma rest) rest ≡ rest = cc in
    ap (λ (ps : List (List ℕ)). with_front front (all_names ps)) (no_more is_comma rest last)
    ∙ ap (λ (o : Option (List ℕ)). with_front front (both_names o (Some []))) (ap word_name (sym whole) ∙ is)

pub wrong_name : (front : List (List ℕ)) (rest : List ℕ) → word_name (take (position_or_len is_comma rest) rest) ≡ None → with_front front (names_of rest) ≡ None
unfolding names_of
wrong_name front rest is =
    let a = first_part is_comma rest in
    ap (λ (ps : List (List ℕ)). with_front front (all_names ps)) a.1 ∙ ap (λ (o : Option (List ℕ)). with_front front (both_names o (all_names a.0))) is

join_more : (xs : List (List ℕ)) (y : List ℕ) → 0 < length xs → join_with_byte 44 (xs ++ y ∷ []) ≡ join_with_byte 44 xs ++ (44 ∷ y)
join_more [] y some = absurd (omega arith)
join_more (x ∷ []) y some = refl
join_more (x ∷ z ∷ xs) y some = ap (λ (r : List ℕ). x ++ (44 ∷ r)) (join_more (z ∷ xs) y (omega arith)) ∙ sym (append_assoc x (44 ∷ join_with_byte 44 (z ∷ xs)) (44 ∷ y))

comma_suc : (i : ℕ) (name : List ℕ) → comma_name (suc i) name ≡ 44 ∷ name
comma_suc i name = let t : ltb 0 (suc i) ≡ true = lt-ltb 0 (suc i) (omega arith) in ap (λ (b : Bool). cond b (44 ∷ name) name) t

-- one more name is printed
pub join_next : (names : List (List ℕ)) (i : ℕ) (d : List ℕ) → i < length names → join_with_byte 44 (take (i + 1) names) ≡ join_with_byte 44 (take i names) ++ comma_name i (get_or names i d)
join_next [] i d h = absurd (omega arith)
join_next (x ∷ xs) zero d h = refl
join_next (x ∷ xs) (suc i) d h =
    let some : 0 < length (take (suc i) (x ∷ xs)) = omega arith in
    ap (join_with_byte 44) (take_more (x ∷ xs) (suc i) d h) ∙ join_more (take (suc i) (x ∷ xs)) (get_or (x ∷ xs) (suc i) d) some
    ∙ ap (λ (r : List ℕ). join_with_byte 44 (take (suc i) (x ∷ xs)) ++ r) (sym (comma_suc i (get_or (x ∷ xs) (suc i) d)))
