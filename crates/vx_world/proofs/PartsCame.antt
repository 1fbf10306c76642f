-- Which parts of an update have come to its receiver.
use Rattle.std.proofs.Common.{◌≡◌, ◌∙◌, ℕ, zero, suc, ◌<◌, List, [], ◌∷◌, length, ap, sym, refl, arith, Bool, true, false, get_or, replicate}
use Rattle.std.specs.Prelude.{Option, Some, ◌&&◌, set, eqb, ltb, if◌then◌else◌}
use Rattle.std.specs.List.{list_all}
use Rattle.std.proofs.lemmas.Bool.Decides.{nat_tests}
use Rattle.std.proofs.lemmas.List.{get_or-set_same, get_or-set_other}
use Rattle.vx_model.specs.Sites.{same_line}
use Rattle.vx_history.proofs.Updates.{same_line_self}
use Rattle.vx_history.specs.World.{Key, Gathering}
use Rattle.vx_history.specs.Gatherings.{same_key, came_before}

-- ## Parts that have come

-- the parts below this one have come
abbrev pub Came : Option Gathering → Key → ℕ → Type 0
Came g key j = (i : ℕ) → i < j → get_or (came_before g key) i false ≡ true

pub all_true : (xs : List Bool) → ((i : ℕ) → i < length xs → get_or xs i false ≡ true) → list_all (λ c. c) xs ≡ true
all_true [] h = refl
all_true (x ∷ xs) h = both x (list_all (λ c. c) xs) (h zero (omega arith)) (all_true xs (λ i lt. h (suc i) (omega arith)))
  where
    both : (a b : Bool) → a ≡ true → b ≡ true → (a && b) ≡ true
    both true b e f = f
    both false b e f = absurd (cc)

-- with one part more
pub came_more : (xs : List Bool) (j : ℕ) → j < length xs → ((i : ℕ) → i < j → get_or xs i false ≡ true) → (i : ℕ) → i < suc j
    → get_or (set xs j true) i false ≡ true
came_more xs j lt h i few = by_place (eqb i j) refl
  where
    below : (i ≡ j → ⊥) → i < j
    below apart = by (ltb i j) refl
      where
        by : (t : Bool) → ltb i j ≡ t → i < j
        by true e = grind (arith, nat_tests)
        by false e = absurd (apart (grind (arith, nat_tests)))

    by_place : (b : Bool) → eqb i j ≡ b → get_or (set xs j true) i false ≡ true
    by_place true e =
        let here : i ≡ j = grind (arith, nat_tests) in ap (λ (k : ℕ). get_or (set xs j true) k false) here ∙ get_or-set_same xs j true false lt
    by_place false e =
        let apart : i ≡ j → ⊥ = λ same. let t : eqb i j ≡ true = grind (arith, nat_tests) in let f : true ≡ false = sym t ∙ e in cc in
        get_or-set_other xs j i true false apart ∙ h i (below apart)

pub key_itself : (key : Key) → same_key key key ≡ true
key_itself key =
    all_six (eqb key.source key.source) (eqb key.kind key.kind) (same_line key.line key.line) (eqb key.session key.session) (eqb key.number key.number)
    (eqb key.parts key.parts)
    (same key.source) (same key.kind) (same_line_self key.line) (same key.session) (same key.number) (same key.parts)
  where
    same : (n : ℕ) → eqb n n ≡ true
    same n = grind (arith, nat_tests)

    all_six : (a b c d e f : Bool) → a ≡ true → b ≡ true → c ≡ true → d ≡ true → e ≡ true → f ≡ true → (a && (b && (c && (d && (e && f))))) ≡ true
    all_six true true true true true f p q r s t u = u
    all_six false b c d e f p q r s t u = absurd (cc)
    all_six true false c d e f p q r s t u = absurd (cc)
    all_six true true false d e f p q r s t u = absurd (cc)
    all_six true true true false e f p q r s t u = absurd (cc)
    all_six true true true true false f p q r s t u = absurd (cc)

-- what is then in assembly is what came of this message
pub kept_came : (key : Key) (came : List Bool) → (let g : Gathering = record { key = key; came = came } in came_before (Some g) key) ≡ came
kept_came key came = ap (λ (b : Bool). if b then came else replicate key.parts false) (key_itself key)
