-- How the lines of an input begin.
use Rattle.std.proofs.Common.{suc, zero, eq-eqb, ◌≡◌, ◌≤◌, ◌<◌, ℕ, ◌+◌, Bool, true, false, cond, List, [], ◌∷◌, ◌++◌, length, refl, arith, ◌∙◌, ap, eqb, sym, subst, get_or, take}
use Rattle.std.specs.Prelude.{◌&&◌}
use Rattle.vx_script.specs.Lines.{onto_lines, onto_whole, split_lines, whole_lines_of, without_return, HasNoNewline}
use Rattle.vx_script.proofs.SpellLemmas.{cond_true}

cond_is : {A : Type 0} (t : Bool) (x y : A) → t ≡ false → cond t x y ≡ y
cond_is t x y e = ap (λ (b : Bool). cond b x y) e

and_false : (t u : Bool) → u ≡ false → (t && u) ≡ false
and_false true u e = e
and_false false u e = refl

-- one byte more at the front, in a line of which another byte follows
more : (b c : ℕ) (bytes : List ℕ) → eqb b 10 ≡ false → eqb c 10 ≡ false → split_lines (b ∷ c ∷ bytes) ≡ onto_lines b (split_lines (c ∷ bytes))
more b c bytes p q =
    cond_is (eqb b 10) _ _ p ∙ cond_is (eqb b 13 && eqb c 10) _ _ (and_false (eqb b 13) (eqb c 10) q)

more_whole : (b c : ℕ) (bytes : List ℕ) → eqb b 10 ≡ false → eqb c 10 ≡ false → whole_lines_of (b ∷ c ∷ bytes) ≡ onto_whole b (whole_lines_of (c ∷ bytes))
more_whole b c bytes p q =
    cond_is (eqb b 10) _ _ p ∙ cond_is (eqb b 13 && eqb c 10) _ _ (and_false (eqb b 13) (eqb c 10) q)

ends : (b : ℕ) (tail : List ℕ) → eqb b 10 ≡ false → (t : Bool) → cond (t && true) ([] ∷ split_lines tail) ((b ∷ []) ∷ split_lines tail) ≡ cond t [] (b ∷ []) ∷ split_lines tail
ends b tail p true = refl
ends b tail p false = refl

ends_whole : (b : ℕ) (tail : List ℕ) → eqb b 10 ≡ false → (t : Bool) → cond (t && true) ([] ∷ whole_lines_of tail) ((b ∷ []) ∷ whole_lines_of tail) ≡ cond t [] (b ∷ []) ∷ whole_lines_of tail
ends_whole b tail p true = refl
ends_whole b tail p false = refl

-- a line that a newline ends
pub lines_of_line : (line tail : List ℕ) → HasNoNewline line → split_lines (line ++ 10 ∷ tail) ≡ without_return line ∷ split_lines tail
lines_of_line [] tail p = refl
lines_of_line (b ∷ []) tail p = cond_is (eqb b 10) _ _ p.0 ∙ ends b tail p.0 (eqb b 13)
lines_of_line (b ∷ c ∷ bytes) tail p = more b c (bytes ++ 10 ∷ tail) p.0 p.1.0 ∙ ap (onto_lines b) (lines_of_line (c ∷ bytes) tail p.1)

pub whole_lines_of_line : (line tail : List ℕ) → HasNoNewline line → whole_lines_of (line ++ 10 ∷ tail) ≡ without_return line ∷ whole_lines_of tail
whole_lines_of_line [] tail p = refl
whole_lines_of_line (b ∷ []) tail p = cond_is (eqb b 10) _ _ p.0 ∙ ends_whole b tail p.0 (eqb b 13)
whole_lines_of_line (b ∷ c ∷ bytes) tail p = more_whole b c (bytes ++ 10 ∷ tail) p.0 p.1.0 ∙ ap (onto_whole b) (whole_lines_of_line (c ∷ bytes) tail p.1)

and_no : (t : Bool) → (t && false) ≡ false
and_no t = and_false t false refl

-- a last line that no newline ends
pub lines_of_last : (line : List ℕ) → HasNoNewline line → 0 < length line → split_lines line ≡ line ∷ []
lines_of_last [] p some = absurd (omega arith)
lines_of_last (b ∷ []) p some = cond_is (eqb b 10) _ _ p.0 ∙ cond_is (eqb b 13 && false) _ _ (and_no (eqb b 13))
lines_of_last (b ∷ c ∷ bytes) p some = more b c bytes p.0 p.1.0 ∙ ap (onto_lines b) (lines_of_last (c ∷ bytes) p.1 (omega arith))

pub whole_lines_of_last : (line : List ℕ) → HasNoNewline line → whole_lines_of line ≡ []
whole_lines_of_last [] p = refl
whole_lines_of_last (b ∷ []) p = cond_is (eqb b 10) _ _ p.0 ∙ cond_is (eqb b 13 && false) _ _ (and_no (eqb b 13))
whole_lines_of_last (b ∷ c ∷ bytes) p = more_whole b c bytes p.0 p.1.0 ∙ ap (onto_whole b) (whole_lines_of_last (c ∷ bytes) p.1)

-- the first line, and how long it is at least
pub record BeginsLong (bytes : List ℕ) (least : ℕ) : Type 0 where
  pub line : List ℕ
  pub others : List (List ℕ)
  pub lines : split_lines bytes ≡ line ∷ others
  pub long : least ≤ length line + 1

-- there is a first line
abbrev pub Begins : List (List ℕ) → Type 0
Begins lines = (line : List ℕ) × (others : List (List ℕ)) × (lines ≡ line ∷ others)

onto_begins : (b : ℕ) (lines : List (List ℕ)) → Begins (onto_lines b lines)
onto_begins b [] = (b ∷ [], [], refl)
onto_begins b (line ∷ lines) = (b ∷ line, lines, refl)

pub some_line : (b : ℕ) (bytes : List ℕ) → Begins (split_lines (b ∷ bytes))
some_line b [] =
    elim (eqb b 10) as (λ t. Begins (cond t ([] ∷ []) (cond (eqb b 13 && false) [] (onto_lines b [])))) [
      | true ↦ ([], [], refl)
      | false ↦ subst (λ (u : Bool). Begins (cond u [] (onto_lines b []))) (sym (and_no (eqb b 13))) (onto_begins b [])
    ]
some_line b (c ∷ bytes) =
    elim (eqb b 10) as (λ t. Begins (cond t ([] ∷ split_lines (c ∷ bytes)) (cond (eqb b 13 && eqb c 10) (split_lines (c ∷ bytes)) (onto_lines b (split_lines (c ∷ bytes)))))) [
      | true ↦ ([], split_lines (c ∷ bytes), refl)
      | false ↦ elim (eqb b 13 && eqb c 10) as (λ u. Begins (cond u (split_lines (c ∷ bytes)) (onto_lines b (split_lines (c ∷ bytes))))) [
        | true ↦ some_line c bytes
        | false ↦ onto_begins b (split_lines (c ∷ bytes))
      ]
    ]

-- a line that has no newline for so long
pub lines_of_long : (front rest : List ℕ) → HasNoNewline front → 0 < length front → BeginsLong (front ++ rest) (length front)
lines_of_long [] rest p some = absurd (omega arith)
lines_of_long (b ∷ []) rest p some =
    let first : Begins (split_lines (b ∷ rest)) = some_line b rest in
    record { line = first.0; others = first.1; lines = first.2; long = omega arith }
lines_of_long (b ∷ c ∷ bytes) rest p some =
    let below : BeginsLong (c ∷ bytes ++ rest) (length (c ∷ bytes)) = lines_of_long (c ∷ bytes) rest p.1 (omega arith) in
    record {
      line = b ∷ below.line;
      others = below.others;
      lines = more b c (bytes ++ rest) p.0 p.1.0 ∙ ap (onto_lines b) below.lines;
      long = let h = below.long in omega arith;
    }

pub plain_from : (bytes : List ℕ) → ((k : ℕ) → k < length bytes → eqb (get_or bytes k 0) 10 ≡ false) → HasNoNewline bytes
plain_from [] h = tt
plain_from (b ∷ bytes) h = (h 0 (omega arith), plain_from bytes (λ k below. h (suc k) (omega arith)))

-- a line with a carriage return at its end, and one without
pub without_return_strips : (line : List ℕ) (n : ℕ) → length line ≡ suc n → get_or line n 0 ≡ 13 → without_return line ≡ take n line
without_return_strips [] n len e = absurd (omega (arith, len))
without_return_strips (b ∷ []) zero len e = cond_true (eqb b 13) _ _ (eq-eqb b 13 e)
without_return_strips (b ∷ []) (suc n) len e = absurd (omega (arith, len))
without_return_strips (b ∷ c ∷ bytes) zero len e = absurd (omega (arith, len))
without_return_strips (b ∷ c ∷ bytes) (suc n) len e = ap (λ (t : List ℕ). b ∷ t) (without_return_strips (c ∷ bytes) n (omega (arith, len)) e)

pub without_return_keeps : (line : List ℕ) → ((n : ℕ) → length line ≡ suc n → eqb (get_or line n 0) 13 ≡ false) → without_return line ≡ line
without_return_keeps [] h = refl
without_return_keeps (b ∷ []) h = cond_is (eqb b 13) _ _ (h 0 refl)
without_return_keeps (b ∷ c ∷ bytes) h = ap (λ (t : List ℕ). b ∷ t) (without_return_keeps (c ∷ bytes) (λ n len. h (suc n) (ap (λ (k : ℕ). suc k) len)))
