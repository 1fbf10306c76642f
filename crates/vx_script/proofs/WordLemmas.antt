-- The words of a line, and the next word.
use Rattle.std.proofs.Common.{◌≡◌, ◌<◌, ℕ, suc, ◌+◌, Bool, true, false, not, cond, List, [], ◌∷◌, length, take, drop, Option, Some, None, Ok, Err, refl, arith, ap, sym, subst, ◌∙◌, eqb, inl, inr, ⊎_elim}
use Rattle.std.proofs.lemmas.Bool.{cases_Bool}
use Rattle.std.specs.Prelude.{◌⊎◌}
use Rattle.std.proofs.Math.Dec.{eqb-suc-zero}
use Rattle.std.specs.List.{position_or_len}
use Rattle.vx_script.specs.Words.{is_space, is_visible, after_spaces, word_of, after_word, placed, next_word, words_end}
use Rattle.vx_script.specs.Tokens.{before_word, is_in_word, words_of}
use Rattle.vx_script.proofs.SpellLemmas.{cond_true}

cond_false : {A : Type 0} (t : Bool) (x y : A) → t ≡ false → cond t x y ≡ y
cond_false t x y e = ap (λ (b : Bool). cond b x y) e

one_more : (n : ℕ) → 1 + n ≡ suc n
one_more n = omega arith

-- the byte at the front is a space, or not
pub skip_space : (b : ℕ) (bytes : List ℕ) → eqb b 32 ≡ true → after_spaces (b ∷ bytes) ≡ after_spaces bytes
skip_space b bytes e =
    ap (λ (n : ℕ). drop n (b ∷ bytes))
    (cond_true (not (not (eqb b 32))) (1 + position_or_len is_visible bytes) 0 (ap (λ (t : Bool). not (not t)) e) ∙ one_more (position_or_len is_visible bytes))

pub skip_none : (b : ℕ) (bytes : List ℕ) → eqb b 32 ≡ false → after_spaces (b ∷ bytes) ≡ b ∷ bytes
skip_none b bytes e =
    ap (λ (n : ℕ). drop n (b ∷ bytes)) (cond_false (not (not (eqb b 32))) (1 + position_or_len is_visible bytes) 0 (ap (λ (t : Bool). not (not t)) e))

pub word_space : (b : ℕ) (bytes : List ℕ) → eqb b 32 ≡ true → position_or_len is_space (b ∷ bytes) ≡ 0
word_space b bytes e = cond_false (not (eqb b 32)) (1 + position_or_len is_space bytes) 0 (ap not e)

pub word_more : (b : ℕ) (bytes : List ℕ) → eqb b 32 ≡ false → position_or_len is_space (b ∷ bytes) ≡ suc (position_or_len is_space bytes)
word_more b bytes e = cond_true (not (eqb b 32)) (1 + position_or_len is_space bytes) 0 (ap not e) ∙ one_more (position_or_len is_space bytes)

goes_space : (b c : ℕ) (bytes : List ℕ) → eqb c 32 ≡ true
    → before_word b (is_in_word (c ∷ bytes)) (words_of (c ∷ bytes)) ≡ (b ∷ word_of (c ∷ bytes)) ∷ words_of (after_word (c ∷ bytes))
goes_space b c bytes e =
    ap (λ (t : Bool). before_word b t (words_of (c ∷ bytes))) (cond_true (eqb c 32) false true e)
    ∙ ap (λ (n : ℕ). (b ∷ take n (c ∷ bytes)) ∷ words_of (drop n (c ∷ bytes))) (sym (word_space c bytes e))

goes_more : (b c : ℕ) (bytes : List ℕ) → before_word c (is_in_word bytes) (words_of bytes) ≡ (c ∷ word_of bytes) ∷ words_of (after_word bytes) → eqb c 32 ≡ false
    → before_word b (is_in_word (c ∷ bytes)) (words_of (c ∷ bytes)) ≡ (b ∷ word_of (c ∷ bytes)) ∷ words_of (after_word (c ∷ bytes))
goes_more b c bytes below e =
    ap (λ (t : Bool). before_word b t (words_of (c ∷ bytes))) (cond_false (eqb c 32) false true e)
    ∙ ap (before_word b true) (cond_false (eqb c 32) (words_of bytes) (before_word c (is_in_word bytes) (words_of bytes)) e ∙ below)
    ∙ ap (λ (n : ℕ). (b ∷ take n (c ∷ bytes)) ∷ words_of (drop n (c ∷ bytes))) (sym (word_more c bytes e))

-- a word that a byte begins, or goes on with
word_goes : (b : ℕ) (bytes : List ℕ) → before_word b (is_in_word bytes) (words_of bytes) ≡ (b ∷ word_of bytes) ∷ words_of (after_word bytes)
word_goes b [] = refl
word_goes b (c ∷ bytes) = ⊎_elim (goes_space b c bytes) (goes_more b c bytes (word_goes c bytes)) (cases_Bool (eqb c 32))

-- the front of a line that begins with a word
pub front_word : (b : ℕ) (bytes : List ℕ) → eqb b 32 ≡ false → words_of (b ∷ bytes) ≡ word_of (b ∷ bytes) ∷ words_of (after_word (b ∷ bytes))
front_word b bytes e =
    cond_false (eqb b 32) (words_of bytes) (before_word b (is_in_word bytes) (words_of bytes)) e
    ∙ word_goes b bytes
    ∙ ap (λ (n : ℕ). take n (b ∷ bytes) ∷ words_of (drop n (b ∷ bytes))) (sym (word_more b bytes e))

-- a line has a first word, or none
pub record FirstWord (bytes : List ℕ) : Type 0 where
  pub words : words_of bytes ≡ word_of (after_spaces bytes) ∷ words_of (after_word (after_spaces bytes))
  pub some : eqb (length (after_spaces bytes)) 0 ≡ false

pub record NoWord (bytes : List ℕ) : Type 0 where
  pub words : words_of bytes ≡ []
  pub none : after_spaces bytes ≡ []

first_other : (b : ℕ) (bytes : List ℕ) → eqb b 32 ≡ false → FirstWord (b ∷ bytes) ⊎ NoWord (b ∷ bytes)
first_other b bytes e =
    inl (record {
      words = subst (λ (t : List ℕ). words_of (b ∷ bytes) ≡ word_of t ∷ words_of (after_word t)) (sym (skip_none b bytes e)) (front_word b bytes e);
      some = ap (λ (t : List ℕ). eqb (length t) 0) (skip_none b bytes e) ∙ eqb-suc-zero (length bytes);
    })

first_space : (b : ℕ) (bytes : List ℕ) → FirstWord bytes ⊎ NoWord bytes → eqb b 32 ≡ true → FirstWord (b ∷ bytes) ⊎ NoWord (b ∷ bytes)
first_space b bytes (inl first) e =
    inl (record {
      words = cond_true (eqb b 32) (words_of bytes) (before_word b (is_in_word bytes) (words_of bytes)) e
          ∙ subst (λ (t : List ℕ). words_of bytes ≡ word_of t ∷ words_of (after_word t)) (sym (skip_space b bytes e)) first.words;
      some = ap (λ (t : List ℕ). eqb (length t) 0) (skip_space b bytes e) ∙ first.some;
    })
first_space b bytes (inr none) e =
    inr (record { words = cond_true (eqb b 32) (words_of bytes) (before_word b (is_in_word bytes) (words_of bytes)) e ∙ none.words; none = skip_space b bytes e ∙ none.none })

pub first_word : (bytes : List ℕ) → FirstWord bytes ⊎ NoWord bytes
first_word [] = inr (record { words = refl; none = refl })
first_word (b ∷ bytes) = ⊎_elim (first_space b bytes (first_word bytes)) (first_other b bytes) (cases_Bool (eqb b 32))

only_first : {A : Type 0} (value : List ℕ → Option A) (bytes word : List ℕ) (words : List (List ℕ)) (x : A)
    → words_of bytes ≡ word ∷ words → value word ≡ Some x → FirstWord bytes → (rest : List ℕ) × (next_word value bytes ≡ Ok (x, rest)) × (words_of rest ≡ words)
only_first value bytes word words x is fits first =
    let both : word_of (after_spaces bytes) ∷ words_of (after_word (after_spaces bytes)) ≡ word ∷ words = sym first.words ∙ is in
    let same : word_of (after_spaces bytes) ≡ word = cc in
    let others : words_of (after_word (after_spaces bytes)) ≡ words = cc in
    (after_word (after_spaces bytes), ap (λ o. placed o (after_spaces bytes)) (ap value same ∙ fits), others)

-- the next word, where there is one that fits
pub next_only : {A : Type 0} (value : List ℕ → Option A) (bytes word : List ℕ) (words : List (List ℕ)) (x : A)
    → words_of bytes ≡ word ∷ words → value word ≡ Some x → (rest : List ℕ) × (next_word value bytes ≡ Ok (x, rest)) × (words_of rest ≡ words)
next_only value bytes word words x is fits = ⊎_elim (only_first value bytes word words x is fits) (λ (none : NoWord bytes). let e : [] ≡ word ∷ words = sym none.words ∙ is in absurd (cc)) (first_word bytes)

pub end_only : (bytes : List ℕ) → words_of bytes ≡ [] → words_end bytes ≡ Ok tt
end_only bytes is = ⊎_elim (λ (first : FirstWord bytes). let e = sym first.words ∙ is in absurd (cc)) (λ (none : NoWord bytes). ap (λ (t : List ℕ). cond (eqb (length t) 0) (Ok tt) (Err (length t))) none.none) (first_word bytes)

pub end_found : (bytes : List ℕ) → words_end bytes ≡ Ok tt → words_of bytes ≡ []
end_found bytes e = ⊎_elim
    (λ (first : FirstWord bytes). let f : Err (length (after_spaces bytes)) ≡ Ok tt = sym (cond_false (eqb (length (after_spaces bytes)) 0) (Ok tt) (Err (length (after_spaces bytes))) first.some) ∙ e in absurd (cc))
    (λ (none : NoWord bytes). none.words) (first_word bytes)

placed_ok : {A : Type 0} (o : Option A) (here : List ℕ) (p : A × List ℕ) → placed o here ≡ Ok p → (o ≡ Some p.0) × (after_word here ≡ p.1)
placed_ok None here p e = absurd (cc)
placed_ok (Some x) here p e = let pair : (x, after_word here) ≡ p = cc in (ap (λ q. Some q.0) pair, ap (λ q. q.1) pair)

-- what was read stands first
pub next_found : {A : Type 0} (value : List ℕ → Option A) (bytes : List ℕ) (p : A × List ℕ) → value [] ≡ None → next_word value bytes ≡ Ok p
    → (word : List ℕ) × (words_of bytes ≡ word ∷ words_of p.1) × (value word ≡ Some p.0)
next_found value bytes p empty e = ⊎_elim
    (λ (first : FirstWord bytes). let both = placed_ok (value (word_of (after_spaces bytes))) (after_spaces bytes) p e in
    (word_of (after_spaces bytes), first.words ∙ ap (λ (t : List ℕ). word_of (after_spaces bytes) ∷ words_of t) both.1, both.0))
    (λ (none : NoWord bytes). let f = sym (ap (λ (t : List ℕ). placed (value (word_of t)) t) none.none ∙ ap (λ o. placed o []) empty) ∙ e in absurd (cc))
    (first_word bytes)

-- a first word
pub first_is : (bytes word : List ℕ) (words : List (List ℕ)) → words_of bytes ≡ word ∷ words → (word_of (after_spaces bytes) ≡ word) × (words_of (after_word (after_spaces bytes)) ≡ words)
first_is bytes word words is = ⊎_elim
    (λ (first : FirstWord bytes). let both = sym first.words ∙ is in (cc, cc))
    (λ (none : NoWord bytes). let e = sym none.words ∙ is in absurd (cc)) (first_word bytes)

pub first_found : (bytes word : List ℕ) → word_of (after_spaces bytes) ≡ word → 0 < length word → words_of bytes ≡ word ∷ words_of (after_word (after_spaces bytes))
first_found bytes word e some = ⊎_elim
    (λ (first : FirstWord bytes). first.words ∙ ap (λ (w : List ℕ). w ∷ words_of (after_word (after_spaces bytes))) e)
    (λ (none : NoWord bytes). absurd (omega (arith, ap length (sym e ∙ ap word_of none.none), some))) (first_word bytes)
