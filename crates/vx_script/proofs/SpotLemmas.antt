-- A line as it goes on: spaces, a word, and what follows it.
use Rattle.std.proofs.Common.{◌≡◌, ℕ, zero, suc, ◌<◌, Bool, true, false, not, cond, List, [], ◌∷◌, ◌++◌, length, take, drop, replicate, refl, arith, ap, sym, ◌∙◌, eqb, inl, inr, ⊎_elim}
use Rattle.std.proofs.lemmas.Bool.{and_parts, cases_Bool}
use Rattle.std.proofs.Math.Seq.{drop-append_seam, take-append_seam}
use Rattle.std.specs.Prelude.{◌&&◌, ◌⊎◌}
use Rattle.std.specs.List.{list_all, position_or_len}
use Rattle.vx_script.specs.Words.{is_space, is_visible, after_spaces, word_of, after_word}
use Rattle.vx_script.specs.Tokens.{is_in_word}
use Rattle.vx_script.proofs.SpellLemmas.{visible}
use Rattle.vx_script.proofs.WordLemmas.{skip_space, skip_none, word_space, word_more}

-- spaces at the front are skipped
pub after_led : (n : ℕ) (bytes : List ℕ) → after_spaces (replicate n 32 ++ bytes) ≡ after_spaces bytes
after_led zero bytes = refl
after_led (suc n) bytes = skip_space 32 (replicate n 32 ++ bytes) refl ∙ after_led n bytes

-- the front of a word is kept
pub after_kept : (word tail : List ℕ) → list_all is_visible word ≡ true → 0 < length word → after_spaces (word ++ tail) ≡ word ++ tail
after_kept [] tail all some = absurd (omega arith)
after_kept (b ∷ word) tail all some = skip_none b (word ++ tail) (visible b (and_parts (is_visible b) (list_all is_visible word) all).0)

no_word_at : (tail : List ℕ) → is_in_word tail ≡ false → position_or_len is_space tail ≡ 0
no_word_at [] e = refl
no_word_at (b ∷ bytes) e = ⊎_elim
    (λ (t : eqb b 32 ≡ true). word_space b bytes t)
    (λ (t : eqb b 32 ≡ false). let f : true ≡ false = sym (ap (λ (u : Bool). cond u false true) t) ∙ e in absurd (cc))
    (cases_Bool (eqb b 32))

word_end : (word tail : List ℕ) → list_all is_visible word ≡ true → is_in_word tail ≡ false → position_or_len is_space (word ++ tail) ≡ length word
word_end [] tail all ends = no_word_at tail ends
word_end (b ∷ word) tail all ends =
    let a = and_parts (is_visible b) (list_all is_visible word) all in
    word_more b (word ++ tail) (visible b a.0) ∙ ap (λ (n : ℕ). suc n) (word_end word tail a.1 ends)

-- a word ends where a space or nothing follows it
pub word_then : (word tail : List ℕ) → list_all is_visible word ≡ true → is_in_word tail ≡ false → word_of (word ++ tail) ≡ word
word_then word tail all ends = ap (λ (n : ℕ). take n (word ++ tail)) (word_end word tail all ends) ∙ take-append_seam word tail

pub tail_then : (word tail : List ℕ) → list_all is_visible word ≡ true → is_in_word tail ≡ false → after_word (word ++ tail) ≡ tail
tail_then word tail all ends = ap (λ (n : ℕ). drop n (word ++ tail)) (word_end word tail all ends) ∙ drop-append_seam word tail

-- spaces alone
pub record Blank (bytes : List ℕ) : Type 0 where
  pub count : ℕ
  pub is : bytes ≡ replicate count 32

-- spaces, a word, and what follows it
pub record At (bytes : List ℕ) : Type 0 where
  pub count : ℕ
  pub word : List ℕ
  pub tail : List ℕ
  pub is : bytes ≡ replicate count 32 ++ (word ++ tail)
  pub shown : list_all is_visible word ≡ true
  pub some : 0 < length word
  pub ends : is_in_word tail ≡ false

-- bytes that begin with a word
record Begun (bytes : List ℕ) : Type 0 where
  word : List ℕ
  tail : List ℕ
  is : bytes ≡ word ++ tail
  shown : list_all is_visible word ≡ true
  ends : is_in_word tail ≡ false

begun : (bytes : List ℕ) → Begun bytes
begun [] = record { word = []; tail = []; is = refl; shown = refl; ends = refl }
begun (b ∷ bytes) = ⊎_elim
    (λ (t : eqb b 32 ≡ true). record { word = []; tail = b ∷ bytes; is = refl; shown = refl; ends = ap (λ (u : Bool). cond u false true) t })
    (λ (t : eqb b 32 ≡ false). let a = begun bytes in record {
      word = b ∷ a.word;
      tail = a.tail;
      is = ap (λ (l : List ℕ). b ∷ l) a.is;
      shown = ap (λ (u : Bool). not u && list_all is_visible a.word) t ∙ a.shown;
      ends = a.ends;
    })
    (cases_Bool (eqb b 32))

blank_more : (b : ℕ) (bytes : List ℕ) → eqb b 32 ≡ true → Blank bytes → Blank (b ∷ bytes)
blank_more b bytes e blank =
    let same : b ≡ 32 = grind (arith, e) in
    record { count = suc blank.count; is = ap (λ (c : ℕ). c ∷ bytes) same ∙ ap (λ (l : List ℕ). 32 ∷ l) blank.is }

at_more : (b : ℕ) (bytes : List ℕ) → eqb b 32 ≡ true → At bytes → At (b ∷ bytes)
at_more b bytes e at_ =
    let same : b ≡ 32 = grind (arith, e) in
    record {
      count = suc at_.count;
      word = at_.word;
      tail = at_.tail;
      is = ap (λ (c : ℕ). c ∷ bytes) same ∙ ap (λ (l : List ℕ). 32 ∷ l) at_.is;
      shown = at_.shown;
      some = at_.some;
      ends = at_.ends;
    }

at_once : (b : ℕ) (bytes : List ℕ) → eqb b 32 ≡ false → At (b ∷ bytes)
at_once b bytes e =
    let a = begun bytes in
    record {
      count = 0;
      word = b ∷ a.word;
      tail = a.tail;
      is = ap (λ (l : List ℕ). b ∷ l) a.is;
      shown = ap (λ (u : Bool). not u && list_all is_visible a.word) e ∙ a.shown;
      some = omega arith;
      ends = a.ends;
    }

pub spot : (bytes : List ℕ) → Blank bytes ⊎ At bytes
spot [] = inl (record { count = 0; is = refl })
spot (b ∷ bytes) = ⊎_elim
    (λ (t : eqb b 32 ≡ true). ⊎_elim (λ (blank : Blank bytes). inl (blank_more b bytes t blank)) (λ (at_ : At bytes). inr (at_more b bytes t at_)) (spot bytes))
    (λ (t : eqb b 32 ≡ false). inr (at_once b bytes t))
    (cases_Bool (eqb b 32))
