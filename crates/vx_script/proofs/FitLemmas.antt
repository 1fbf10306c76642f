-- What is read fits its place, and is printed in no more bytes.
use Rattle.std.proofs.Common.{◌≡◌, ◌≢◌, ℕ, suc, ◌+◌, ◌-◌, ◌*◌, ◌<◌, ◌≤◌, ◌^◌, Bool, true, false, not, cond, List, [], ◌∷◌, ◌++◌, length, take, drop, Option, Some, None, refl, arith, ap, sym, subst, ◌∙◌, eqb, ltb, leb, length-append, ⊎_elim}
use Rattle.std.specs.Prelude.{◌&&◌}
use Rattle.std.specs.List.{list_all, join_with_byte, slice_split}
use Rattle.std.specs.Fmt.{decimal}
use Rattle.std.specs.Str.{bytes_eq}
use Rattle.std.proofs.lemmas.Bool.{and_parts, cases_Bool, ltb-true}
use Rattle.std.proofs.lemmas.Fmt.{length-decimal-le}
use Rattle.std.proofs.lemmas.List.{take-append-drop}
use Rattle.std.proofs.lemmas.List.Splits.{join_with_byte-slice_split}
use Rattle.std.proofs.lemmas.Option.{same_Some}
use Rattle.std.proofs.lemmas.Slice.Eq.{bytes_eq-Decides}
use Rattle.hex.specs.Hex.{lower_digits}
use Rattle.hex.proofs.HexLemmas.{length-encode_with, decode_sized-twice, decode_sized-ok, decode_of-ok}
use Rattle.vx_script.specs.Words.{is_visible, is_digit, is_name, word_name, digits_after, is_number, word_number, labelled, is_comma, both_names, all_names, names_of}
use Rattle.vx_script.specs.Tokens.{Token, Key, Named, Number, Hex, NameList, Spells, SpellAll, words_of, before_word, is_in_word, printed, spaced, joined_words, IsWord, FitsToken, FitAll}

-- all of these are words
abbrev pub AllWords : List (List ℕ) → Type 0
AllWords [] = Unit {0}
AllWords (word ∷ words) = IsWord word × AllWords words

longer : (b : ℕ) (word : List ℕ) → eqb b 32 ≡ false → IsWord word → IsWord (b ∷ word)
longer b [] e is = absurd is
longer b (c ∷ word) e is = (e, is)

words_before : (b : ℕ) (t : Bool) (words : List (List ℕ)) → eqb b 32 ≡ false → AllWords words → AllWords (before_word b t words)
words_before b false words e all = (e, all)
words_before b true [] e all = (e, tt)
words_before b true (word ∷ words) e all = (longer b word e all.0, all.1)

-- the words of a line are words
pub words_are : (bytes : List ℕ) → AllWords (words_of bytes)
words_are [] = tt
words_are (b ∷ bytes) = ⊎_elim
    (λ (t : eqb b 32 ≡ true). subst AllWords (sym (ap (λ (u : Bool). cond u (words_of bytes) (before_word b (is_in_word bytes) (words_of bytes))) t)) (words_are bytes))
    (λ (t : eqb b 32 ≡ false). subst AllWords (sym (ap (λ (u : Bool). cond u (words_of bytes) (before_word b (is_in_word bytes) (words_of bytes))) t)) (words_before b (is_in_word bytes) (words_of bytes) t (words_are bytes)))
    (cases_Bool (eqb b 32))

-- the bytes of words, with a space before each
abbrev pub span : List (List ℕ) → ℕ
span [] = 0
span (word ∷ words) = 1 + length word + span words

abbrev begun : Bool → ℕ
begun true = 1
begun false = 0

span_before : (b : ℕ) (t : Bool) (words : List (List ℕ)) (n : ℕ) → span words ≤ n + begun t → span (before_word b t words) ≤ n + 2
span_before b false words n below = omega (arith, below)
span_before b true [] n below = omega arith
span_before b true (word ∷ words) n below = omega (arith, below)

span_other : (b : ℕ) (bytes : List ℕ) → span (words_of bytes) ≤ length bytes + begun (is_in_word bytes) → eqb b 32 ≡ false → span (words_of (b ∷ bytes)) ≤ length (b ∷ bytes) + begun (is_in_word (b ∷ bytes))
span_other b bytes below e =
    let words : words_of (b ∷ bytes) ≡ before_word b (is_in_word bytes) (words_of bytes) = ap (λ (u : Bool). cond u (words_of bytes) (before_word b (is_in_word bytes) (words_of bytes))) e in
    let starts : is_in_word (b ∷ bytes) ≡ true = ap (λ (u : Bool). cond u false true) e in
    let more = span_before b (is_in_word bytes) (words_of bytes) (length bytes) below in
    let one = ap begun starts in
    let all = ap span words in
    omega (arith, more, one, all)

span_space : (b : ℕ) (bytes : List ℕ) → span (words_of bytes) ≤ length bytes + begun (is_in_word bytes) → eqb b 32 ≡ true → span (words_of (b ∷ bytes)) ≤ length (b ∷ bytes) + begun (is_in_word (b ∷ bytes))
span_space b bytes below e =
    let all = ap span (ap (λ (u : Bool). cond u (words_of bytes) (before_word b (is_in_word bytes) (words_of bytes))) e) in
    let least : begun (is_in_word bytes) ≤ 1 = elim (is_in_word bytes) as (λ t. begun t ≤ 1) [ true ↦ omega arith | false ↦ omega arith ] in
    omega (arith, below, all, least)

span_is : (bytes : List ℕ) → span (words_of bytes) ≤ length bytes + begun (is_in_word bytes)
span_is [] = omega arith
span_is (b ∷ bytes) = ⊎_elim (span_space b bytes (span_is bytes)) (span_other b bytes (span_is bytes)) (cases_Bool (eqb b 32))

pub span_words : (bytes : List ℕ) → span (words_of bytes) ≤ length bytes + 1
span_words bytes =
    let least : begun (is_in_word bytes) ≤ 1 = elim (is_in_word bytes) as (λ t. begun t ≤ 1) [ true ↦ omega arith | false ↦ omega arith ] in
    omega (arith, span_is bytes, least)

-- a value that was read behind a label
labelled_is : {V : Type 0} (label : List ℕ) (value : List ℕ → Option V) (word : List ℕ) (x : V) → labelled label value word ≡ Some x → (word ≡ label ++ drop (length label) word) × (value (drop (length label) word) ≡ Some x)
unfolding labelled
labelled_is label value word x e = ⊎_elim
    (λ (t : bytes_eq (take (length label) word) label ≡ true). (
      sym (take-append-drop (length label) word) ∙ ap (λ (front : List ℕ). front ++ drop (length label) word) ((bytes_eq-Decides (take (length label) word) label).0 t),
      sym (ap (λ (b : Bool). cond b (value (drop (length label) word)) None) t) ∙ e,
    ))
    (λ (t : bytes_eq (take (length label) word) label ≡ false). let f = sym (ap (λ (b : Bool). cond b (value (drop (length label) word)) None) t) ∙ e in absurd (cc))
    (cases_Bool (bytes_eq (take (length label) word) label))

visible_byte : (b : ℕ) → eqb b 32 ≡ false → is_visible b ≡ true
visible_byte b e = ap not e

front_visible : (label rest : List ℕ) → IsWord (label ++ rest) → list_all is_visible label ≡ true
front_visible [] rest is = refl
front_visible (b ∷ []) [] is = let e = visible_byte b is in grind (arith, e)
front_visible (b ∷ []) (c ∷ rest) is = let e = visible_byte b is.0 in grind (arith, e)
front_visible (b ∷ d ∷ label) rest is = let e = visible_byte b is.0 in ap (λ (t : Bool). t && list_all is_visible (d ∷ label)) e ∙ front_visible (d ∷ label) rest is.1

label_visible : (label word : List ℕ) → IsWord word → word ≡ label ++ drop (length label) word → list_all is_visible label ≡ true
label_visible label word is e = front_visible label (drop (length label) word) (subst IsWord e is)

name_is : (word name : List ℕ) → word_name word ≡ Some name → (word ≡ name) × (is_name word ≡ true)
unfolding word_name
name_is word name e = ⊎_elim
    (λ (t : is_name word ≡ true). (same_Some word name (sym (ap (λ (b : Bool). cond b (Some word) None) t) ∙ e), t))
    (λ (t : is_name word ≡ false). let f = sym (ap (λ (b : Bool). cond b (Some word) None) t) ∙ e in absurd (cc))
    (cases_Bool (is_name word))

-- digits stand for a number below the power of ten of their count
digit_small : (b : ℕ) → is_digit b ≡ true → b - 48 < 10
digit_small b e = grind arith

digits_below : (n k : ℕ) (ds : List ℕ) → list_all is_digit ds ≡ true → n < 10 ^ k → digits_after n ds < 10 ^ (k + length ds)
digits_below n k [] all small = let same : k ≡ k + length {A = ℕ} [] = omega arith in subst (λ (m : ℕ). n < 10 ^ m) same small
digits_below n k (d ∷ ds) all small =
    let e = and_parts (is_digit d) (list_all is_digit ds) all in
    let next : 10 * n + (d - 48) < 10 ^ suc k = omega (arith, small, digit_small d e.0) in
    let h = digits_below (10 * n + (d - 48)) (suc k) ds e.1 next in
    let same : suc k + length ds ≡ k + length (d ∷ ds) = omega arith in
    subst (λ (m : ℕ). digits_after (10 * n + (d - 48)) ds < 10 ^ m) same h

record IsNumber (n : ℕ) (word : List ℕ) : Type 0 where
  small : n < 2 ^ 64
  short : length (decimal n) ≤ length word

number_fits : (word : List ℕ) → is_number word ≡ true → IsNumber (digits_after 0 word) word
number_fits word e =
    let a = and_parts (ltb 0 (length word) && leb (length word) 20 && list_all is_digit word) (ltb (digits_after 0 word) (2 ^ 64)) e in
    let b = and_parts (ltb 0 (length word) && leb (length word) 20) (list_all is_digit word) a.0 in
    let c = and_parts (ltb 0 (length word)) (leb (length word) 20) b.0 in
    let some : 0 < length word = ltb-true 0 (length word) c.0 in
    let small : digits_after 0 word < 2 ^ 64 = ltb-true (digits_after 0 word) (2 ^ 64) a.1 in
    let same : 0 + length word ≡ length word = omega arith in
    let below : digits_after 0 word < 10 ^ length word = subst (λ (m : ℕ). digits_after 0 word < 10 ^ m) same (digits_below 0 0 word b.1 (omega arith)) in
    record { small = small; short = length-decimal-le (length word) (digits_after 0 word) some below small }

number_is : (word : List ℕ) (n : ℕ) → word_number word ≡ Some n → IsNumber n word
unfolding word_number
number_is word n e = ⊎_elim
    (λ (t : is_number word ≡ true). subst (λ (m : ℕ). IsNumber m word) (same_Some (digits_after 0 word) n (sym (ap (λ (b : Bool). cond b (Some (digits_after 0 word)) None) t) ∙ e)) (number_fits word t))
    (λ (t : is_number word ≡ false). let f = sym (ap (λ (b : Bool). cond b (Some (digits_after 0 word)) None) t) ∙ e in absurd (cc))
    (cases_Bool (is_number word))

-- names that were read
both_is : (o : Option (List ℕ)) (os : Option (List (List ℕ))) (names : List (List ℕ)) → both_names o os ≡ Some names → (name : List ℕ) × (others : List (List ℕ)) × (o ≡ Some name) × (os ≡ Some others) × (name ∷ others ≡ names)
both_is None os names e = absurd (cc)
both_is (Some name) None names e = absurd (cc)
both_is (Some name) (Some others) names e = (name, others, refl, refl, same_Some (name ∷ others) names e)

all_names_are : (parts names : List (List ℕ)) → all_names parts ≡ Some names → (parts ≡ names) × (list_all is_name names ≡ true)
all_names_are [] names e = let same = same_Some [] names e in (same, ap (list_all is_name) (sym same))
all_names_are (part ∷ parts) names e =
    let a = both_is (word_name part) (all_names parts) names e in
    let n = name_is part a.0 a.2 in
    let rest = all_names_are parts a.1 a.3 in
    let first : is_name a.0 ≡ true = ap is_name (sym n.0) ∙ n.1 in (
      ap (λ (x : List ℕ). x ∷ parts) n.0 ∙ ap (λ (xs : List (List ℕ)). a.0 ∷ xs) rest.0 ∙ a.4,
      ap (list_all is_name) (sym a.4) ∙ ap (λ (t : Bool). t && list_all is_name a.1) first ∙ rest.1,
    )

record AreNames (names : List (List ℕ)) (word : List ℕ) : Type 0 where
  some : names ≢ []
  all : list_all is_name names ≡ true
  joins : join_with_byte 44 names ≡ word

names_are : (word : List ℕ) (names : List (List ℕ)) → 0 < length word → names_of word ≡ Some names → AreNames names word
unfolding names_of
names_are word names some e =
    let a = all_names_are (slice_split is_comma word) names e in
    let joins : join_with_byte 44 names ≡ word = ap (join_with_byte 44) (sym a.0) ∙ join_with_byte-slice_split 44 word in
    record {
      some = λ none. let zero : length word ≡ 0 = ap length (sym joins ∙ ap (join_with_byte 44) none) in omega (arith, zero, some);
      all = a.1;
      joins = joins;
    }

-- what a word was read as fits its place, and is printed in no more bytes
pub record Fine (token : Token) (word : List ℕ) : Type 0 where
  pub fits : FitsToken token
  pub short : length (printed token) ≤ length word

some_word : (word : List ℕ) → IsWord word → 0 < length word
some_word [] is = absurd is
some_word (b ∷ bytes) is = omega arith

no_names_of : names_of [] ≡ None
unfolding names_of word_name
no_names_of = refl

names_some : (word : List ℕ) (names : List (List ℕ)) → names_of word ≡ Some names → 0 < length word
names_some [] names e = let f = sym no_names_of ∙ e in absurd (cc)
names_some (b ∷ bytes) names e = omega arith

label_length : (label word : List ℕ) → word ≡ label ++ drop (length label) word → length word ≡ length label + length (drop (length label) word)
label_length label word e = ap length e ∙ length-append label (drop (length label) word)

pub fine : (token : Token) (word : List ℕ) → IsWord word → Spells token word → Fine token word
fine (Key key) word is e = record { fits = subst IsWord e is; short = let len = ap length e in omega (arith, len) }
fine (Named label name) word is e =
    let a = labelled_is label word_name word name e in
    let n = name_is (drop (length label) word) name a.1 in
    let len = ap length n.0 in
    record {
      fits = (label_visible label word is a.0, ap is_name (sym n.0) ∙ n.1);
      short = omega (arith, len, label_length label word a.0, length-append label name);
    }
fine (Number label n) word is e =
    let a = labelled_is label word_number word n e in
    let is_n = number_is (drop (length label) word) n a.1 in
    let short = is_n.short in
    record {
      fits = (label_visible label word is a.0, is_n.small);
      short = omega (arith, short, label_length label word a.0, length-append label (decimal n));
    }
fine (Hex n bytes) word is e =
    let long = decode_sized-ok word n bytes e in
    let ok = decode_of-ok word bytes (sym (decode_sized-twice word n long) ∙ e) in
    let twice = ok.2 in
    let some = some_word word is in
    record {
      fits = (omega (arith, long, twice), omega (arith, long, some), ok.3);
      short = omega (arith, twice, length-encode_with lower_digits bytes);
    }
fine (NameList label names) word is e =
    let a = labelled_is label names_of word names e in
    let are = names_are (drop (length label) word) names (names_some (drop (length label) word) names a.1) a.1 in
    let len = ap length are.joins in
    record {
      fits = (label_visible label word is a.0, are.some, are.all);
      short = omega (arith, len, label_length label word a.0, length-append label (join_with_byte 44 names));
    }

-- the same of a whole line
pub record AllFine (places : List Token) (words : List (List ℕ)) : Type 0 where
  pub fits : FitAll places
  pub short : length (spaced places) ≤ span words

pub all_fine : (places : List Token) (words : List (List ℕ)) → AllWords words → SpellAll places words → AllFine places words
all_fine [] [] are spells = record { fits = tt; short = omega arith }
all_fine [] (word ∷ words) are spells = absurd spells
all_fine (place ∷ places) [] are spells = absurd spells
all_fine (place ∷ places) (word ∷ words) are spells =
    let first = fine place word are.0 spells.0 in
    let rest = all_fine places words are.1 spells.1 in
    let one = first.short in
    let others = rest.short in
    record {
      fits = (first.fits, rest.fits);
      short = omega (arith, one, others, length-append (printed place) (spaced places));
    }

joined_short : (places : List Token) (n : ℕ) → length (spaced places) ≤ n + 1 → length (joined_words places) ≤ n
joined_short [] n short = omega arith
joined_short (place ∷ places) n short = omega (arith, short)

-- a line that was read is printed in no more bytes
pub printed_short : (places : List Token) (bytes : List ℕ) → SpellAll places (words_of bytes) → length (joined_words places) ≤ length bytes
printed_short places bytes spells =
    let a = all_fine places (words_of bytes) (words_are bytes) spells in
    let short = a.short in
    joined_short places (length bytes) (omega (arith, short, span_words bytes))

pub read_fits : (places : List Token) (bytes : List ℕ) → SpellAll places (words_of bytes) → FitAll places
read_fits places bytes spells = (all_fine places (words_of bytes) (words_are bytes) spells).fits
