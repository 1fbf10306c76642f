-- What is printed is read again.
use Rattle.std.proofs.Common.{◌≡◌, ℕ, ◌+◌, ◌-◌, ◌*◌, ◌/◌, ◌%◌, ◌<◌, ◌≤◌, ◌^◌, Bool, true, false, cond, List, [], ◌∷◌, ◌++◌, length, Some, None, Ok, ◌≢◌, refl, arith, ap, sym, subst, ◌∙◌, eqb, ltb, leb, get_or, length-append}
use Rattle.std.proofs.lemmas.Bool.{and_parts}
use Rattle.std.specs.Prelude.{◌&&◌}
use Rattle.std.specs.List.{list_all, join_with_byte, slice_split, All}
use Rattle.std.proofs.lemmas.List.Splits.{slice_split_none, slice_split_at}
use Rattle.std.specs.Fmt.{decimal}
use Rattle.std.proofs.lemmas.Fmt.{decimal_by_steps, length-decimal-le}
use Rattle.std.proofs.lemmas.List.Folds.{list_all-append}
use Rattle.std.proofs.lemmas.List.Sums.{AllPass-from_list_all}
use Rattle.vx_script.specs.Words.{is_digit, is_letter, is_name_byte, is_name, word_name, digits_after, is_number, word_number, is_visible, is_comma, both_names, all_names, names_of}
use Rattle.vx_script.specs.Grammar.{line_after_spaces, tokens, spelling}
use Rattle.vx_script.specs.Tokens.{Token, Key, Named, Number, Hex, NameList, Spells, SpellAll, words_of, before_word, is_in_word, printed, spaced, joined_words, IsWord, FitsToken, FitAll}
use Rattle.vx_script.specs.declared.line.ScriptLine.{ScriptLine}
use Rattle.vx_script.proofs.KindLemmas.{line_only}
use Rattle.vx_script.proofs.SpellLemmas.{word_from, word_cons, visible, labelled_again, hex_word, hex_again, cond_true}

cond_false : {A : Type 0} (t : Bool) (x y : A) → t ≡ false → cond t x y ≡ y
cond_false t x y e = ap (λ (b : Bool). cond b x y) e

goes : (c : ℕ) (bytes : List ℕ) → IsWord (c ∷ bytes) → cond (eqb c 32) false true ≡ true
goes c [] is = cond_false (eqb c 32) false true is
goes c (d ∷ bytes) is = cond_false (eqb c 32) false true is.0

-- a word and then a space, or nothing
words_of_word : (word rest : List ℕ) → IsWord word → is_in_word rest ≡ false → words_of (word ++ rest) ≡ word ∷ words_of rest
words_of_word [] rest is ends = absurd is
words_of_word (b ∷ []) rest is ends =
    cond_false (eqb b 32) (words_of rest) (before_word b (is_in_word rest) (words_of rest)) is ∙ ap (λ (t : Bool). before_word b t (words_of rest)) ends
words_of_word (b ∷ c ∷ bytes) rest is ends =
    cond_false (eqb b 32) (words_of (c ∷ bytes ++ rest)) (before_word b (is_in_word (c ∷ bytes ++ rest)) (words_of (c ∷ bytes ++ rest))) is.0
    ∙ ap (λ (t : Bool). before_word b t (words_of (c ∷ bytes ++ rest))) (goes c bytes is.1)
    ∙ ap (before_word b true) (words_of_word (c ∷ bytes) rest is.1 ends)

spaced_ends : (places : List Token) → is_in_word (spaced places) ≡ false
spaced_ends [] = refl
spaced_ends (place ∷ places) = refl

digits_after_push : (n : ℕ) (ds : List ℕ) (d : ℕ) → digits_after n (ds ++ d ∷ []) ≡ 10 * digits_after n ds + (d - 48)
digits_after_push n [] d = refl
digits_after_push n (c ∷ ds) d = digits_after_push (10 * n + (c - 48)) ds d

record IsDecimal (n : ℕ) (ds : List ℕ) : Type 0 where
  value : digits_after 0 ds ≡ n
  digits : list_all is_digit ds ≡ true
  some : 0 < length ds

one_digit : (n : ℕ) → n < 10 → IsDecimal n ((48 + n) ∷ [])
one_digit n small = record { value = omega arith; digits = grind arith; some = omega arith }

more_digits : (n : ℕ) (ds : List ℕ) → 10 ≤ n → IsDecimal (n / 10) ds → IsDecimal n (ds ++ (48 + n % 10) ∷ [])
more_digits n ds big is =
    record {
      value = digits_after_push 0 ds (48 + n % 10) ∙ let h = is.value in omega arith;
      digits = let last : list_all is_digit ((48 + n % 10) ∷ []) ≡ true = grind arith in
          list_all-append is_digit ds ((48 + n % 10) ∷ []) ∙ ap (λ (t : Bool). t && list_all is_digit ((48 + n % 10) ∷ [])) is.digits ∙ last;
      some = omega (arith, length-append ds ((48 + n % 10) ∷ []));
    }

decimal_is : (n : ℕ) → n < 2 ^ 64 → IsDecimal n (decimal n)
decimal_is n fits = decimal_by_steps IsDecimal one_digit more_digits n fits

digit_apart : (b : ℕ) → is_digit b ≡ true → eqb b 32 ≡ false
digit_apart b e = grind arith

name_apart : (b : ℕ) → is_name_byte b ≡ true → eqb b 32 ≡ false
name_apart b e = grind arith

number_is : (word : List ℕ) (n : ℕ) → digits_after 0 word ≡ n → list_all is_digit word ≡ true → 0 < length word → length word ≤ 20 → n < 2 ^ 64 → word_number word ≡ Some n
unfolding word_number
number_is word n value digits some short fits =
    let test : is_number word ≡ true = grind arith in
    cond_true (is_number word) (Some (digits_after 0 word)) None test ∙ ap (λ (k : ℕ). Some k) value

decimal_number : (n : ℕ) → n < 2 ^ 64 → word_number (decimal n) ≡ Some n
decimal_number n fits =
    let is = decimal_is n fits in
    let short : length (decimal n) ≤ 20 = length-decimal-le 20 n (omega arith) (omega arith) fits in
    number_is (decimal n) n is.value is.digits is.some short fits

name_again : (name : List ℕ) → is_name name ≡ true → word_name name ≡ Some name
unfolding word_name
name_again name e = cond_true (is_name name) (Some name) None e

name_bytes : (name : List ℕ) → is_name name ≡ true → list_all is_name_byte name ≡ true
name_bytes name e = (and_parts (ltb 0 (length name) && leb (length name) 8 && is_letter (get_or name 0 0)) (list_all is_name_byte name) e).1

name_word : (name : List ℕ) → is_name name ≡ true → IsWord name
name_word name e =
    let a = and_parts (ltb 0 (length name) && leb (length name) 8 && is_letter (get_or name 0 0)) (list_all is_name_byte name) e in
    let b = and_parts (ltb 0 (length name) && leb (length name) 8) (is_letter (get_or name 0 0)) a.0 in
    let c = and_parts (ltb 0 (length name)) (leb (length name) 8) b.0 in
    word_from is_name_byte name_apart name (grind arith) a.1

-- a label before a word
label_word : (label word : List ℕ) → list_all is_visible label ≡ true → IsWord word → IsWord (label ++ word)
label_word [] word all is = is
label_word (b ∷ label) word all is =
    let a = and_parts (is_visible b) (list_all is_visible label) all in
    word_cons b (label ++ word) (visible b a.0) (label_word label word a.1 is)

-- names with commas between are a word, and are read again
word_append : (a b : List ℕ) → IsWord a → IsWord b → IsWord (a ++ b)
word_append [] b x y = absurd x
word_append (c ∷ []) b x y = word_cons c b x y
word_append (c ∷ d ∷ a) b x y = word_cons c (d ∷ a ++ b) x.0 (word_append (d ∷ a) b x.1 y)

names_word : (names : List (List ℕ)) → names ≢ [] → list_all is_name names ≡ true → IsWord (join_with_byte 44 names)
names_word [] some all = absurd (some refl)
names_word (name ∷ []) some all = name_word name (and_parts (is_name name) true all).0
names_word (name ∷ next ∷ names) some all =
    let a = and_parts (is_name name) (list_all is_name (next ∷ names)) all in
    let more : next ∷ names ≢ [] = λ e. cc in
    word_append name (44 ∷ join_with_byte 44 (next ∷ names)) (name_word name a.0) (word_cons 44 (join_with_byte 44 (next ∷ names)) refl (names_word (next ∷ names) more a.1))

name_comma : (b : ℕ) → is_name_byte b ≡ true → is_comma b ≡ false
name_comma b e = grind arith

no_comma : (word : List ℕ) → list_all is_name_byte word ≡ true → All (λ b. is_comma b ≡ false) word
no_comma word all = λ k d h. name_comma (get_or word k d) (AllPass-from_list_all is_name_byte word all k d h)

names_again : (names : List (List ℕ)) → names ≢ [] → list_all is_name names ≡ true → names_of (join_with_byte 44 names) ≡ Some names
unfolding names_of
names_again [] some all = absurd (some refl)
names_again (name ∷ []) some all =
    let a = (and_parts (is_name name) true all).0 in
    ap all_names (slice_split_none is_comma name (no_comma name (name_bytes name a))) ∙ ap (λ o. both_names o (Some [])) (name_again name a)
names_again (name ∷ next ∷ names) some all =
    let a = and_parts (is_name name) (list_all is_name (next ∷ names)) all in
    let more : next ∷ names ≢ [] = λ e. cc in
    ap all_names (slice_split_at is_comma name 44 (join_with_byte 44 (next ∷ names)) (no_comma name (name_bytes name a.0)) refl)
    ∙ ap (λ o. both_names o (all_names (slice_split is_comma (join_with_byte 44 (next ∷ names))))) (name_again name a.0)
    ∙ ap (both_names (Some name)) (names_again (next ∷ names) more a.1)

-- each place is printed as a word that spells it
printed_word : (place : Token) → FitsToken place → IsWord (printed place)
printed_word (Key key) fits = fits
printed_word (Named label name) fits = label_word label name fits.0 (name_word name fits.1)
printed_word (Number label n) fits = let is = decimal_is n fits.1 in label_word label (decimal n) fits.0 (word_from is_digit digit_apart (decimal n) is.some is.digits)
printed_word (Hex n bytes) fits = hex_word bytes (let e = fits.0 in let f = fits.1 in omega (arith, e, f)) fits.2
printed_word (NameList label names) fits = label_word label (join_with_byte 44 names) fits.0 (names_word names fits.1 fits.2)

printed_spells : (place : Token) → FitsToken place → Spells place (printed place)
printed_spells (Key key) fits = refl
printed_spells (Named label name) fits = labelled_again label word_name name ∙ name_again name fits.1
printed_spells (Number label n) fits = labelled_again label word_number (decimal n) ∙ decimal_number n fits.1
printed_spells (Hex n bytes) fits = hex_again n bytes fits.0 fits.2
printed_spells (NameList label names) fits = labelled_again label names_of (join_with_byte 44 names) ∙ names_again names fits.1 fits.2

spaced_spells : (places : List Token) → FitAll places → SpellAll places (words_of (spaced places))
spaced_spells [] fits = tt
spaced_spells (place ∷ places) fits =
    subst (SpellAll (place ∷ places)) (sym (words_of_word (printed place) (spaced places) (printed_word place fits.0) (spaced_ends places)))
    (printed_spells place fits.0, spaced_spells places fits.1)

joined_spells : (places : List Token) → FitAll places → SpellAll places (words_of (joined_words places))
joined_spells [] fits = tt
joined_spells (place ∷ places) fits =
    subst (SpellAll (place ∷ places)) (sym (words_of_word (printed place) (spaced places) (printed_word place fits.0) (spaced_ends places)))
    (printed_spells place fits.0, spaced_spells places fits.1)

-- what is printed is read again
pub spelling_again : (line : ScriptLine) → FitAll (tokens line) → line_after_spaces (spelling line) ≡ Ok (Some line)
spelling_again line fits = line_only (spelling line) line (joined_spells (tokens line) fits)
