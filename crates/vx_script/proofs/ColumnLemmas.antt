-- Where a line is wrong: the words before that place begin a line, and with the word there they do not.
use Rattle.std.proofs.Common.{◌≡◌, ℕ, zero, suc, ◌+◌, ◌-◌, ◌<◌, Bool, true, false, cond, ltb, List, [], ◌∷◌, ◌++◌, length, replicate, Option, Some, None, Ok, Err, refl, arith, ap, sym, subst, ◌∙◌, eqb, inl, inr, ⊎_elim, append_assoc, length-append}
use Rattle.std.specs.Prelude.{◌⊎◌}
use Rattle.std.specs.List.{list_all}
use Rattle.std.proofs.Math.Dec.{eqb-suc-zero}
use Rattle.std.proofs.lemmas.Bool.{cases_Bool, ltb-true}
use Rattle.vx_script.specs.Words.{WordReading, and_then, placed, is_visible, after_spaces, word_of, after_word}
use Rattle.vx_script.specs.Tokens.{Token, Key, is_in_word}
use Rattle.vx_script.specs.Keywords.{keyword_text, keyword_of}
use Rattle.vx_script.specs.Formats.{Place, Format, Done, Then, read_by, ended, format_of, end_format}
use Rattle.vx_script.specs.Grammar.{line_of, line_after_spaces, line_by, line_of_keyword, some_line, is_silent, at_column}
use Rattle.vx_script.specs.Columns.{BeginsLine, IsApart, IsWrongWord, WrongAt}
use Rattle.vx_script.specs.declared.keyword.Keyword.{Keyword}
use Rattle.vx_script.specs.declared.keyword.Keyword.TheVariants.{End as EndKey}
use Rattle.vx_script.specs.declared.line.ScriptLine.{ScriptLine}
use Rattle.vx_script.specs.declared.line.ScriptLine.TheVariants.{End}
use Rattle.vx_script.proofs.FormatLemmas.{Faithful}
use Rattle.vx_script.proofs.KindLemmas.{faithful, line_only, line_found, some_is}
use Rattle.vx_script.proofs.SpotLemmas.{after_led, after_kept, word_then, tail_then, Blank, At, spot}

-- reading skips spaces
read_led : (f : Format) (n : ℕ) (bytes : List ℕ) → read_by f (replicate n 32 ++ bytes) ≡ read_by f bytes
read_led (Done line) n bytes = ap (λ (t : List ℕ). ended line (cond (eqb (length t) 0) (Ok tt) (Err (length t)))) (after_led n bytes)
read_led (Then {V} place more) n bytes = ap (λ (t : List ℕ). and_then (placed (place.value (word_of t)) t) (λ (x : V × List ℕ). read_by (more x.0) x.1)) (after_led n bytes)

-- reading takes a word
read_word : {V : Type 0} (place : Place V) (more : V → Format) (word tail : List ℕ) → list_all is_visible word ≡ true → 0 < length word → is_in_word tail ≡ false
    → read_by (Then place more) (word ++ tail) ≡ and_then (placed (place.value word) (word ++ tail)) (λ (x : V × List ℕ). read_by (more x.0) x.1)
read_word {V} place more word tail shown some ends =
    ap (λ (t : List ℕ). and_then (placed (place.value (word_of t)) t) (λ (x : V × List ℕ). read_by (more x.0) x.1)) (after_kept word tail shown some)
    ∙ ap (λ (w : List ℕ). and_then (placed (place.value w) (word ++ tail)) (λ (x : V × List ℕ). read_by (more x.0) x.1)) (word_then word tail shown ends)

read_some : {V : Type 0} (place : Place V) (more : V → Format) (word tail : List ℕ) (x : V) → list_all is_visible word ≡ true → 0 < length word → is_in_word tail ≡ false
    → place.value word ≡ Some x → read_by (Then place more) (word ++ tail) ≡ read_by (more x) tail
read_some {V} place more word tail x shown some ends e =
    read_word place more word tail shown some ends
    ∙ ap (λ (o : Option V). and_then (placed o (word ++ tail)) (λ (y : V × List ℕ). read_by (more y.0) y.1)) e
    ∙ ap (λ (t : List ℕ). read_by (more x) t) (tail_then word tail shown ends)

read_none : {V : Type 0} (place : Place V) (more : V → Format) (word tail : List ℕ) → list_all is_visible word ≡ true → 0 < length word → is_in_word tail ≡ false
    → place.value word ≡ None → read_by (Then place more) (word ++ tail) ≡ Err (length (word ++ tail))
read_none {V} place more word tail shown some ends e =
    read_word place more word tail shown some ends
    ∙ ap (λ (o : Option V). and_then (placed o (word ++ tail)) (λ (y : V × List ℕ). read_by (more y.0) y.1)) e

read_done : (line : ScriptLine) (word tail : List ℕ) → list_all is_visible word ≡ true → 0 < length word → read_by (Done line) (word ++ tail) ≡ Err (length (word ++ tail))
read_done line [] tail shown some = absurd (omega arith)
read_done line (b ∷ word) tail shown some =
    ap (λ (t : List ℕ). ended line (cond (eqb (length t) 0) (Ok tt) (Err (length t)))) (after_kept (b ∷ word) tail shown some)
    ∙ ap (λ (t : Bool). ended line (cond t (Ok tt) (Err (length (b ∷ word ++ tail))))) (eqb-suc-zero (length (word ++ tail)))

-- what a place takes is a word
word_some : {V : Type 0} (place : Place V) (word : List ℕ) (x : V) → place.value [] ≡ None → place.value word ≡ Some x → 0 < length word
word_some place [] x none e = let f = sym none ∙ e in absurd (cc)
word_some place (b ∷ word) x none e = omega arith

-- a line that these bytes begin, with a space and something behind them
record Goes (f : Format) (front : List ℕ) : Type 0 where
  rest : List ℕ
  line : ScriptLine
  is : read_by f (front ++ 32 ∷ rest) ≡ Ok line

-- each format goes on
completes : (f : Format) (before : List Token → List Token) → Faithful f before → Goes f []
completes (Done line) before is = record { rest = []; line = line; is = refl }
completes (Then {V} place more) before is =
    let p = is.0 in
    let c = completes (more p.sample) (λ ts. before (place.token p.sample ∷ ts)) (is.1 p.sample) in
    record {
      rest = p.word ++ 32 ∷ c.rest;
      line = c.line;
      is = read_led (Then place more) 1 (p.word ++ 32 ∷ c.rest)
          ∙ read_some place more p.word (32 ∷ c.rest) p.sample p.shown (word_some place p.word p.sample p.empty p.fits) refl p.fits
          ∙ c.is;
    }

goes_led : (f : Format) (n : ℕ) → Goes f [] → Goes f (replicate n 32)
goes_led f n goes = record { rest = goes.rest; line = goes.line; is = read_led f n (32 ∷ goes.rest) ∙ goes.is }

-- a word at which a format stops
record StopsAt (f : Format) (front here : List ℕ) : Type 0 where
  last : (bytes : List ℕ) × (front ≡ bytes ++ 32 ∷ [])
  word : is_in_word here ≡ true
  spaced : (more : List ℕ) → is_in_word (front ++ more) ≡ false
  stops : (rest : List ℕ) (line : ScriptLine) → read_by f (front ++ (word_of here ++ 32 ∷ rest)) ≡ Ok line → ⊥

-- where a format stops
record Stop (f : Format) (bytes : List ℕ) (left : ℕ) : Type 0 where
  front : List ℕ
  here : List ℕ
  split : bytes ≡ front ++ here
  place : left ≡ length here
  goes : Goes f front
  spaced : (more : List ℕ) → is_in_word (front ++ 32 ∷ more) ≡ false
  stop : StopsAt f front here ⊎ (here ≡ [])

spaces_spaced : (n : ℕ) (more : List ℕ) → is_in_word (replicate n 32 ++ 32 ∷ more) ≡ false
spaces_spaced zero more = refl
spaces_spaced (suc n) more = refl

last_space : (n : ℕ) → replicate {A = ℕ} (suc n) 32 ≡ replicate n 32 ++ 32 ∷ []
last_space zero = refl
last_space (suc n) = ap (λ (l : List ℕ). 32 ∷ l) (last_space n)

word_in : (word tail : List ℕ) → list_all is_visible word ≡ true → 0 < length word → is_in_word (word ++ tail) ≡ true
word_in [] tail shown some = absurd (omega arith)
word_in (b ∷ word) tail shown some = grind (arith, shown)

-- spaces before a word, where none of it is at the front
some_spaces : (n : ℕ) (word tail : List ℕ) → list_all is_visible word ≡ true → 0 < length word → is_in_word (replicate n 32 ++ (word ++ tail)) ≡ false → (m : ℕ) × (n ≡ suc m)
some_spaces zero word tail shown some e = let f : true ≡ false = sym (word_in word tail shown some) ∙ e in absurd (cc)
some_spaces (suc m) word tail shown some e = (m, refl)

err_same : {A : Type 0} (a b : ℕ) (r : WordReading A) → r ≡ Err a → r ≡ Err b → a ≡ b
err_same a b r p q = cc

not_both : {A : Type 0} (left : ℕ) (x : A) (r : WordReading A) → r ≡ Err left → r ≡ Ok x → ⊥
not_both left x r p q = absurd (cc)

-- a format that stops at the word that follows spaces
stop_word : (f : Format) (before : List Token → List Token) → Faithful f before → (m : ℕ) (word tail : List ℕ) (left : ℕ) → list_all is_visible word ≡ true → 0 < length word → is_in_word tail ≡ false
    → ((more : List ℕ) → is_in_word more ≡ false → read_by f (word ++ more) ≡ Err (length (word ++ more))) → left ≡ length (word ++ tail) → Stop f (replicate (suc m) 32 ++ (word ++ tail)) left
stop_word f before is m word tail left shown some ends wrong place =
    record {
      front = replicate (suc m) 32;
      here = word ++ tail;
      split = refl;
      place = place;
      goes = goes_led f (suc m) (completes f before is);
      spaced = λ more. refl;
      stop = inl (record {
        last = (replicate m 32, last_space m);
        word = word_in word tail shown some;
        spaced = λ more. refl;
        stops = λ rest line e.
            let same : read_by f (replicate (suc m) 32 ++ (word_of (word ++ tail) ++ 32 ∷ rest)) ≡ Err (length (word ++ 32 ∷ rest)) =
            ap (λ (w : List ℕ). read_by f (replicate (suc m) 32 ++ (w ++ 32 ∷ rest))) (word_then word tail shown ends) ∙ read_led f (suc m) (word ++ 32 ∷ rest) ∙ wrong (32 ∷ rest) refl in
            not_both (length (word ++ 32 ∷ rest)) line _ same e;
      });
    }

join3 : (a b c d : List ℕ) → (a ++ (b ++ c)) ++ d ≡ a ++ (b ++ (c ++ d))
join3 a b c d = append_assoc a (b ++ c) d ∙ ap (λ (t : List ℕ). a ++ t) (append_assoc b c d)

spaced_join : (n : ℕ) (word c d : List ℕ) → (m : ℕ) × (n ≡ suc m) → is_in_word ((replicate n 32 ++ (word ++ c)) ++ d) ≡ false
spaced_join zero word c d e = let f = e.1 in absurd (cc)
spaced_join (suc n) word c d e = refl

-- a format that takes a word, and stops behind it
stop_behind : {V : Type 0} (place : Place V) (more : V → Format) (n : ℕ) (word tail : List ℕ) (x : V) (left : ℕ) → list_all is_visible word ≡ true → 0 < length word
    → (m : ℕ) × (n ≡ suc m) → place.value word ≡ Some x → Stop (more x) tail left → Stop (Then place more) (replicate n 32 ++ (word ++ tail)) left
stop_behind {V} place more n word tail x left shown some led fits below =
    let through : (rest : List ℕ) → is_in_word (below.front ++ rest) ≡ false → read_by (Then place more) ((replicate n 32 ++ (word ++ below.front)) ++ rest) ≡ read_by (more x) (below.front ++ rest) =
    λ rest ends. ap (read_by (Then place more)) (join3 (replicate n 32) word below.front rest) ∙ read_led (Then place more) n (word ++ (below.front ++ rest)) ∙ read_some place more word (below.front ++ rest) x shown some ends fits in
    record {
      front = replicate n 32 ++ (word ++ below.front);
      here = below.here;
      split = ap (λ (t : List ℕ). replicate n 32 ++ (word ++ t)) below.split ∙ sym (join3 (replicate n 32) word below.front below.here);
      place = below.place;
      goes = record { rest = below.goes.rest; line = below.goes.line; is = through (32 ∷ below.goes.rest) (below.spaced below.goes.rest) ∙ below.goes.is };
      spaced = λ rest. spaced_join n word below.front (32 ∷ rest) led;
      stop = ⊎_elim
          (λ (s : StopsAt (more x) below.front below.here). inl (record {
            last = (replicate n 32 ++ (word ++ s.last.0), ap (λ (t : List ℕ). replicate n 32 ++ (word ++ t)) s.last.1 ∙ sym (join3 (replicate n 32) word s.last.0 (32 ∷ [])));
            word = s.word;
            spaced = λ rest. spaced_join n word below.front rest led;
            stops = λ rest line e. s.stops rest line (sym (through (word_of below.here ++ 32 ∷ rest) (s.spaced (word_of below.here ++ 32 ∷ rest))) ∙ e);
          }))
          (λ (e : below.here ≡ []). inr e) below.stop;
    }

append_none : (bytes : List ℕ) → bytes ++ [] ≡ bytes
append_none [] = refl
append_none (b ∷ bytes) = ap (λ (l : List ℕ). b ∷ l) (append_none bytes)

-- a format that stops where nothing follows
stop_blank : (f : Format) (before : List Token → List Token) → Faithful f before → (n : ℕ) (left : ℕ) → left ≡ 0 → Stop f (replicate n 32) left
stop_blank f before is n left none =
    record {
      front = replicate n 32;
      here = [];
      split = sym (append_none (replicate n 32));
      place = none;
      goes = goes_led f n (completes f before is);
      spaced = spaces_spaced n;
      stop = inr refl;
    }

either_value : {V : Type 0} (o : Option V) → (o ≡ None) ⊎ ((x : V) × (o ≡ Some x))
either_value None = inl refl
either_value (Some x) = inr (x, refl)

done_blank : (line : ScriptLine) (n : ℕ) → read_by (Done line) (replicate n 32) ≡ Ok line
done_blank line zero = refl
done_blank line (suc n) = read_led (Done line) 1 (replicate n 32) ∙ done_blank line n

then_blank : {V : Type 0} (place : Place V) (more : V → Format) (n : ℕ) → place.value [] ≡ None → read_by (Then place more) (replicate n 32) ≡ Err 0
then_blank {V} place more zero none = ap (λ (o : Option V). and_then (placed o []) (λ (y : V × List ℕ). read_by (more y.0) y.1)) none
then_blank place more (suc n) none = read_led (Then place more) 1 (replicate n 32) ∙ then_blank place more n none

-- a format that does not give a line stops somewhere
stop_is : (f : Format) (before : List Token → List Token) (bytes : List ℕ) (left : ℕ) → Faithful f before → is_in_word bytes ≡ false → read_by f bytes ≡ Err left → Stop f bytes left
stop_is (Done line) before bytes left is spaced e = ⊎_elim
    (λ (blank : Blank bytes). absurd (not_both left line (read_by (Done line) bytes) e (ap (read_by (Done line)) blank.is ∙ done_blank line blank.count)))
    (λ (a : At bytes).
    let led = some_spaces a.count a.word a.tail a.shown a.some (sym (ap is_in_word a.is) ∙ spaced) in
    let form : bytes ≡ replicate (suc led.0) 32 ++ (a.word ++ a.tail) = a.is ∙ ap (λ (n : ℕ). replicate n 32 ++ (a.word ++ a.tail)) led.1 in
    let wrong : read_by (Done line) bytes ≡ Err (length (a.word ++ a.tail)) = ap (read_by (Done line)) form ∙ read_led (Done line) (suc led.0) (a.word ++ a.tail) ∙ read_done line a.word a.tail a.shown a.some in
    subst (λ (t : List ℕ). Stop (Done line) t left) (sym form)
    (stop_word (Done line) before is led.0 a.word a.tail left a.shown a.some a.ends (λ more ends. read_done line a.word more a.shown a.some) (err_same left (length (a.word ++ a.tail)) (read_by (Done line) bytes) e wrong)))
    (spot bytes)
stop_is (Then {V} place more) before bytes left is spaced e = ⊎_elim
    (λ (blank : Blank bytes).
    let none : read_by (Then place more) bytes ≡ Err 0 = ap (read_by (Then place more)) blank.is ∙ then_blank place more blank.count is.0.empty in
    subst (λ (t : List ℕ). Stop (Then place more) t left) (sym blank.is) (stop_blank (Then place more) before is blank.count left (err_same left 0 (read_by (Then place more) bytes) e none)))
    (λ (a : At bytes).
    let led = some_spaces a.count a.word a.tail a.shown a.some (sym (ap is_in_word a.is) ∙ spaced) in
    let form : bytes ≡ replicate (suc led.0) 32 ++ (a.word ++ a.tail) = a.is ∙ ap (λ (n : ℕ). replicate n 32 ++ (a.word ++ a.tail)) led.1 in
    let taken : read_by (Then place more) bytes ≡ read_by (Then place more) (a.word ++ a.tail) = ap (read_by (Then place more)) form ∙ read_led (Then place more) (suc led.0) (a.word ++ a.tail) in
    subst (λ (t : List ℕ). Stop (Then place more) t left) (sym form) (⊎_elim
    (λ (none : place.value a.word ≡ None).
    stop_word (Then place more) before is led.0 a.word a.tail left a.shown a.some a.ends (λ rest ends. read_none place more a.word rest a.shown a.some ends none)
    (err_same left (length (a.word ++ a.tail)) (read_by (Then place more) bytes) e (taken ∙ read_none place more a.word a.tail a.shown a.some a.ends none)))
    (λ (fits : (x : V) × (place.value a.word ≡ Some x)).
    stop_behind place more (suc led.0) a.word a.tail fits.0 left a.shown a.some (led.0, refl) fits.1
    (stop_is (more fits.0) (λ ts. before (place.token fits.0 ∷ ts)) a.tail left (is.1 fits.0) a.ends (sym (taken ∙ read_some place more a.word a.tail fits.0 a.shown a.some a.ends fits.1) ∙ e)))
    (either_value (place.value a.word))))
    (spot bytes)

-- a line behind its first word
line_behind : (n : ℕ) (word tail : List ℕ) → list_all is_visible word ≡ true → 0 < length word → is_in_word tail ≡ false
    → line_after_spaces (replicate n 32 ++ (word ++ tail)) ≡ line_by word tail (length (word ++ tail))
unfolding line_after_spaces
line_behind n word tail shown some ends =
    ap (λ (t : List ℕ). line_by (word_of t) (after_word t) (length t)) (after_led n (word ++ tail) ∙ after_kept word tail shown some)
    ∙ ap (λ (w : List ℕ). line_by w (after_word (word ++ tail)) (length (word ++ tail))) (word_then word tail shown ends)
    ∙ ap (λ (t : List ℕ). line_by word t (length (word ++ tail))) (tail_then word tail shown ends)

line_blank : (n : ℕ) → line_after_spaces (replicate n 32) ≡ Ok None
unfolding line_after_spaces line_by
line_blank n = ap (λ (t : List ℕ). line_by (word_of t) (after_word t) (length t)) (ap after_spaces (sym (append_none (replicate n 32))) ∙ after_led n [])

-- the words that begin no line
record NoKeyword (word : List ℕ) : Type 0 where
  is : (tail : List ℕ) (left : ℕ) → line_by word tail left ≡ Err left

-- the words that begin lines of a kind
record OfKeyword (word : List ℕ) : Type 0 where
  keyword : Keyword
  is : (tail : List ℕ) (left : ℕ) → line_by word tail left ≡ some_line (read_by (format_of keyword) tail)

either_keyword : (o : Option Keyword) → (o ≡ None) ⊎ ((k : Keyword) × (o ≡ Some k))
either_keyword None = inl refl
either_keyword (Some k) = inr (k, refl)

loud_word : (word : List ℕ) → is_silent word ≡ false → NoKeyword word ⊎ OfKeyword word
unfolding line_by
loud_word word loud = ⊎_elim
    (λ (none : keyword_of word ≡ None). inl (record {
      is = λ tail left. ap (λ (b : Bool). cond b (Ok None) (line_of_keyword (keyword_of word) tail left)) loud ∙ ap (λ (o : Option Keyword). line_of_keyword o tail left) none;
    }))
    (λ (some : (k : Keyword) × (keyword_of word ≡ Some k)). inr (record {
      keyword = some.0;
      is = λ tail left. ap (λ (b : Bool). cond b (Ok None) (line_of_keyword (keyword_of word) tail left)) loud ∙ ap (λ (o : Option Keyword). line_of_keyword o tail left) some.1;
    }))
    (either_keyword (keyword_of word))

pub silent_word : (word tail : List ℕ) (left : ℕ) → is_silent word ≡ true → line_by word tail left ≡ Ok None
unfolding line_by
silent_word word tail left e = ap (λ (b : Bool). cond b (Ok None) (line_of_keyword (keyword_of word) tail left)) e

some_err : (r : WordReading ScriptLine) (left : ℕ) → some_line r ≡ Err left → r ≡ Err left
some_err (Ok l) left e = absurd (cc)
some_err (Err n) left e = let same : n ≡ left = cc in ap (λ (k : ℕ). Err k) same

-- a line that is not read stops somewhere
record LineStop (bytes : List ℕ) (left : ℕ) : Type 0 where
  front : List ℕ
  here : List ℕ
  split : bytes ≡ front ++ here
  place : left ≡ length here
  begins : BeginsLine front
  wrong : IsWrongWord front here ⊎ (here ≡ [])

end_alone : line_by (word_of (after_spaces (32 ∷ keyword_text EndKey))) (after_word (after_spaces (32 ∷ keyword_text EndKey))) (length (after_spaces (32 ∷ keyword_text EndKey))) ≡ Ok (Some End)
unfolding line_by keyword_of end_format
end_alone = refl

end_begins : (n : ℕ) → line_after_spaces (replicate n 32 ++ 32 ∷ keyword_text EndKey) ≡ Ok (Some End)
unfolding line_after_spaces line_by
end_begins n = ap (λ (t : List ℕ). line_by (word_of t) (after_word t) (length t)) (after_led n (32 ∷ keyword_text EndKey)) ∙ end_alone

spaces_apart : (n : ℕ) → IsApart (replicate n 32)
spaces_apart zero = inl refl
spaces_apart (suc n) = inr (replicate n 32, last_space n)

-- a first word that is no keyword
line_unknown : (n : ℕ) (word tail : List ℕ) (left : ℕ) → list_all is_visible word ≡ true → 0 < length word → is_in_word tail ≡ false → NoKeyword word
    → line_after_spaces (replicate n 32 ++ (word ++ tail)) ≡ Err left → LineStop (replicate n 32 ++ (word ++ tail)) left
line_unknown n word tail left shown some ends none e =
    record {
      front = replicate n 32;
      here = word ++ tail;
      split = refl;
      place = err_same left (length (word ++ tail)) (line_after_spaces (replicate n 32 ++ (word ++ tail))) e (line_behind n word tail shown some ends ∙ none.is tail (length (word ++ tail)));
      begins = (keyword_text EndKey, End, line_found (replicate n 32 ++ 32 ∷ keyword_text EndKey) End (end_begins n));
      wrong = inl (record {
        apart = spaces_apart n;
        word = word_in word tail shown some;
        stops = λ b.
            let w : word_of (word ++ tail) ≡ word = word_then word tail shown ends in
            let form : (replicate n 32 ++ word_of (word ++ tail)) ++ 32 ∷ b.0 ≡ replicate n 32 ++ (word ++ 32 ∷ b.0) = ap (λ (v : List ℕ). (replicate n 32 ++ v) ++ 32 ∷ b.0) w ∙ append_assoc (replicate n 32) word (32 ∷ b.0) in
            let read_it : line_after_spaces ((replicate n 32 ++ word_of (word ++ tail)) ++ 32 ∷ b.0) ≡ Ok (Some b.1) = line_only ((replicate n 32 ++ word_of (word ++ tail)) ++ 32 ∷ b.0) b.1 b.2 in
            let wrong : line_after_spaces ((replicate n 32 ++ word_of (word ++ tail)) ++ 32 ∷ b.0) ≡ Err (length (word ++ 32 ∷ b.0)) = ap line_after_spaces form ∙ line_behind n word (32 ∷ b.0) shown some refl ∙ none.is (32 ∷ b.0) (length (word ++ 32 ∷ b.0)) in
            not_both (length (word ++ 32 ∷ b.0)) (Some b.1) (line_after_spaces ((replicate n 32 ++ word_of (word ++ tail)) ++ 32 ∷ b.0)) wrong read_it;
      });
    }

-- a line of a known kind
line_known : (n : ℕ) (word tail : List ℕ) (left : ℕ) → list_all is_visible word ≡ true → 0 < length word → is_in_word tail ≡ false → OfKeyword word
    → line_after_spaces (replicate n 32 ++ (word ++ tail)) ≡ Err left → LineStop (replicate n 32 ++ (word ++ tail)) left
line_known n word tail left shown some ends of e =
    let f : Format = format_of of.keyword in
    let wrong : read_by f tail ≡ Err left = some_err (read_by f tail) left (sym (line_behind n word tail shown some ends ∙ of.is tail (length (word ++ tail))) ∙ e) in
    let s : Stop f tail left = stop_is f (λ ts. Key (keyword_text of.keyword) ∷ ts) tail left (faithful of.keyword) ends wrong in
    let through : (rest : List ℕ) → is_in_word (s.front ++ rest) ≡ false → line_after_spaces ((replicate n 32 ++ (word ++ s.front)) ++ rest) ≡ some_line (read_by f (s.front ++ rest)) =
    λ rest spaced. ap line_after_spaces (join3 (replicate n 32) word s.front rest) ∙ line_behind n word (s.front ++ rest) shown some spaced ∙ of.is (s.front ++ rest) (length (word ++ (s.front ++ rest))) in
    let front : List ℕ = replicate n 32 ++ (word ++ s.front) in
    record {
      front = front;
      here = s.here;
      split = ap (λ (t : List ℕ). replicate n 32 ++ (word ++ t)) s.split ∙ sym (join3 (replicate n 32) word s.front s.here);
      place = s.place;
      begins = (s.goes.rest, s.goes.line, line_found (front ++ 32 ∷ s.goes.rest) s.goes.line (through (32 ∷ s.goes.rest) (s.spaced s.goes.rest) ∙ ap some_line s.goes.is));
      wrong = ⊎_elim
          (λ (at_ : StopsAt f s.front s.here). inl (record {
            apart = inr (replicate n 32 ++ (word ++ at_.last.0), ap (λ (t : List ℕ). replicate n 32 ++ (word ++ t)) at_.last.1 ∙ sym (join3 (replicate n 32) word at_.last.0 (32 ∷ [])));
            word = at_.word;
            stops = λ b.
                let form : (front ++ word_of s.here) ++ 32 ∷ b.0 ≡ front ++ (word_of s.here ++ 32 ∷ b.0) = append_assoc front (word_of s.here) (32 ∷ b.0) in
                let read_it : line_after_spaces (front ++ (word_of s.here ++ 32 ∷ b.0)) ≡ Ok (Some b.1) = sym (ap line_after_spaces form) ∙ line_only ((front ++ word_of s.here) ++ 32 ∷ b.0) b.1 b.2 in
                at_.stops b.0 b.1 (some_is (read_by f (s.front ++ (word_of s.here ++ 32 ∷ b.0))) b.1 (sym (through (word_of s.here ++ 32 ∷ b.0) (at_.spaced (word_of s.here ++ 32 ∷ b.0))) ∙ read_it));
          }))
          (λ (none : s.here ≡ []). inr none) s.stop;
    }

line_stops : (bytes : List ℕ) (left : ℕ) → line_after_spaces bytes ≡ Err left → LineStop bytes left
line_stops bytes left e = ⊎_elim
    (λ (blank : Blank bytes). absurd (not_both left None (line_after_spaces bytes) e (ap line_after_spaces blank.is ∙ line_blank blank.count)))
    (λ (a : At bytes).
    subst (λ (t : List ℕ). LineStop t left) (sym a.is) (⊎_elim
    (λ (quiet : is_silent a.word ≡ true). absurd (not_both left None (line_after_spaces bytes) e (ap line_after_spaces a.is ∙ line_behind a.count a.word a.tail a.shown a.some a.ends ∙ silent_word a.word a.tail (length (a.word ++ a.tail)) quiet)))
    (λ (loud : is_silent a.word ≡ false). ⊎_elim
    (λ (none : NoKeyword a.word). line_unknown a.count a.word a.tail left a.shown a.some a.ends none (sym (ap line_after_spaces a.is) ∙ e))
    (λ (of : OfKeyword a.word). line_known a.count a.word a.tail left a.shown a.some a.ends of (sym (ap line_after_spaces a.is) ∙ e))
    (loud_word a.word loud))
    (cases_Bool (is_silent a.word))))
    (spot bytes)

-- the column of a line that is not too long
column_of : (bytes : List ℕ) (left : ℕ) → line_after_spaces bytes ≡ Err left → WrongAt bytes (length bytes + 1 - left)
column_of bytes left e =
    let s = line_stops bytes left e in
    let len = ap length s.split in
    let all = length-append s.front s.here in
    let place = s.place in
    record {
      front = s.front;
      here = s.here;
      split = s.split;
      place = omega (arith, len, all, place);
      begins = s.begins;
      wrong = ⊎_elim
          (λ (w : IsWrongWord s.front s.here). inl w)
          (λ (none : s.here ≡ []). inr (record { end = none; stops = λ line is. not_both left (Some line) (line_after_spaces bytes) e (line_only bytes line is) })) s.wrong;
    }

at_err : (bytes : List ℕ) (len column : ℕ) (r : WordReading (Option ScriptLine)) → at_column len r ≡ Err column → (left : ℕ) × (r ≡ Err left) × (len + 1 - left ≡ column)
at_err bytes len column (Ok l) e = absurd (cc)
at_err bytes len column (Err left) e = (left, refl, cc)

-- a line is wrong where it is said to be
pub column_exact : (bytes : List ℕ) (column : ℕ) → line_of bytes ≡ Err column → ((4096 < length bytes) × (column ≡ 4097)) ⊎ WrongAt bytes column
unfolding line_of
column_exact bytes column e = ⊎_elim
    (λ (t : ltb 4096 (length bytes) ≡ true).
    let f : Err 4097 ≡ Err column = sym (ap (λ (b : Bool). cond b (Err 4097) (at_column (length bytes) (line_after_spaces bytes))) t) ∙ e in
    let same : 4097 ≡ column = cc in
    inl (ltb-true 4096 (length bytes) t, sym same))
    (λ (t : ltb 4096 (length bytes) ≡ false).
    let a = at_err bytes (length bytes) column (line_after_spaces bytes) (sym (ap (λ (b : Bool). cond b (Err 4097) (at_column (length bytes) (line_after_spaces bytes))) t) ∙ e) in
    inr (subst (WrongAt bytes) a.2 (column_of bytes a.0 a.1)))
    (cases_Bool (ltb 4096 (length bytes)))
