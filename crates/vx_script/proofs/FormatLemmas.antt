-- How a format is read, for every format.
use Rattle.std.proofs.Common.{◌≡◌, ℕ, Bool, true, false, cond, List, [], ◌∷◌, ◌++◌, Option, Some, None, Ok, Err, refl, ap, sym, subst, ◌∙◌, ⊎_elim}
use Rattle.std.proofs.lemmas.Bool.{cases_Bool}
use Rattle.std.specs.Prelude.{◌⊎◌, ◌&&◌, codes}
use Rattle.std.specs.List.{list_all}
use Rattle.std.proofs.lemmas.List.Folds.{list_all-append}
use Rattle.std.proofs.lemmas.Option.{same_Some}
use Rattle.std.specs.Str.{bytes_eq}
use Rattle.std.proofs.lemmas.Slice.Eq.{bytes_eq-Decides}
use Rattle.vx_script.specs.Words.{WordReading, and_then, next_word, words_end, word_name, word_number, labelled, names_of, is_visible}
use Rattle.vx_script.specs.Tokens.{Token, Spells, SpellAll, words_of}
use Rattle.vx_script.specs.Keywords.{pick_of}
use Rattle.vx_script.specs.Formats.{Place, Format, Done, Then, ended, read_by, name_after, number_after, names_after, pick}
use Rattle.vx_script.specs.Grammar.{tokens}
use Rattle.vx_script.specs.declared.line.ScriptLine.{ScriptLine}
use Rattle.vx_script.proofs.SpellLemmas.{labelled_again}
use Rattle.vx_script.proofs.WordLemmas.{next_only, end_only, next_found, end_found}

pub spell_cons : (token : Token) (others : List Token) (words : List (List ℕ)) → SpellAll (token ∷ others) words
    → (word : List ℕ) × (rest : List (List ℕ)) × (words ≡ word ∷ rest) × Spells token word × SpellAll others rest
spell_cons token others [] is = absurd is
spell_cons token others (word ∷ words) is = (word, words, refl, is.0, is.1)

-- the words of these bytes spell these places
pub record Spelt (places : List Token) (bytes : List ℕ) : Type 0 where
  pub all : SpellAll places (words_of bytes)

-- a place was read, and the others are spelt by what follows
record Took {A : Type 0} (value : List ℕ → Option A) (x : A) (others : List Token) (bytes : List ℕ) : Type 0 where
  rest : List ℕ
  read : next_word value bytes ≡ Ok (x, rest)
  spelt : Spelt others rest

took : {A : Type 0} (value : List ℕ → Option A) (x : A) (token : Token) (others : List Token) (bytes : List ℕ)
    → ((word : List ℕ) → Spells token word → value word ≡ Some x) → SpellAll (token ∷ others) (words_of bytes) → Took value x others bytes
took value x token others bytes fits is =
    let a = spell_cons token others (words_of bytes) is in
    let n = next_only value bytes a.0 a.1 x a.2 (fits a.0 a.3) in
    record { rest = n.0; read = n.1; spelt = record { all = subst (SpellAll others) (sym n.2) a.4 } }

no_words : (words : List (List ℕ)) → SpellAll [] words → words ≡ []
no_words [] is = refl
no_words (word ∷ words) is = absurd is

end_read : (bytes : List ℕ) → Spelt [] bytes → words_end bytes ≡ Ok tt
end_read bytes is = end_only bytes (no_words (words_of bytes) is.all)

bind_ok : {A B : Type 0} (r : WordReading A) (f : A → WordReading B) (y : B) → and_then r f ≡ Ok y → (x : A) × (r ≡ Ok x) × (f x ≡ Ok y)
bind_ok (Ok x) f y e = (x, refl, e)
bind_ok (Err left) f y e = absurd (cc)

spelt_more : (token : Token) (others : List Token) (bytes word rest : List ℕ) → words_of bytes ≡ word ∷ words_of rest → Spells token word → Spelt others rest → Spelt (token ∷ others) bytes
spelt_more token others bytes word rest is spells more = record { all = subst (SpellAll (token ∷ others)) (sym is) (spells, more.all) }

end_spelt : (bytes : List ℕ) (u : Unit {0}) → words_end bytes ≡ Ok u → Spelt [] bytes
end_spelt bytes u e = record { all = subst (SpellAll []) (sym (end_found bytes e)) tt }

-- a place takes the words that spell its tokens
pub record IsPlace {V : Type 0} (place : Place V) : Type 0 where
  pub only : (word : List ℕ) (x : V) → Spells (place.token x) word → place.value word ≡ Some x
  pub found : (word : List ℕ) (x : V) → place.value word ≡ Some x → Spells (place.token x) word
  pub empty : place.value [] ≡ None
  pub sample : V
  pub word : List ℕ
  pub fits : place.value word ≡ Some sample
  pub shown : list_all is_visible word ≡ true

-- whatever a format reads, its places are those of the line that it gives
abbrev pub Faithful : Format → (List Token → List Token) → Type 0
Faithful (Done line) before = tokens line ≡ before []
Faithful (Then {V} place more) before = IsPlace place × ((x : V) → Faithful (more x) (λ ts. before (place.token x ∷ ts)))

-- a format that is given these places gives the line
abbrev pub Reads : Format → List Token → ScriptLine → Type 0
Reads (Done l) [] line = l ≡ line
Reads (Done l) (t ∷ ts) line = ⊥
Reads (Then place more) [] line = ⊥
Reads (Then {V} place more) (t ∷ ts) line = (x : V) × (place.token x ≡ t) × Reads (more x) ts line

pub read_only : (f : Format) (before : List Token → List Token) (ts : List Token) (line : ScriptLine) (bytes : List ℕ) → Faithful f before → Reads f ts line → Spelt ts bytes → read_by f bytes ≡ Ok line
read_only (Done l) before [] line bytes is reads spelt = ap (ended l) (end_read bytes spelt) ∙ ap (λ (k : ScriptLine). Ok k) reads
read_only (Done l) before (t ∷ ts) line bytes is reads spelt = absurd reads
read_only (Then place more) before [] line bytes is reads spelt = absurd reads
read_only (Then {V} place more) before (t ∷ ts) line bytes is reads spelt =
    let a = took place.value reads.0 t ts bytes (λ w h. is.0.only w reads.0 (subst (λ (k : Token). Spells k w) (sym reads.1) h)) spelt.all in
    ap (λ (r : WordReading (V × List ℕ)). and_then r (λ x. read_by (more x.0) x.1)) a.read
    ∙ read_only (more reads.0) (λ us. before (place.token reads.0 ∷ us)) ts line a.rest (is.1 reads.0) reads.2 a.spelt

-- what was read is spelt
pub record Found (before : List Token → List Token) (line : ScriptLine) (bytes : List ℕ) : Type 0 where
  pub places : List Token
  pub is : tokens line ≡ before places
  pub spelt : Spelt places bytes

ended_ok : (l line : ScriptLine) (r : WordReading (Unit {0})) → ended l r ≡ Ok line → (l ≡ line) × (r ≡ Ok tt)
ended_ok l line (Ok u) e = let same : l ≡ line = cc in (same, refl)
ended_ok l line (Err left) e = absurd (cc)

pub read_found : (f : Format) (before : List Token → List Token) (line : ScriptLine) (bytes : List ℕ) → Faithful f before → read_by f bytes ≡ Ok line → Found before line bytes
read_found (Done l) before line bytes is e =
    let a = ended_ok l line (words_end bytes) e in
    record { places = []; is = subst (λ (k : ScriptLine). tokens k ≡ before []) a.0 is; spelt = end_spelt bytes tt a.1 }
read_found (Then {V} place more) before line bytes is e =
    let a = bind_ok (next_word place.value bytes) (λ (x : V × List ℕ). read_by (more x.0) x.1) line e in
    let b = read_found (more a.0.0) (λ ts. before (place.token a.0.0 ∷ ts)) line a.0.1 (is.1 a.0.0) a.2 in
    let n = next_found place.value bytes a.0 is.0.empty a.1 in
    record { places = place.token a.0.0 ∷ b.places; is = b.is; spelt = spelt_more (place.token a.0.0) b.places bytes n.0 a.0.1 n.1 (is.0.found n.0 a.0.0 n.2) b.spelt }

-- what is picked has the word for its text
pub picked : {V : Type 0} (text : V → List ℕ) (all : List V) (word : List ℕ) (x : V) → pick_of text all word ≡ Some x → word ≡ text x
picked text [] word x e = absurd (cc)
picked text (v ∷ vs) word x e = ⊎_elim
    (λ (t : bytes_eq word (text v) ≡ true). (bytes_eq-Decides word (text v)).0 t ∙ ap text (same_Some v x (sym (ap (λ (b : Bool). cond b (Some v) (pick_of text vs word)) t) ∙ e)))
    (λ (t : bytes_eq word (text v) ≡ false). picked text vs word x (sym (ap (λ (b : Bool). cond b (Some v) (pick_of text vs word)) t) ∙ e))
    (cases_Bool (bytes_eq word (text v)))

-- the laws of each kind of place
no_name : word_name [] ≡ None
unfolding word_name
no_name = refl

pub no_number : word_number [] ≡ None
unfolding word_number
no_number = refl

pub labelled_empty : {V : Type 0} (label : List ℕ) (value : List ℕ → Option V) → value [] ≡ None → labelled label value [] ≡ None
unfolding labelled
labelled_empty [] value e = e
labelled_empty (c ∷ cs) value e = refl

label_shown : (label word : List ℕ) → list_all is_visible label ≡ true → list_all is_visible word ≡ true → list_all is_visible (label ++ word) ≡ true
label_shown label word l w = list_all-append is_visible label word ∙ ap (λ (t : Bool). t && list_all is_visible word) l ∙ w

name_a : word_name (codes "a") ≡ Some (codes "a")
unfolding word_name
name_a = refl

number_0 : word_number (codes "0") ≡ Some 0
unfolding word_number
number_0 = refl

names_a : names_of (codes "a") ≡ Some (codes "a" ∷ [])
unfolding names_of word_name
names_a = refl

pub name_place : (label : List ℕ) → list_all is_visible label ≡ true → IsPlace (name_after label)
name_place label e = record {
  only = λ w x h. h;
  found = λ w x h. h;
  empty = labelled_empty label word_name no_name;
  sample = codes "a";
  word = label ++ codes "a";
  fits = labelled_again label word_name (codes "a") ∙ name_a;
  shown = label_shown label (codes "a") e refl;
}

pub number_place : (label : List ℕ) → list_all is_visible label ≡ true → IsPlace (number_after label)
number_place label e = record {
  only = λ w x h. h;
  found = λ w x h. h;
  empty = labelled_empty label word_number no_number;
  sample = 0;
  word = label ++ codes "0";
  fits = labelled_again label word_number (codes "0") ∙ number_0;
  shown = label_shown label (codes "0") e refl;
}

no_names : names_of [] ≡ None
unfolding names_of word_name
no_names = refl

pub names_place : (label : List ℕ) → list_all is_visible label ≡ true → IsPlace (names_after label)
names_place label e = record {
  only = λ w x h. h;
  found = λ w x h. h;
  empty = labelled_empty label names_of no_names;
  sample = codes "a" ∷ [];
  word = label ++ codes "a";
  fits = labelled_again label names_of (codes "a") ∙ names_a;
  shown = label_shown label (codes "a") e refl;
}

pub pick_place : {V : Type 0} (text : V → List ℕ) (all : List V) (sample : V) → ((x : V) → pick_of text all (text x) ≡ Some x) → pick_of text all [] ≡ None → list_all is_visible (text sample) ≡ true → IsPlace (pick text all)
pick_place text all sample again empty shown = record {
  only = λ w x h. ap (pick_of text all) h ∙ again x;
  found = λ w x e. picked text all w x e;
  empty = empty;
  sample = sample;
  word = text sample;
  fits = again sample;
  shown = shown;
}
