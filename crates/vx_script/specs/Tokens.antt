-- The places of a line, apart from how they are read: the words that may stand there, and the one that is printed.
use Rattle.std.specs.Prelude.{◌≡◌, ◌≢◌, ℕ, ◌<◌, ◌^◌, List, [], ◌∷◌, ◌++◌, length, Some, Ok, nat_lt, ◌==◌, if◌then◌else◌, true, false, Bool}
use Rattle.std.specs.List.{list_all, join_with_byte}
use Rattle.std.specs.Fmt.{decimal}
use Rattle.hex.specs.Hex.{decode_sized, encode_lower, IsBytes}
use Rattle.vx_script.specs.Words.{is_visible, is_name, word_name, word_number, labelled, names_of}

-- what stands at a place of a line: a fixed word, or behind a label a name, a number or names; or the digits of so many bytes
pub data Token : Type 0 where
  Key : List ℕ → Token
  Named : List ℕ → List ℕ → Token
  Number : List ℕ → ℕ → Token
  Hex : ℕ → List ℕ → Token
  NameList : List ℕ → List (List ℕ) → Token

-- the words that spell a place
abbrev pub Spells : Token → List ℕ → Type 0
Spells (Key key) word = word ≡ key
Spells (Named label name) word = labelled label word_name word ≡ Some name
Spells (Number label n) word = labelled label word_number word ≡ Some n
Spells (Hex n bytes) word = decode_sized word n ≡ Ok bytes
Spells (NameList label names) word = labelled label names_of word ≡ Some names

-- these words spell these places
abbrev pub SpellAll : List Token → List (List ℕ) → Type 0
SpellAll [] [] = Unit {0}
SpellAll [] (word ∷ words) = ⊥
SpellAll (token ∷ tokens) [] = ⊥
SpellAll (token ∷ tokens) (word ∷ words) = Spells token word × SpellAll tokens words

-- a byte before the first word, which may go on or begin
abbrev pub before_word : ℕ → Bool → List (List ℕ) → List (List ℕ)
before_word b false words = (b ∷ []) ∷ words
before_word b true [] = (b ∷ []) ∷ []
before_word b true (word ∷ words) = (b ∷ word) ∷ words

-- whether a word begins at once
abbrev pub is_in_word : List ℕ → Bool
is_in_word [] = false
is_in_word (b ∷ bytes) = if b == 32 then false else true

-- the words of a line, which spaces separate
abbrev pub words_of : List ℕ → List (List ℕ)
words_of [] = []
words_of (b ∷ bytes) = if b == 32 then words_of bytes else before_word b (is_in_word bytes) (words_of bytes)

-- a name among names that commas separate
abbrev pub comma_name : ℕ → List ℕ → List ℕ
comma_name index name = if nat_lt 0 index then 44 ∷ name else name

-- the one word that is printed at a place
abbrev pub printed : Token → List ℕ
printed (Key key) = key
printed (Named label name) = label ++ name
printed (Number label n) = label ++ decimal n
printed (Hex n bytes) = encode_lower bytes
printed (NameList label names) = label ++ join_with_byte 44 names

-- words with a space before each
abbrev pub spaced : List Token → List ℕ
spaced [] = []
spaced (token ∷ tokens) = 32 ∷ printed token ++ spaced tokens

-- words with one space between
abbrev pub joined_words : List Token → List ℕ
joined_words [] = []
joined_words (token ∷ tokens) = printed token ++ spaced tokens

-- one byte or more, none of them a space
abbrev pub IsWord : List ℕ → Type 0
IsWord [] = ⊥
IsWord (b ∷ []) = (b == 32) ≡ false
IsWord (b ∷ c ∷ bytes) = ((b == 32) ≡ false) × IsWord (c ∷ bytes)

-- what the values of a place are
abbrev pub FitsToken : Token → Type 0
FitsToken (Key key) = IsWord key
FitsToken (Named label name) = (list_all is_visible label ≡ true) × (is_name name ≡ true)
FitsToken (Number label n) = (list_all is_visible label ≡ true) × (n < 2 ^ 64)
FitsToken (Hex n bytes) = (length bytes ≡ n) × (0 < n) × IsBytes bytes
FitsToken (NameList label names) = (list_all is_visible label ≡ true) × (names ≢ []) × (list_all is_name names ≡ true)

-- what the values of a line are
abbrev pub FitAll : List Token → Type 0
FitAll [] = Unit {0}
FitAll (token ∷ tokens) = FitsToken token × FitAll tokens
