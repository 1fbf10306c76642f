-- Words of a line, and what each kind of place takes.
use Rattle.std.specs.Prelude.{◌≡◌, ℕ, ◌+◌, ◌-◌, ◌*◌, ◌^◌, Bool, ◌&&◌, ◌||◌, List, [], ◌∷◌, ◌++◌, length, take, drop, Option, Some, None, Result, Ok, Err, nat_lt, nat_le, not, slice_index, ◌==◌, if◌then◌else◌}
use Rattle.std.specs.List.{position_or_len, list_all, slice_split}
use Rattle.std.specs.Str.{bytes_eq}
use Rattle.hex.specs.Hex.{decode_sized}
use Rattle.hex.specs.declared.error.FromHexError.{FromHexError}
use Rattle.vx_model.specs.declared.limits.TheConstants.{BLOCK, MOST_NAME_BYTES}
use Rattle.vx_script.specs.declared.wrong.Wrong.{Wrong}
use Rattle.vx_script.specs.declared.wrong.Wrong.TheVariants.{Left, Memory}

-- Err: how many bytes of the line are left from the first wrong word on
abbrev pub WordReading : Type 0 → Type 0
WordReading A = Result A ℕ

-- first the one reading, then the other
abbrev pub and_then : {A B : Type 0} → WordReading A → (A → WordReading B) → WordReading B
and_then (Ok x) f = f x
and_then (Err left) f = Err left

-- What a function returned, seen by view, is what reading gives, unless memory ran out.
abbrev pub GivesReading : {X Y : Type 0} → (X → Y) → Result X Wrong → WordReading Y → Type 0
GivesReading view (Ok x) reading = reading ≡ Ok (view x)
GivesReading view (Err (Left left)) reading = reading ≡ Err left
GivesReading view (Err Memory) reading = Unit {0}

-- a space
abbrev pub is_space : ℕ → Bool
is_space b = b == 32

-- any other byte
abbrev pub is_visible : ℕ → Bool
is_visible b = not (b == 32)

-- without the spaces at the front
abbrev pub after_spaces : List ℕ → List ℕ
after_spaces bytes = drop (position_or_len is_visible bytes) bytes

-- the word at the front
abbrev pub word_of : List ℕ → List ℕ
word_of bytes = take (position_or_len is_space bytes) bytes

-- what follows the word at the front
abbrev pub after_word : List ℕ → List ℕ
after_word bytes = drop (position_or_len is_space bytes) bytes

-- a lower-case letter
abbrev pub is_letter : ℕ → Bool
is_letter b = nat_le 97 b && nat_le b 122

-- a decimal digit
abbrev pub is_digit : ℕ → Bool
is_digit b = nat_le 48 b && nat_le b 57

-- what a name goes on with
abbrev pub is_name_byte : ℕ → Bool
is_name_byte b = is_letter b || is_digit b

-- a name is a lower-case letter and up to 7 lower-case letters or digits
abbrev pub is_name : List ℕ → Bool
is_name word = nat_lt 0 (length word) && nat_le (length word) MOST_NAME_BYTES && is_letter (slice_index word 0) && list_all is_name_byte word

-- the name that a word is
unfoldable pub word_name : List ℕ → Option (List ℕ)
word_name word = if is_name word then Some word else None

-- the number that digits stand for, after a number
abbrev pub digits_after : ℕ → List ℕ → ℕ
digits_after n [] = n
digits_after n (b ∷ bytes) = digits_after (10 * n + (b - 48)) bytes

-- a number is 1 to 20 decimal digits with a value below 2^64
abbrev pub is_number : List ℕ → Bool
is_number word = nat_lt 0 (length word) && nat_le (length word) 20 && list_all is_digit word && nat_lt (digits_after 0 word) (2 ^ 64)

-- the number that a word is
unfoldable pub word_number : List ℕ → Option ℕ
word_number word = if is_number word then Some (digits_after 0 word) else None

-- a comma
abbrev pub is_comma : ℕ → Bool
is_comma b = b == 44

-- a name before others
abbrev pub both_names : Option (List ℕ) → Option (List (List ℕ)) → Option (List (List ℕ))
both_names None names = None
both_names (Some name) None = None
both_names (Some name) (Some names) = Some (name ∷ names)

-- names, if each of these is one
abbrev pub all_names : List (List ℕ) → Option (List (List ℕ))
all_names [] = Some []
all_names (part ∷ parts) = both_names (word_name part) (all_names parts)

-- one or more names, with commas between
unfoldable pub names_of : List ℕ → Option (List (List ℕ))
names_of word = all_names (slice_split is_comma word)

-- names before others
abbrev pub with_front : List (List ℕ) → Option (List (List ℕ)) → Option (List (List ℕ))
with_front front None = None
with_front front (Some names) = Some (front ++ names)

-- What a function returned is what a word says, unless memory ran out.
abbrev pub SaysWord : {X Y E : Type 0} → (X → Y) → Result (Option X) E → Option Y → Type 0
SaysWord view (Ok None) value = value ≡ None
SaysWord view (Ok (Some x)) value = value ≡ Some (view x)
SaysWord view (Err e) value = Unit {0}

-- a value behind a label
unfoldable pub labelled : {V : Type 0} → List ℕ → (List ℕ → Option V) → List ℕ → Option V
labelled label value word = if bytes_eq (take (length label) word) label then value (drop (length label) word) else None

-- the one byte of a decoding
abbrev pub only_byte : Result (List ℕ) FromHexError → Option ℕ
only_byte (Ok []) = None
only_byte (Ok (b ∷ [])) = Some b
only_byte (Ok (b ∷ c ∷ bytes)) = None
only_byte (Err e) = None

-- two hexadecimal digits, in either case
unfoldable pub byte_of : List ℕ → Option ℕ
byte_of word = only_byte (decode_sized word 1)

-- the bytes of a decoding
abbrev pub decoded : Result (List ℕ) FromHexError → Option (List ℕ)
decoded (Ok bytes) = Some bytes
decoded (Err e) = None

-- the 1,024 hexadecimal digits of a block, in either case
unfoldable pub block_word : List ℕ → Option (List ℕ)
block_word word = decoded (decode_sized word BLOCK)

-- a value and the bytes after its word, or the place of the wrong word
abbrev pub placed : {A : Type 0} → Option A → List ℕ → WordReading (A × List ℕ)
placed None here = Err (length here)
placed (Some x) here = Ok (x, after_word here)

-- the next word, as value takes it
abbrev pub next_word : {A : Type 0} → (List ℕ → Option A) → List ℕ → WordReading (A × List ℕ)
next_word value bytes = placed (value (word_of (after_spaces bytes))) (after_spaces bytes)

-- no word is left
abbrev pub words_end : List ℕ → WordReading (Unit {0})
words_end bytes = if length (after_spaces bytes) == 0 then Ok tt else Err (length (after_spaces bytes))
