-- Words that are all of one kind of byte, labels, and hexadecimal digits.
use Rattle.std.proofs.Common.{◌≡◌, ℕ, suc, ◌/◌, ◌%◌, ◌<◌, Bool, true, false, not, cond, List, [], ◌∷◌, ◌++◌, length, Some, None, Ok, refl, arith, ap, ◌∙◌, eqb, slice_index, take, drop, Option}
use Rattle.std.proofs.lemmas.Bool.{and_parts}
use Rattle.std.specs.Prelude.{◌&&◌}
use Rattle.std.specs.List.{list_all}
use Rattle.std.specs.Str.{bytes_eq}
use Rattle.std.proofs.lemmas.Slice.Eq.{bytes_eq-Decides}
use Rattle.std.proofs.Math.Seq.{drop-append_seam, take-append_seam}
use Rattle.hex.specs.Hex.{decode_sized, encode_with, encode_lower, lower_digits, hex_digit_value, IsBytes}
use Rattle.hex.proofs.HexLemmas.{length-encode_with, decode_sized-twice, decode_of-encode_lower, IsDigits-lower_digits}
use Rattle.vx_script.specs.Words.{is_visible, labelled}
use Rattle.vx_script.specs.Tokens.{IsWord}

pub cond_true : {A : Type 0} (t : Bool) (x y : A) → t ≡ true → cond t x y ≡ x
cond_true t x y e = ap (λ (b : Bool). cond b x y) e

-- bytes that are all of a kind without the space are a word
pub word_from : (p : ℕ → Bool) → ((b : ℕ) → p b ≡ true → eqb b 32 ≡ false) → (word : List ℕ) → 0 < length word → list_all p word ≡ true → IsWord word
word_from p apart [] some all = absurd (omega arith)
word_from p apart (b ∷ []) some all = apart b (and_parts (p b) true all).0
word_from p apart (b ∷ c ∷ bytes) some all =
    let e = and_parts (p b) (list_all p (c ∷ bytes)) all in (apart b e.0, word_from p apart (c ∷ bytes) (omega arith) e.1)

-- a label before a word
pub word_cons : (b : ℕ) (rest : List ℕ) → eqb b 32 ≡ false → IsWord rest → IsWord (b ∷ rest)
word_cons b [] e is = e
word_cons b (c ∷ rest) e is = (e, is)

pub visible : (b : ℕ) → is_visible b ≡ true → eqb b 32 ≡ false
visible b e = grind arith

pub labelled_again : {V : Type 0} (label : List ℕ) (value : List ℕ → Option V) (word : List ℕ) → labelled label value (label ++ word) ≡ value word
unfolding labelled
labelled_again label value word =
    let same : bytes_eq (take (length label) (label ++ word)) label ≡ true = (bytes_eq-Decides (take (length label) (label ++ word)) label).1 (take-append_seam label word) in
    cond_true (bytes_eq (take (length label) (label ++ word)) label) (value (drop (length label) (label ++ word))) None same ∙ ap value (drop-append_seam label word)

-- the digits of bytes are a word, and are read again
digit_visible : (x d : ℕ) → hex_digit_value x ≡ Some d → eqb x 32 ≡ false
digit_visible x d e = grind arith

lower_visible : (d : ℕ) → d < 16 → eqb (slice_index lower_digits d) 32 ≡ false
lower_visible d small = digit_visible (slice_index lower_digits d) d (IsDigits-lower_digits d small)

visible_byte : (b : ℕ) → eqb b 32 ≡ false → is_visible b ≡ true
visible_byte b e = ap not e

pub hex_visible : (bytes : List ℕ) → IsBytes bytes → list_all is_visible (encode_lower bytes) ≡ true
unfolding encode_with
hex_visible [] fits = refl
hex_visible (b ∷ bytes) fits =
    let small : b < 256 = fits 0 in
    let high = visible_byte (slice_index lower_digits (b / 16)) (lower_visible (b / 16) (omega arith)) in
    let low = visible_byte (slice_index lower_digits (b % 16)) (lower_visible (b % 16) (omega arith)) in
    ap (λ (t : Bool). t && (is_visible (slice_index lower_digits (b % 16)) && list_all is_visible (encode_lower bytes))) high
    ∙ ap (λ (t : Bool). t && list_all is_visible (encode_lower bytes)) low
    ∙ hex_visible bytes (λ k. fits (suc k))

pub hex_word : (bytes : List ℕ) → 0 < length bytes → IsBytes bytes → IsWord (encode_lower bytes)
hex_word bytes some fits = word_from is_visible visible (encode_lower bytes) (omega (arith, some, length-encode_with lower_digits bytes)) (hex_visible bytes fits)

pub hex_again : (n : ℕ) (bytes : List ℕ) → length bytes ≡ n → IsBytes bytes → decode_sized (encode_lower bytes) n ≡ Ok bytes
hex_again n bytes len fits =
    decode_sized-twice (encode_lower bytes) n (omega (arith, length-encode_with lower_digits bytes)) ∙ decode_of-encode_lower bytes fits
