-- What a line says.
use Rattle.std.proofs.Common.{◌≡◌, ◌≤◌, false, ℕ, ◌<◌, List, [], ◌∷◌, length, Err, refl, arith, ap, cond, true, Bool, ltb, sym, subst, ◌∙◌, ⊎_elim}
use Rattle.std.specs.Prelude.{◌↔◌, Option, Some, None, Ok}
use Rattle.std.proofs.lemmas.Bool.{ltb-false, le-ltb, cases_Bool}
use Rattle.vx_script.specs.Words.{WordReading, after_spaces, word_of, after_word}
use Rattle.vx_script.specs.Keywords.{keyword_of}
use Rattle.vx_script.specs.Formats.{format_of, read_by}
use Rattle.vx_script.specs.Grammar.{line_of, line_after_spaces, line_by, line_of_keyword, some_line, is_silent, at_column, IsLine, IsQuiet, tokens, spelling}
use Rattle.vx_script.specs.Tokens.{IsWord, words_of}
use Rattle.vx_script.specs.declared.keyword.Keyword.{Keyword}
use Rattle.vx_script.specs.declared.line.ScriptLine.{ScriptLine}
use Rattle.vx_script.proofs.ColumnLemmas.{silent_word}
use Rattle.vx_script.proofs.WordLemmas.{FirstWord, NoWord, first_word}
use Rattle.vx_script.proofs.KindLemmas.{line_only, line_found}
use Rattle.vx_script.proofs.PrintLemmas.{spelling_again}
use Rattle.vx_script.proofs.FitLemmas.{AllWords, words_are, printed_short, read_fits}

-- a line that is too long is wrong past its greatest length
pub line_of_long : (line : List ℕ) → 4096 < length line → line_of line ≡ Err 4097
unfolding line_of
line_of_long line long = grind arith

at_ok : (len : ℕ) (r : WordReading (Option ScriptLine)) (line : ScriptLine) → at_column len r ≡ Ok (Some line) → r ≡ Ok (Some line)
at_ok len (Ok l) line e = e
at_ok len (Err left) line e = absurd (cc)

within : (t : Bool) (len : ℕ) (r : WordReading (Option ScriptLine)) (line : ScriptLine) → cond t (Err 4097) (at_column len r) ≡ Ok (Some line) → (t ≡ false) × (r ≡ Ok (Some line))
within true len r line e = absurd (cc)
within false len r line e = (refl, at_ok len r line e)

line_of_found : (bytes : List ℕ) (line : ScriptLine) → line_of bytes ≡ Ok (Some line) → (length bytes ≤ 4096) × IsLine bytes line
unfolding line_of
line_of_found bytes line e =
    let a = within (ltb 4096 (length bytes)) (length bytes) (line_after_spaces bytes) line e in
    (omega (arith, ltb-false 4096 (length bytes) a.0), line_found bytes line a.1)

line_of_only : (bytes : List ℕ) (line : ScriptLine) → length bytes ≤ 4096 → IsLine bytes line → line_of bytes ≡ Ok (Some line)
unfolding line_of
line_of_only bytes line short is =
    ap (λ (b : Bool). cond b (Err 4097) (at_column (length bytes) (line_after_spaces bytes))) (le-ltb 4096 (length bytes) short) ∙ ap (at_column (length bytes)) (line_only bytes line is)

-- a line is read exactly where its words spell it
pub line_of_exact : (bytes : List ℕ) (line : ScriptLine) → (line_of bytes ≡ Ok (Some line)) ↔ ((length bytes ≤ 4096) × IsLine bytes line)
line_of_exact bytes line = (line_of_found bytes line, λ is. line_of_only bytes line is.0 is.1)

-- what is printed of a line that was read is read again
pub printed_again : (bytes : List ℕ) (line : ScriptLine) → line_of bytes ≡ Ok (Some line) → (length (spelling line) ≤ length bytes) × (line_of (spelling line) ≡ Ok (Some line))
printed_again bytes line e =
    let a = line_of_found bytes line e in
    let short = printed_short (tokens line) bytes a.1 in
    let fits = read_fits (tokens line) bytes a.1 in
    let within = a.0 in
    (short, line_of_only (spelling line) line (omega (arith, short, within)) (line_found (spelling line) line (spelling_again line fits)))

-- an empty line or a comment says nothing
no_line : (r : WordReading ScriptLine) → some_line r ≡ Ok None → ⊥
no_line (Ok l) e = cc e
no_line (Err left) e = cc e

no_keyword : (o : Option Keyword) (rest : List ℕ) (left : ℕ) → line_of_keyword o rest left ≡ Ok None → ⊥
no_keyword None rest left e = cc e
no_keyword (Some k) rest left e = no_line (read_by (format_of k) rest) e

silent_is : (word rest : List ℕ) (left : ℕ) → line_by word rest left ≡ Ok None → is_silent word ≡ true
unfolding line_by
silent_is word rest left e = ⊎_elim
    (λ (t : is_silent word ≡ true). t)
    (λ (t : is_silent word ≡ false). absurd (no_keyword (keyword_of word) rest left (sym (ap (λ (b : Bool). cond b (Ok None) (line_of_keyword (keyword_of word) rest left)) t) ∙ e)))
    (cases_Bool (is_silent word))

quiet_word : (word : List ℕ) (words : List (List ℕ)) → IsWord word → is_silent word ≡ true → IsQuiet (word ∷ words)
quiet_word [] words is e = absurd is
quiet_word (b ∷ bytes) words is e = e

word_quiet : (word : List ℕ) (words : List (List ℕ)) → IsQuiet (word ∷ words) → is_silent word ≡ true
word_quiet [] words e = refl
word_quiet (b ∷ bytes) words e = e

at_quiet : (bytes : List ℕ) → line_after_spaces bytes ≡ Ok None → IsQuiet (words_of bytes)
unfolding line_after_spaces
at_quiet bytes e = ⊎_elim
    (λ (first : FirstWord bytes).
    let words = first.words in
    let is = (subst AllWords words (words_are bytes)).0 in
    subst IsQuiet (sym words) (quiet_word (word_of (after_spaces bytes)) (words_of (after_word (after_spaces bytes))) is (silent_is (word_of (after_spaces bytes)) (after_word (after_spaces bytes)) (length (after_spaces bytes)) e)))
    (λ (none : NoWord bytes). subst IsQuiet (sym none.words) tt)
    (first_word bytes)

quiet_at : (bytes : List ℕ) → IsQuiet (words_of bytes) → line_after_spaces bytes ≡ Ok None
unfolding line_after_spaces
quiet_at bytes quiet = ⊎_elim
    (λ (first : FirstWord bytes). silent_word (word_of (after_spaces bytes)) (after_word (after_spaces bytes)) (length (after_spaces bytes)) (word_quiet (word_of (after_spaces bytes)) (words_of (after_word (after_spaces bytes))) (subst IsQuiet first.words quiet)))
    (λ (none : NoWord bytes). silent_word (word_of (after_spaces bytes)) (after_word (after_spaces bytes)) (length (after_spaces bytes)) (ap (λ (w : List ℕ). is_silent (word_of w)) none.none))
    (first_word bytes)

at_none : (len : ℕ) (r : WordReading (Option ScriptLine)) → at_column len r ≡ Ok None → r ≡ Ok None
at_none len (Ok l) e = e
at_none len (Err left) e = absurd (cc)

within_none : (t : Bool) (len : ℕ) (r : WordReading (Option ScriptLine)) → cond t (Err 4097) (at_column len r) ≡ Ok None → (t ≡ false) × (r ≡ Ok None)
within_none true len r e = absurd (cc)
within_none false len r e = (refl, at_none len r e)

quiet_found : (bytes : List ℕ) → line_of bytes ≡ Ok None → (length bytes ≤ 4096) × IsQuiet (words_of bytes)
unfolding line_of
quiet_found bytes e =
    let a = within_none (ltb 4096 (length bytes)) (length bytes) (line_after_spaces bytes) e in
    (omega (arith, ltb-false 4096 (length bytes) a.0), at_quiet bytes a.1)

quiet_only : (bytes : List ℕ) → length bytes ≤ 4096 → IsQuiet (words_of bytes) → line_of bytes ≡ Ok None
unfolding line_of
quiet_only bytes short quiet =
    ap (λ (b : Bool). cond b (Err 4097) (at_column (length bytes) (line_after_spaces bytes))) (le-ltb 4096 (length bytes) short) ∙ ap (at_column (length bytes)) (quiet_at bytes quiet)

pub quiet_exact : (bytes : List ℕ) → (line_of bytes ≡ Ok None) ↔ ((length bytes ≤ 4096) × IsQuiet (words_of bytes))
quiet_exact bytes = (quiet_found bytes, λ is. quiet_only bytes is.0 is.1)
