-- Where a line is wrong, said apart from how it is read.
use Rattle.std.specs.Prelude.{◌≡◌, ◌⊎◌, ◌+◌, ℕ, true, List, [], ◌∷◌, ◌++◌, length}
use Rattle.vx_script.specs.Words.{word_of}
use Rattle.vx_script.specs.Tokens.{is_in_word}
use Rattle.vx_script.specs.Grammar.{IsLine}
use Rattle.vx_script.specs.declared.line.ScriptLine.{ScriptLine}

-- with a space and something behind them, these bytes are a line of the grammar
abbrev pub BeginsLine : List ℕ → Type 0
BeginsLine bytes = (rest : List ℕ) × (line : ScriptLine) × IsLine (bytes ++ 32 ∷ rest) line

-- no byte, or the last one is a space
abbrev pub IsApart : List ℕ → Type 0
IsApart front = (front ≡ []) ⊎ ((bytes : List ℕ) × (front ≡ bytes ++ 32 ∷ []))

-- a word begins here, and with it the line begins no line of the grammar
pub record IsWrongWord (front here : List ℕ) : Type 0 where
  pub apart : IsApart front
  pub word : is_in_word here ≡ true
  pub stops : BeginsLine (front ++ word_of here) → ⊥

-- nothing is left, and the line is none of the grammar
pub record AreMissing (bytes here : List ℕ) : Type 0 where
  pub end : here ≡ []
  pub stops : (line : ScriptLine) → IsLine bytes line → ⊥

-- the column is the place, from 1, of the first byte of the first word that is wrong, or one past the last byte where words are missing
pub record WrongAt (bytes : List ℕ) (column : ℕ) : Type 0 where
  pub front : List ℕ
  pub here : List ℕ
  pub split : bytes ≡ front ++ here
  pub place : column ≡ length front + 1
  pub begins : BeginsLine front
  pub wrong : IsWrongWord front here ⊎ AreMissing bytes here
