-- The text that says where a script is wrong.
use Rattle.std.specs.Prelude.{◌≡◌, ◌≢◌, ℕ, List, [], ◌∷◌, ◌++◌, codes}
use Rattle.std.specs.Fmt.{decimal}

-- the line that says where a script is wrong: the number of the line and the place of the byte, both counted from 1
unfoldable pub bad_text : ℕ → ℕ → List ℕ
bad_text line column = codes "bad " ++ decimal line ++ 32 ∷ decimal column ++ 10 ∷ []

-- a text of which a front part was sent, and something is missing
pub record IsTextCut (text sent : List ℕ) : Type 0 where
  pub unsent : List ℕ
  pub is : text ≡ sent ++ unsent
  pub some : unsent ≢ []
