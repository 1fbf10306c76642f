-- A short list as the program keeps it in an array: its items, then zeros.
use Rattle.std.specs.Prelude.{◌≡◌, ℕ, ◌-◌, ◌≤◌, List, ◌++◌, length, replicate, take}

-- the first `len` of these
abbrev pub front : ℕ → List ℕ → List ℕ
front len items = take len items

-- the list with zeros after it, up to `size`
abbrev pub padded : ℕ → List ℕ → List ℕ
padded size items = items ++ replicate (size - length items) 0

-- `len` items of `size`, and zeros in the other places
pub record IsPadded (size len : ℕ) (items : List ℕ) : Type 0 where
  pub few : len ≤ size
  pub whole : length items ≡ size
  pub rest : items ≡ take len items ++ replicate (size - len) 0
