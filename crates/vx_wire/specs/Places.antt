-- Bytes at a place of a list of bytes.
use Rattle.std.specs.Prelude.{◌≡◌, ℕ, ◌+◌, List, ◌++◌, length, take, drop}

-- the n bytes from place at on
abbrev pub cut : ℕ → ℕ → List ℕ → List ℕ
cut at n bytes = take n (drop at bytes)

-- the bytes with these over them from place at on
unfoldable pub put_at : ℕ → List ℕ → List ℕ → List ℕ
put_at at new bytes = take at bytes ++ (new ++ drop (at + length new) bytes)

-- these bytes stand at place at
abbrev pub StandsAt : ℕ → List ℕ → List ℕ → Type 0
StandsAt at part bytes = cut at (length part) bytes ≡ part
