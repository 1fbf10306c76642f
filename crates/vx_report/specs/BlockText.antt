-- A block as it is printed.
use Rattle.std.specs.Prelude.{ℕ, List, [], ◌∷◌, ◌++◌, ◌==◌, if◌then◌else◌, slice_index, take}
use Rattle.std.specs.List.{list_all}
use Rattle.hex.specs.Hex.{encode_lower}

-- the first byte where all are equal to it, else all
abbrev pub shown_bytes : List ℕ → List ℕ
shown_bytes bytes = if list_all (λ byte. byte == slice_index bytes 0) bytes then take 1 bytes else bytes

-- the line of a block: its bytes in lower-case hexadecimal digits, or one of them where all are equal
unfoldable pub block_text : List ℕ → List ℕ
block_text bytes = encode_lower (shown_bytes bytes) ++ 10 ∷ []
