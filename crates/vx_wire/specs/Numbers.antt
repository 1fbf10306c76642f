-- Numbers as bytes, the highest first.
use Rattle.std.specs.Prelude.{ℕ, ◌<◌, List, drop, slice_index}
use Rattle.byteorder.specs.Endian.{big_bytes, big_number}

-- the w bytes of a number
unfoldable pub be_bytes : ℕ → ℕ → List ℕ
be_bytes w n = big_bytes w n

-- the number in the w bytes from place at on
unfoldable pub number_at : ℕ → ℕ → List ℕ → ℕ
number_at w at bytes = big_number w (drop at bytes)

-- each of them is a byte
abbrev pub AreBytes : List ℕ → Type 0
AreBytes bytes = (i : ℕ) → slice_index bytes i < 256
