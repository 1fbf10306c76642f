-- The parts of one message that have come, and the buffer that they are kept in.
use Rattle.std.specs.Prelude.{◌≡◌, ℕ, Bool, ◌+◌, ◌≤◌, nat_lt, if◌then◌else◌, unwrap_or, List, [], ◌∷◌, length, take, drop, flat_map, Option, Some, None}
use Rattle.std.specs.List.{list_all}
use Rattle.std.specs.Option.{is_some}
use Rattle.vx_model.specs.declared.limits.TheConstants.{PART_BYTES}

-- of each part its payload, where it has come
abbrev pub Parts : Type 0
Parts = List (Option (List ℕ))

-- what is kept of a part: its payload, but nothing from the 65th on, since no message has so many parts
abbrev pub kept_payload : ℕ → List ℕ → List ℕ
kept_payload k payload = if nat_lt k 65 then payload else []

-- every part has come
abbrev pub all_parts_came : Parts → Bool
all_parts_came parts = list_all is_some parts

abbrev pub bytes_of : Option (List ℕ) → List ℕ
bytes_of None = []
bytes_of (Some bytes) = bytes

-- the payloads, one after the other
abbrev pub joined_parts : Parts → List ℕ
joined_parts parts = flat_map bytes_of parts

-- a part that has come, in its place of 1,024 bytes
abbrev pub slot : Option ℕ → List ℕ → Option (List ℕ)
slot None place = None
slot (Some n) place = Some (take n place)

-- the parts with these lengths, in their places of a buffer
abbrev pub parts_came : List (Option ℕ) → List ℕ → Parts
parts_came [] buffer = []
parts_came (n ∷ rest) buffer = slot n (take PART_BYTES buffer) ∷ parts_came rest (drop PART_BYTES buffer)

abbrev pub IsAtMost : Option ℕ → Type 0
IsAtMost None = Unit {0}
IsAtMost (Some n) = n ≤ PART_BYTES

abbrev pub IsFullPart : Option ℕ → Type 0
IsFullPart None = Unit {0}
IsFullPart (Some n) = n ≡ PART_BYTES

-- all that have come are full, but for the last
abbrev pub AreFull : List (Option ℕ) → Type 0
AreFull [] = Unit {0}
AreFull (n ∷ []) = IsAtMost n
AreFull (n ∷ m ∷ rest) = IsFullPart n × AreFull (m ∷ rest)

-- the lengths and the buffer, as the program keeps them: room for the parts of the longest message
pub record IsGathered (count : ℕ) (lengths : List (Option ℕ)) (buffer : List ℕ) : Type 0 where
  pub told : length lengths ≡ 65535
  pub room : length buffer ≡ 66560
  pub few : count ≤ 65535
  pub full : AreFull (take count lengths)

-- the bytes of parts that are full but for the last
abbrev pub whole_length : List (Option ℕ) → ℕ
whole_length [] = 0
whole_length (n ∷ []) = unwrap_or n 0
whole_length (n ∷ m ∷ rest) = PART_BYTES + whole_length (m ∷ rest)
