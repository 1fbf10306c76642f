-- Bits of bytes, one for each region.
use Rattle.std.specs.Prelude.{◌≡◌, ◌⊎◌, ℕ, ◌+◌, ◌-◌, ◌/◌, ◌%◌, ◌^◌, ◌==◌, ◌<◌, ◌≤◌, Bool, true, ◌&&◌, leb, ltb, if◌then◌else◌, List, slice_index}

-- bit k of a byte, from the lowest
abbrev pub bit : ℕ → ℕ → Bool
bit byte k = (byte / (2 ^ k)) % 2 == 1

-- the byte with bit k set or not
abbrev pub with_bit : ℕ → ℕ → Bool → ℕ
with_bit byte k value = if value then (if bit byte k then byte else byte + 2 ^ k) else (if bit byte k then byte - 2 ^ k else byte)

-- whether a region is marked
abbrev pub is_marked : List ℕ → ℕ → Bool
is_marked bytes r = bit (slice_index bytes (r / 8)) (r % 8)

-- whether a region is one of a run, the first and the last included
abbrev pub is_among : (start end : ℕ) → ℕ → Bool
is_among start end r = leb start r && leb r end

-- of the regions below a number those of a run have this value, and the others are as they were
pub record Changed (start end : ℕ) (value : Bool) (regions : ℕ) (old new : ℕ → Bool) : Type 0 where
  pub each : (r : ℕ) → r < regions → new r ≡ (if is_among start end r then value else old r)

-- the same of those of the run that lie below n
pub record ChangedBelow (start end : ℕ) (value : Bool) (n regions : ℕ) (old new : ℕ → Bool) : Type 0 where
  pub each : (r : ℕ) → r < regions → new r ≡ (if is_among start end r && ltb r n then value else old r)

-- those of a run may have this value, and the others are as they were
pub record Between (start end : ℕ) (value : Bool) (regions : ℕ) (old new : ℕ → Bool) : Type 0 where
  pub each : (r : ℕ) → r < regions → (new r ≡ old r) ⊎ ((is_among start end r ≡ true) × (new r ≡ value))

-- each region of a run has this value
pub record AllAre (start end : ℕ) (value : Bool) (marks : ℕ → Bool) : Type 0 where
  pub each : (r : ℕ) → start ≤ r → r ≤ end → marks r ≡ value
