-- The blocks of a log's unit, what a crash leaves of them, and lists of device calls.
use Rattle.std.specs.Prelude.{◌≡◌, ◌⊎◌, ℕ, List, [], ◌∷◌, ◌==◌, if◌then◌else◌}
use Rattle.vx_srlfmt.specs.Kinds.{Kind}

-- what each block of the unit is
abbrev pub RingImage : Type 0
RingImage = ℕ → Kind

-- what each block was made durably, and the values that were written since the last flush, the newest first
pub record Cells : Type 0 where
  pub stable : RingImage
  pub loose : List (ℕ × Kind)

-- one of the pairs is this value for this block
abbrev pub AmongPairs : ℕ → Kind → List (ℕ × Kind) → Type 0
AmongPairs b v [] = ⊥
AmongPairs b v (p ∷ ps) = ((p.0 ≡ b) × (p.1 ≡ v)) ⊎ AmongPairs b v ps

-- a crash may leave v in block b
abbrev pub May : Cells → ℕ → Kind → Type 0
May u b v = (v ≡ u.stable b) ⊎ AmongPairs b v u.loose

-- a crash may leave the image
abbrev pub IsImage : Cells → RingImage → Type 0
IsImage u i = (b : ℕ) → May u b (i b)

-- the newest value of a block
abbrev pub newest_value : RingImage → List (ℕ × Kind) → ℕ → Kind
newest_value s [] b = s b
newest_value s (p ∷ ps) b = if p.0 == b then p.1 else newest_value s ps b

-- what a read gives
abbrev pub read : Cells → RingImage
read u = newest_value u.stable u.loose

-- a device call: the write of one block, or a flush
pub data Act : Type 0 where
  Write : ℕ → Kind → Act
  Flush : Act

-- the unit after the write of one block
abbrev pub write : Cells → ℕ → Kind → Cells
write u b v = record { stable = u.stable; loose = (b, v) ∷ u.loose }

-- after a flush: what is read is durable
abbrev pub flush : Cells → Cells
flush u = record { stable = read u; loose = [] }

-- after a device call
abbrev pub act : Cells → Act → Cells
act u (Write b v) = write u b v
act u Flush = flush u

-- after these calls, one after another
abbrev pub run_all : Cells → List Act → Cells
run_all u [] = u
run_all u (a ∷ rest) = run_all (act u a) rest

-- P before, between and after these calls
abbrev pub Always : (Cells → Type 0) → Cells → List Act → Type 0
Always P u [] = P u
Always P u (a ∷ rest) = P u × Always P (act u a) rest

-- P of every image that a crash now may leave
abbrev pub Leaves : (RingImage → Type 0) → Cells → Type 0
Leaves P u = (i : RingImage) → IsImage u i → P i

-- a crash at some moment of these calls leaves the image
abbrev pub LeftBy : Cells → List Act → RingImage → Type 0
LeftBy u [] i = IsImage u i
LeftBy u (a ∷ rest) i = IsImage u i ⊎ LeftBy (act u a) rest i

-- the unit that a crash left: nothing is loose
abbrev pub still : RingImage → Cells
still i = record { stable = i; loose = [] }
