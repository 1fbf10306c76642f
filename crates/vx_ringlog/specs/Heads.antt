-- The two headers of a log, in blocks 0 and 1.
use Rattle.std.specs.Prelude.{◌≡◌, ◌⊎◌, ℕ, ◌<◌}
use Rattle.vx_srlfmt.specs.Kinds.{Top}
use Rattle.vx_srlfmt.specs.declared.header.Header.{Header}
use Rattle.vx_ringlog.specs.Cells.{Cells, RingImage, May}
use Rattle.vx_ringlog.specs.Ready.{Sure}

-- a and o are the two blocks
abbrev pub HeadSlots : ℕ → ℕ → Type 0
HeadSlots a o = ((a ≡ 0) × (o ≡ 1)) ⊎ ((a ≡ 1) × (o ≡ 0))

-- whatever a crash leaves, h stands in block a, and block o holds none of an equal or greater stamp
pub record Heads (u : Cells) (a o : ℕ) (h : Header) : Type 0 where
  pub slots : HeadSlots a o
  pub sure : Sure u a (Top h)
  pub other : (g : Header) → May u o (Top g) → g.stamp < h.stamp

-- of an image: h stands in block `here`, and the other block holds none of an equal or greater stamp
pub record HeaderStands (i : RingImage) (here other : ℕ) (h : Header) : Type 0 where
  pub slots : HeadSlots here other
  pub top : i here ≡ Top h
  pub less : (f : Header) → i other ≡ Top f → f.stamp < h.stamp
