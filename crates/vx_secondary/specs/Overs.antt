-- Blocks of a write over those of a volume.
use Rattle.std.specs.Prelude.{◌≡◌, ℕ, ◌+◌, ◌<◌, true, List, length, Some, slice_get}
use Rattle.vx_model.specs.Content.{Content, Write, blocks_in, block_of, block_after, is_within}

-- block by block, the write's where it has one, and else the old one
pub record IsPutOver (x : Write) (vol start : ℕ) (old new : List ℕ) : Type 0 where
  pub size : length new ≡ length old
  pub each : (k : ℕ) → k < blocks_in old → block_of new k ≡ block_after x vol (start + k) (block_of old k)

-- each of the writes ends within its volume
abbrev pub AreWithin : Content → List Write → Type 0
AreWithin c xs = (k : ℕ) (x : Write) → slice_get xs k ≡ Some x → is_within c x ≡ true
