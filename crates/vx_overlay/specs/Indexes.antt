-- The buckets of the blocks that wait, by which the newest entry of a block is found.
use Rattle.std.specs.Prelude.{◌≡◌, ℕ, ◌+◌, ◌%◌, ◌^◌, ◌<◌, ◌≤◌, List, Some, length, slice_get, get_or, Bool, IsTrue}
use Rattle.vx_overlay.specs.Pending.{newest}
use Rattle.vx_overlay.specs.declared.entry.Entry.{Entry}

-- the bucket of a block, of so many
abbrev pub bucket : ℕ → ℕ → ℕ → ℕ
bucket n volume block = (block % 2 ^ 32 + volume) % n

-- Entries have numbers from `base` on. Each bucket has a number behind that of its last entry, and each entry one behind that of the
-- last earlier entry of its bucket.
pub record IsIndex (entries : List Entry) (earlier last : List ℕ) (base : ℕ) : Type 0 where
  pub behind : (p : ℕ) (e : Entry) → slice_get entries p ≡ Some e → base + p < get_or last (bucket (length last) e.volume e.block) 0
  pub behind_earlier : (p q : ℕ) (e f : Entry) → slice_get entries p ≡ Some e → slice_get entries q ≡ Some f → p < q
      → bucket (length last) e.volume e.block ≡ bucket (length last) f.volume f.block → base + p < get_or earlier q 0

-- the newest bytes of the block are those of the entry at this place
pub record NewestAt (entries : List Entry) (k volume block : ℕ) : Type 0 where
  pub entry : Entry
  pub there : slice_get entries k ≡ Some entry
  pub is : newest entries volume block ≡ Some entry.bytes

-- what an overlay keeps beside its entries, where the index may be given up
pub record IsIndexKept (entries : List Entry) (earlier last : List ℕ) (capacity room base : ℕ) (kept : Bool) : Type 0 where
  pub long : length earlier ≡ length entries
  pub room_is : room ≡ capacity
  pub some : 0 < length last
  pub small : base ≤ 2 ^ 62
  pub index : IsTrue kept → IsIndex entries earlier last base
