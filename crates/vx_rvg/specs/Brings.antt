-- How logged writes come into their volumes.
use Rattle.std.specs.Prelude.{◌≡◌, ℕ, ◌+◌, ◌-◌, ◌<◌, ◌≤◌, List, [], ◌∷◌, Some, All, length, take, drop, slice_get}
use Rattle.vx_disk.specs.Shelf.{Meaning, Holds, Keeps}
use Rattle.vx_overlay.specs.Pending.{newest}
use Rattle.vx_srl.specs.declared.kept.Kept.{Kept}
use Rattle.vx_rvg.specs.Views.{Core, unit_of, applied_count, blocks_within, volume_size}

-- a block that a record puts, where it ends within its volume
pub record IsPut (size : ℕ → ℕ) (k : Kept) (v b : ℕ) : Type 0 where
  pub volume : v ≡ k.head.vol
  pub within : k.head.block + k.head.count ≤ size v
  pub first : k.head.block ≤ b
  pub last : b < k.head.block + k.head.count

-- a read gives the newest bytes that wait for each block that the record puts
pub record ReadsNewest (c : Core) (size : ℕ → ℕ) (m : Meaning) (k : Kept) : Type 0 where
  pub each : (v b : ℕ) (bytes : List ℕ) → IsPut size k v b → newest c.pending.entries v b ≡ Some bytes → Holds m (unit_of c.units.vols v) b bytes

-- a crash leaves them
pub record KeepsNewest (c : Core) (size : ℕ → ℕ) (m : Meaning) (k : Kept) : Type 0 where
  pub each : (v b : ℕ) (bytes : List ℕ) → IsPut size k v b → newest c.pending.entries v b ≡ Some bytes → Keeps m (unit_of c.units.vols v) b bytes

-- the blocks of the record of a number were written, so many of them, and those of each other record that were there are there
pub record BringsOne (c : Core) (n : ℕ) (old new : Meaning) (count : ℕ) : Type 0 where
  pub kept : Kept
  pub there : slice_get c.log.held (n - c.log.header.low) ≡ Some kept
  pub count_is : count ≡ blocks_within (volume_size c.units.vols old) (kept ∷ [])
  pub here : ReadsNewest c (volume_size c.units.vols old) new kept
  pub others : (k : Kept) → ReadsNewest c (volume_size c.units.vols old) old k → ReadsNewest c (volume_size c.units.vols old) new k

-- of each data volume a crash leaves what a read gave
pub record VolumesFlushed (vols : List ℕ) (old new : Meaning) : Type 0 where
  pub each : (v b : ℕ) (bytes : List ℕ) → v < length vols → new.leaves (unit_of vols v) b bytes → old.reads (unit_of vols v) b bytes

-- the records that are not applied, up to a number
abbrev pub due : Core → ℕ → List Kept
due c to = take (to - c.applied) (drop (applied_count c) c.log.held)

-- the blocks of these are in their volumes, durably, so many of them
pub record Brings (c : Core) (to : ℕ) (old new : Meaning) (count : ℕ) : Type 0 where
  pub count_is : count ≡ blocks_within (volume_size c.units.vols old) (due c to)
  pub each : All (KeepsNewest c (volume_size c.units.vols old) new) (due c to)
