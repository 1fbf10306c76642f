-- What writes make of the blocks of the volumes, block by block.
use Rattle.std.specs.Prelude.{◌≡◌, ℕ, ◌+◌, ◌<◌, ◌≤◌, MatchOption, List, length, map}
use Rattle.vx_model.specs.Content.{Content, Write, block_of}
use Rattle.vx_model.specs.declared.call.Update.{Update}
use Rattle.vx_disk.specs.Shelf.{Meaning, Image, Keeps}
use Rattle.vx_overlay.specs.Writes.{newest_of}
use Rattle.vx_ringlog.specs.Records.{Record, write_logged}
use Rattle.vx_rvg.specs.Views.{unit_of}

-- the writes that records log
abbrev pub writes_of : List Record → List Write
writes_of rs = map write_logged rs

-- the write of an update
abbrev pub write_of_update : Update → Write
write_of_update u = record { volume = u.vol; start = u.block; bytes = u.bytes }

-- the content has the volumes of these units, each with the unit's size, and no other
pub record HasSizes (vols : List ℕ) (c : Content) (m : Meaning) : Type 0 where
  pub each : (v : ℕ) → v < length vols → c.size v ≡ m.size (unit_of vols v)
  pub none : (v : ℕ) → length vols ≤ v → c.size v ≡ 0

-- whatever a crash leaves, the volumes with these writes over them have the content
pub record KeepsContent (vols : List ℕ) (c : Content) (xs : List Write) (m : Meaning) : Type 0 where
  pub each : (v b : ℕ) → b < c.size v → MatchOption (newest_of c.size xs v b) (Keeps m (unit_of vols v) b (c.block v b)) (λ bytes. bytes ≡ c.block v b)

-- the same of one image
pub record HasContent (vols : List ℕ) (c : Content) (xs : List Write) (i : Image) : Type 0 where
  pub each : (v b : ℕ) → b < c.size v → MatchOption (newest_of c.size xs v b) (i (unit_of vols v) b ≡ c.block v b) (λ bytes. bytes ≡ c.block v b)

-- block by block these bytes are those of the content
pub record ShowsContent (c : Content) (volume start count : ℕ) (bytes : List ℕ) : Type 0 where
  pub each : (k : ℕ) → k < count → block_of bytes k ≡ c.block volume (start + k)
