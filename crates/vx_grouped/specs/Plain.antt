-- What a site's note says of the volumes of its group.
use Rattle.std.specs.Prelude.{◌≡◌, ℕ, ◌<◌, IsTrue, List}
use Rattle.vx_disk.specs.Shelf.{Covers, Meaning, piece}
use Rattle.vx_history.specs.Groups.{BlockMay, GroupNode}

-- The group, as a shelf of its volumes, has volumes of the sizes that are noted, and whatever a crash leaves of a block is a value that it may
-- have. So is what a read gives, as a crash may leave it.
pub record HoldsPlain (note : GroupNode) (m : Meaning) : Type 0 where
  pub size : (v : ℕ) → note.bytes.size v ≡ m.size v
  pub has : (v b : ℕ) (x : List ℕ) → v < m.units → b < m.size v → m.leaves v b x → BlockMay note v b x

-- what was read of a volume: where contents are told, of each block a value that it may have
pub record ReadsPlain (note : GroupNode) (m : Meaning) (v block : ℕ) (bytes : List ℕ) : Type 0 where
  pub each : IsTrue m.tells → (b : ℕ) → Covers v block bytes v b → BlockMay note v b (piece block bytes b)
