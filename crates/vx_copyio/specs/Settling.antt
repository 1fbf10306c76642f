-- Headers of areas that are written again: as they were read, so that each has one value, or as zeros, so that none is one.
use Rattle.std.specs.Prelude.{◌≡◌, ℕ, ◌<◌, IsTrue, None, List}
use Rattle.vx_model.specs.declared.limits.TheConstants.{BLOCK}
use Rattle.vx_disk.specs.Shelf.{Meaning}
use Rattle.vx_wire.specs.Fields.{zero_bytes}
use Rattle.vx_copyfmt.specs.Areas.{header_of}
use Rattle.vx_copyfmt.specs.Commits.{IsHeaderBlock}

-- a value that a crash might have left in this block before
pub record AsLeft (disk block : ℕ) (m : Meaning) (u b : ℕ) (v : List ℕ) : Type 0 where
  pub there : u ≡ disk
  pub at : b ≡ block
  pub value : IsTrue m.tells → m.leaves u b v

-- the same in either header of the disk
pub record HeadersAsLeft (disk : ℕ) (m : Meaning) (u b : ℕ) (v : List ℕ) : Type 0 where
  pub there : u ≡ disk
  pub header : IsHeaderBlock b
  pub value : IsTrue m.tells → m.leaves u b v

-- reads of the block give one value
pub record OneRead (u b : ℕ) (m : Meaning) : Type 0 where
  pub same : (v w : List ℕ) → m.reads u b v → m.reads u b w → v ≡ w

-- a crash leaves one value in each header of the disk
pub record OneLeft (u : ℕ) (m : Meaning) : Type 0 where
  pub same : (b : ℕ) (v w : List ℕ) → IsHeaderBlock b → m.leaves u b v → m.leaves u b w → v ≡ w

-- zeros in either header of some disk
pub record HeadersZero (m : Meaning) (u b : ℕ) (v : List ℕ) : Type 0 where
  pub there : u < m.units
  pub header : IsHeaderBlock b
  pub value : v ≡ zero_bytes BLOCK

-- a crash leaves no header in the areas of the disk
pub record NoHeaders (u : ℕ) (m : Meaning) : Type 0 where
  pub none : (b : ℕ) (v : List ℕ) → IsHeaderBlock b → m.leaves u b v → header_of v ≡ None

-- the same of each disk below n
pub record AllCleared (n : ℕ) (m : Meaning) : Type 0 where
  pub each : (u : ℕ) → u < n → NoHeaders u m
