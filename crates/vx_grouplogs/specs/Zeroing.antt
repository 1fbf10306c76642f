-- Zeros in a run of blocks of a unit.
use Rattle.std.specs.Prelude.{◌≡◌, ℕ, ◌+◌, ◌<◌, List}
use Rattle.vx_model.specs.declared.limits.TheConstants.{BLOCK}
use Rattle.vx_disk.specs.Moves.{Run}
use Rattle.vx_disk.specs.Shelf.{Meaning}
use Rattle.vx_wire.specs.Fields.{zero_bytes}

-- a block of the run, of zeros
pub record ZerosIn (unit first blocks u b : ℕ) (x : List ℕ) : Type 0 where
  pub run : Run unit first blocks u b
  pub value : x ≡ zero_bytes BLOCK

-- a crash leaves zeros in each block of the run
pub record AreZeros (unit first blocks : ℕ) (m : Meaning) : Type 0 where
  pub each : (k : ℕ) (x : List ℕ) → k < blocks → m.leaves unit (first + k) x → x ≡ zero_bytes BLOCK
