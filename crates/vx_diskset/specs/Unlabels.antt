-- Labels of groups on the disks of a site: disks that have none, and how they are taken off.
use Rattle.std.specs.Prelude.{ℕ, ◌<◌}
use Rattle.vx_model.specs.Content.{zero_block}
use Rattle.vx_disk.specs.Shelf.{Goes, Keeps, Meaning, Nothing}
use Rattle.vx_disk.specs.Spends.{Spends}
use Rattle.vx_diskset.specs.Zeros.{OnlyZeros}

-- the first block of each disk holds zeros
pub record HasNoFront (m : Meaning) : Type 0 where
  pub each : (u : ℕ) → u < m.units → Keeps m u 0 zero_block

-- reads of the disks
pub record OnlyReads (old new : Meaning) : Type 0 where
  pub goes : Goes Nothing old new
  pub spends : Spends old new

-- calls that wrote nothing but zeros
pub record Unlabels (old new : Meaning) : Type 0 where
  pub goes : Goes OnlyZeros old new
  pub spends : Spends old new
