-- Zeros that are written on the disks of a site.
use Rattle.std.specs.Prelude.{◌≡◌, ℕ, ◌<◌, Option, List}
use Rattle.vx_model.specs.Content.{zero_block}
use Rattle.vx_disk.specs.Causes.{WithDisks}
use Rattle.vx_disk.specs.Disks.{Disks}
use Rattle.vx_disk.specs.Shelf.{Goes, Keeps, Meaning}
use Rattle.vx_diskset.specs.Zeros.{OnlyZeros}

-- zeros of one disk
pub record IsZeroOf (disk u b : ℕ) (v : List ℕ) : Type 0 where
  pub there : u ≡ disk
  pub value : v ≡ zero_block

-- reads of the blocks of a disk before this one give zeros
pub record GivesZeros (disk below : ℕ) (m : Meaning) : Type 0 where
  pub each : (b : ℕ) (v : List ℕ) → b < below → m.reads disk b v → v ≡ zero_block

-- a crash leaves zeros on the disks before this one
pub record LeavesZeros (below : ℕ) (m : Meaning) : Type 0 where
  pub each : (u b : ℕ) → u < below → b < m.size u → Keeps m u b zero_block

-- each disk is made to fail or not as it was before
abbrev pub FailsAlike : Option Disks → Option Disks → Type 0
FailsAlike old new = WithDisks old new (λ o n. (u : ℕ) → n.failing u ≡ o.failing u)

-- the blocks of a disk before this one were written over
pub record ZeroesDisk (disk below : ℕ) (old new : Meaning) : Type 0 where
  pub goes : Goes (IsZeroOf disk) old new
  pub gives : GivesZeros disk below new
  pub failing : FailsAlike old.disks new.disks

-- the disks before this one were written over
pub record ZeroesDisks (below : ℕ) (old new : Meaning) : Type 0 where
  pub goes : Goes OnlyZeros old new
  pub leaves : LeavesZeros below new
  pub failing : FailsAlike old.disks new.disks
