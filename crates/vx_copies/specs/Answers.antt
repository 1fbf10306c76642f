-- What an import answers to what it found.
use Rattle.std.specs.Prelude.{◌≡◌, ◌⊎◌, ℕ, ◌+◌, ◌*◌, ◌<◌, Bool, not, ◌&&◌, true, false, IsTrue, if◌then◌else◌, Result, Ok, Err, List, [], ◌∷◌, slice_index_or}
use Rattle.vx_model.specs.declared.errors.Stop.{Stop}
use Rattle.vx_model.specs.declared.errors.Stop.TheVariants.{No as Refused, OutOfMemory as NoMemory}
use Rattle.vx_model.specs.declared.no.No.{No}
use Rattle.vx_model.specs.declared.no.No.TheVariants as refusal
use Rattle.vx_disk.specs.Counts.{Rose}
use Rattle.vx_disk.specs.Shelf.{Meaning, Image, Each}
use Rattle.vx_copyfmt.specs.Imports.{ImportOutcome, Found, Missing, NoConfig, Damaged, Format, import_of}
use Rattle.vx_config.specs.declared.config.Config.{Config}
use Rattle.vx_config.specs.declared.entry.DiskEntry.{DiskEntry}
use Rattle.vx_copies.specs.Bodies.{failed_in}
use Rattle.vx_copies.specs.Looking.{on_shelf}

-- the disks from this number on: those that can be read are held as good again
abbrev pub returned_from : (ℕ → Bool) → ℕ → List DiskEntry → List DiskEntry
returned_from readable k [] = []
returned_from readable k (d ∷ ds) = record { blocks = d.blocks; failed = d.failed && not (readable k) } ∷ returned_from readable (k + 1) ds

-- a configuration with its returned disks held as good again
abbrev pub returned : (ℕ → Bool) → Config → Config
returned readable c = record { serial = c.serial; site = c.site; disks = returned_from readable 0 c.disks; volumes = c.volumes; rvg = c.rvg }

-- the set of the disks that are held as good: bit D says so of disk D
abbrev pub good_set : List DiskEntry → ℕ
good_set [] = 0
good_set (d ∷ ds) = 2 * good_set ds + (if d.failed then 0 else 1)

-- the answer to what was found
abbrev pub answer_to : (ℕ → Bool) → ImportOutcome Config → Result (Config × ℕ) No
answer_to readable (Found c) = Ok (returned readable c, good_set c.disks)
answer_to readable (Missing disk) = Err (refusal.Missing disk)
answer_to readable NoConfig = Err refusal.NoConfig
answer_to readable (Damaged disk block stored computed) = Err (refusal.Damaged disk block stored computed)
answer_to readable (Format version) = Err (refusal.Format version)

-- this answer, or memory ran out
abbrev pub IsAnswer : Result (Config × ℕ) No → Result (Config × ℕ) Stop → Type 0
IsAnswer (Ok x) result = (result ≡ Err NoMemory) ⊎ (result ≡ Ok x)
IsAnswer (Err why) result = (result ≡ Err NoMemory) ⊎ (result ≡ Err (Refused why))

-- An import: which disks it could read, and an image as its reads gave it, decide the answer. The count of each disk that it could not
-- read rose, and that of each one that it could read is as it was.
pub record Imported (old new : Meaning) (result : Result (Config × ℕ) Stop) : Type 0 where
  pub readable : ℕ → Bool
  pub image : Image
  pub blamed : (u : ℕ) → u < old.units → readable u ≡ false → Rose (old.faults u) (new.faults u)
  pub still : (u : ℕ) → u < old.units → readable u ≡ true → new.faults u ≡ old.faults u
  pub read : IsTrue old.tells → Each old.reads image
  pub answer : IsAnswer (answer_to readable (import_of (on_shelf old) failed_in old.units readable image)) result

-- what an array of flags says of a disk
abbrev pub flag_at : List Bool → ℕ → Bool
flag_at flags u = slice_index_or flags u false
