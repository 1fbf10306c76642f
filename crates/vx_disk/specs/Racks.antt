-- What a rack is beside a shelf, and what its own calls do.
use Rattle.std.specs.Prelude.{◌≡◌, ◌⊎◌, ℕ, ◌<◌, ◌≤◌, false, replicate, IsTrue, IsFalse, Option, Some, None, List}
use Rattle.vx_model.specs.declared.errors.Stop.{Stop}
use Rattle.vx_model.specs.declared.errors.Stop.TheVariants.{No as Refused, OutOfMemory}
use Rattle.vx_model.specs.declared.no.No.TheVariants.{Device}
use Rattle.vx_model.specs.declared.limits.TheConstants.{BLOCK, MOST_FILE_BLOCKS, MOST_MEMORY_BLOCKS}
use Rattle.vx_disk.specs.Causes.{OnDisks}
use Rattle.vx_disk.specs.Counts.{Rose}
use Rattle.vx_disk.specs.Disks.{Disks, Fresh, Untouched, is_set}
use Rattle.vx_disk.specs.Shelf.{Meaning, Image}

-- the law of a rack
pub record IsRack (m : Meaning) : Type 0 where
  pub told : Disks
  pub is : m.disks ≡ Some told
  -- the disks are the units, so that the two counts are one
  pub counts : (d : ℕ) → m.disk_faults d ≡ m.faults d
  pub armed : m.armed ≡ is_set told.fuse
  -- where contents are told and it is down, a read gives the latest value: no write that failed leaves a block unsure then
  pub latest : IsTrue m.tells → IsTrue m.down → (u b : ℕ) (v : List ℕ) → m.reads u b v → v ≡ told.latest u b
  -- and where they are told a crash may leave the stable one
  pub stable : IsTrue m.tells → (u b : ℕ) → m.leaves u b (told.stable u b)
  -- of a block that is not loose it leaves no other
  pub settled : (u b : ℕ) (v : List ℕ) → told.loose u b ≡ false → m.leaves u b v → v ≡ told.stable u b
  -- where it is down, a crash has kept one value of each block
  pub at_rest : IsTrue m.down → (u b : ℕ) (v : List ℕ) → m.leaves u b v → m.reads u b v

-- units, contents and past are the same
pub record SameContents (old new : Meaning) : Type 0 where
  pub units : new.units ≡ old.units
  pub size : (u : ℕ) → new.size u ≡ old.size u
  pub tells : new.tells ≡ old.tells
  pub moment : new.moment ≡ old.moment
  pub reads : (u b : ℕ) (v : List ℕ) → new.reads u b v → old.reads u b v
  pub still_reads : (u b : ℕ) (v : List ℕ) → old.reads u b v → new.reads u b v
  pub leaves : (u b : ℕ) (v : List ℕ) → new.leaves u b v → old.leaves u b v
  pub still_leaves : (u b : ℕ) (v : List ℕ) → old.leaves u b v → new.leaves u b v
  pub now : (i : Image) → new.now i → old.now i
  pub still_now : (i : Image) → old.now i → new.now i
  pub since : (t : ℕ) (i : Image) → new.left_since t i → old.left_since t i
  pub keeps : (t : ℕ) (i : Image) → old.left_since t i → new.left_since t i

-- a rack that is not fitted, tells its contents, is up, and had no fault
pub record Bare (m : Meaning) : Type 0 where
  pub units : m.units ≡ 0
  pub tells : IsTrue m.tells
  pub up : IsFalse m.down
  pub unarmed : IsFalse m.armed
  pub no_faults : (d : ℕ) → m.disk_faults d ≡ 0

-- no count of faults changed
pub record SameCounts (old new : Meaning) : Type 0 where
  pub faults : (u : ℕ) → new.faults u ≡ old.faults u
  pub disk_faults : (d : ℕ) → new.disk_faults d ≡ old.disk_faults d

-- nothing changed but what is told of the disks, the fuse, and whether it is down
pub record Alike (old new : Meaning) : Type 0 where
  pub contents : SameContents old new
  pub counts : SameCounts old new

-- a crash: each image that it keeps is one that it might have left
pub record Stopped (old new : Meaning) : Type 0 where
  pub units : new.units ≡ old.units
  pub size : (u : ℕ) → new.size u ≡ old.size u
  pub tells : new.tells ≡ old.tells
  pub reads : (u b : ℕ) (v : List ℕ) → new.reads u b v → old.leaves u b v
  pub leaves : (u b : ℕ) (v : List ℕ) → new.leaves u b v → old.leaves u b v
  pub now : (i : Image) → new.now i → old.now i
  pub later : old.moment ≤ new.moment
  pub since : (t : ℕ) (i : Image) → t ≤ old.moment → new.left_since t i → old.left_since t i
  pub keeps : (t : ℕ) (i : Image) → t ≤ old.moment → old.left_since t i → new.left_since t i
  pub counts : SameCounts old new
  pub down : IsTrue new.down
  pub unarmed : IsFalse new.armed

-- the greatest number of blocks of one disk: in memory, and of files in a folder
abbrev pub most_blocks : {T : Type 0} → Option T → ℕ
most_blocks None = MOST_MEMORY_BLOCKS
most_blocks (Some dir) = MOST_FILE_BLOCKS

-- whether contents are still told after a fit: they are in memory, and may not be where there are files
abbrev pub Telling : {T : Type 0} → Option T → Meaning → Meaning → Type 0
Telling None old new = new.tells ≡ old.tells
Telling (Some dir) old new = IsTrue new.tells → IsTrue old.tells

-- after a fit: so many disks of so many blocks, each zero where contents are told
pub record Fitted (disks blocks : ℕ) (old new : Meaning) : Type 0 where
  pub units : new.units ≡ disks
  pub size : (u : ℕ) → u < disks → new.size u ≡ blocks
  pub zero_reads : (u b : ℕ) (v : List ℕ) → u < disks → b < blocks → new.reads u b v → v ≡ replicate BLOCK 0
  pub zeroed : (u b : ℕ) (v : List ℕ) → u < disks → b < blocks → new.leaves u b v → v ≡ replicate BLOCK 0
  pub later : old.moment ≤ new.moment
  pub since : (t : ℕ) (i : Image) → t ≤ old.moment → new.left_since t i → old.left_since t i ⊎ new.now i
  pub faults : (u : ℕ) → old.faults u ≤ new.faults u
  pub disk_faults : (d : ℕ) → old.disk_faults d ≤ new.disk_faults d
  pub up : IsFalse new.down
  pub armed : new.armed ≡ old.armed
  pub told : OnDisks old.disks new.disks Fresh

-- one of the disks failed in the call
pub record FitFailed (disks : ℕ) (old new : Meaning) (stop : Stop) : Type 0 where
  pub disk : ℕ
  pub there : disk < disks
  pub is : stop ≡ Refused (Device disk)
  pub rose : Rose (old.disk_faults disk) (new.disk_faults disk)

-- why a fit within the limits may stop: memory ran out, or a disk failed
abbrev pub FitStops : ℕ → Meaning → Meaning → Stop → Type 0
FitStops disks old new stop = (stop ≡ OutOfMemory) ⊎ FitFailed disks old new stop

-- after a fit that stopped nothing changed but the count of the disk that it names
pub record Unfitted (old new : Meaning) (stop : Stop) : Type 0 where
  pub contents : SameContents old new
  pub counts : (d : ℕ) → (new.disk_faults d ≡ old.disk_faults d) ⊎ (stop ≡ Refused (Device d))
  pub fell_not : (d : ℕ) → old.disk_faults d ≤ new.disk_faults d
  pub down : new.down ≡ old.down
  pub armed : new.armed ≡ old.armed
  pub told : OnDisks old.disks new.disks Untouched
