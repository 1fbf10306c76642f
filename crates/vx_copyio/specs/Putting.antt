-- What the writing of a copy makes of its disk.
use Rattle.std.specs.Prelude.{◌≡◌, ◌⊎◌, ℕ, ◌+◌, ◌<◌, ◌≤◌, Bool, true, false, ◌&&◌, not, IsTrue, if◌then◌else◌, Option, Some, None, List, take}
use Rattle.vx_disk.specs.declared.shelf.ShelfError.{ShelfError}
use Rattle.vx_disk.specs.declared.shelf.ShelfError.TheVariants.{Fault, Down}
use Rattle.vx_disk.specs.Blocks.{bit_at}
use Rattle.vx_disk.specs.Counts.{Rose}
use Rattle.vx_disk.specs.Moves.{Moves}
use Rattle.vx_disk.specs.Shelf.{Meaning, Image}
use Rattle.vx_copyfmt.specs.Areas.{header_of}
use Rattle.vx_copyfmt.specs.Copies.{Disk, area_a, area_b}
use Rattle.vx_copyfmt.specs.Commits.{Among, Fit, Forged, FromNew, FromOld, Lower, Tidy, Torn, exactly, target_of}
use Rattle.vx_copyfmt.specs.declared.area.AreaHeader.{AreaHeader}
use Rattle.vx_copyio.specs.declared.spread.CopyFailed.{CopyFailed}

-- the bodies that count behind a header of this serial, as themselves
abbrev pub those : (ℕ → List ℕ → Bool) → ℕ → List ℕ → Option (List ℕ)
those counts serial body = if counts serial body then Some body else None

-- where the next copy of a disk goes, by what reads gave of both headers
pub record IsTarget (disk area : ℕ) (m : Meaning) : Type 0 where
  pub first : List ℕ
  pub second : List ℕ
  pub in_a : IsTrue m.tells → m.leaves disk area_a first
  pub in_b : IsTrue m.tells → m.leaves disk area_b second
  pub is : area ≡ target_of (header_of first) (header_of second)

-- this serial and this body
pub record IsCopyMade (h : AreaHeader) (body : List ℕ) (serial : ℕ) (found : List ℕ) : Type 0 where
  pub serial_is : serial ≡ h.serial
  pub body_is : found ≡ take h.length body

-- Where a disk is ready for the new copy, and the new body counts, the disk has the copy of before or the new one, or that of before is torn;
-- and it is ready for the next copy.
pub record OldOrNew (disk : ℕ) (h : AreaHeader) (body : List ℕ) (m : Meaning) (d : Disk) : Type 0 where
  pub each : (counts : ℕ → List ℕ → Bool) → Fit (those counts) h.serial (m.leaves disk) → counts h.serial (take h.length body) ≡ true
      → FromOld (those counts) (m.leaves disk) d ⊎ FromNew (those counts) (IsCopyMade h body) (m.leaves disk) d ⊎ Torn (those counts) (m.leaves disk) d
  pub fit : (counts : ℕ → List ℕ → Bool) → Fit (those counts) h.serial (m.leaves disk) → counts h.serial (take h.length body) ≡ true
      → Tidy (those counts) (h.serial + 1) (exactly d) ⊎ Forged (m.leaves disk) d

-- the same of the disk in an image
abbrev pub InImage : ℕ → AreaHeader → List ℕ → Meaning → Image → Type 0
InImage disk h body m i = OldOrNew disk h body m (i disk)

-- whatever a crash leaves of it; and no header is above that of the new copy
pub record LeavesOldOrNew (disk : ℕ) (h : AreaHeader) (body : List ℕ) (old new : Meaning) : Type 0 where
  pub each : (d : Disk) → Among (new.leaves disk) d → OldOrNew disk h body old d
  pub lower : Lower h.serial (old.leaves disk) → Lower (h.serial + 1) (new.leaves disk)

-- where no header has this serial or a greater one, whatever a crash leaves of the disk has the new copy, and the next one goes to one area
pub record LeavesNew (disk : ℕ) (h : AreaHeader) (body : List ℕ) (old new : Meaning) : Type 0 where
  pub each : (counts : ℕ → List ℕ → Bool) (d : Disk) → Lower h.serial (old.leaves disk) → counts h.serial (take h.length body) ≡ true → Among (new.leaves disk) d
      → FromNew (those counts) (IsCopyMade h body) (old.leaves disk) d
  pub tidy : (counts : ℕ → List ℕ → Bool) → Lower h.serial (old.leaves disk) → counts h.serial (take h.length body) ≡ true → Tidy (those counts) (h.serial + 1) (new.leaves disk)

-- a crash leaves of the disk what it might have left before
pub record LeavesSame (disk : ℕ) (old new : Meaning) : Type 0 where
  pub each : (b : ℕ) (v : List ℕ) → new.leaves disk b v → old.leaves disk b v

-- the areas of these disks
pub record AreasOf (disks : ℕ → Type 0) (u b : ℕ) : Type 0 where
  pub on : disks u
  pub first : 1 ≤ b
  pub last : b ≤ 256

-- in the image each of these disks has the copy of before or the new one, or that of before is torn
pub record InImages (disks : ℕ → Type 0) (h : AreaHeader) (body : List ℕ) (m : Meaning) (i : Image) : Type 0 where
  pub each : (u : ℕ) → disks u → OldOrNew u h body m (i u)

-- Copies are written to these disks: at each moment a crash leaves each of them with the copy of before or the new one, or with that of
-- before torn, and the others as they were; and so it does now.
pub record Copied (disks : ℕ → Type 0) (h : AreaHeader) (body : List ℕ) (old new : Meaning) : Type 0 where
  pub moves : Moves (AreasOf disks) (InImages disks h body old) old new
  pub leaves : (u : ℕ) → disks u → LeavesOldOrNew u h body old new

-- each of these disks has the new copy
pub record AllNew (disks : ℕ → Type 0) (h : AreaHeader) (body : List ℕ) (old new : Meaning) : Type 0 where
  pub each : (u : ℕ) → disks u → LeavesNew u h body old new

-- a disk below n that is one of these
pub record IsMember (these : ℕ → Bool) (n : ℕ) (u : ℕ) : Type 0 where
  pub below : u < n
  pub is : these u ≡ true

-- the members of a set of disks, by their bits, that are members of the other set, or those that are not
abbrev pub part_of : ℕ → ℕ → Bool → ℕ → Bool
part_of set good true u = bit_at set u && bit_at good u
part_of set good false u = bit_at set u && not (bit_at good u)

-- where the shelf was up it is
abbrev pub KeepsUp : Meaning → Meaning → Type 0
KeepsUp old new = (IsTrue old.down → ⊥) → IsTrue new.down → ⊥

-- a fault of this disk, or the shelf is down
abbrev pub FailedOn : Meaning → Meaning → ℕ → ShelfError → Type 0
FailedOn old new u (Fault disk) = Rose (old.faults u) (new.faults u) × Rose (old.disk_faults disk) (new.disk_faults disk) × (IsTrue new.down → ⊥)
FailedOn old new u Down = IsTrue new.down

-- why a copy was not written: the disk is one of these, and its count rose, or the shelf is down; the others of them have the new copy, or are
-- as they were
pub record CopyStops (these : ℕ → Bool) (n : ℕ) (h : AreaHeader) (body : List ℕ) (old new : Meaning) (failed : CopyFailed) : Type 0 where
  pub member : IsMember these n failed.disk
  pub cause : FailedOn old new failed.disk failed.error
  pub others : (u : ℕ) → IsMember these n u → (u ≡ failed.disk → ⊥) → LeavesSame u old new ⊎ LeavesNew u h body old new

-- where copies stopped at a disk that is no member of the other set, each that is one has the new copy
pub record GoodFirst (set good n : ℕ) (h : AreaHeader) (body : List ℕ) (old new : Meaning) (failed : CopyFailed) : Type 0 where
  pub done : bit_at good failed.disk ≡ false → AllNew (IsMember (part_of set good true) n) h body old new
