-- Why a call on a shelf failed, and what is told of the disks of a rack beside.
use Rattle.std.specs.Prelude.{◌≡◌, ◌≢◌, ◌⊎◌, ℕ, Option, Some, None, IsSome, IsTrue, false, Result, Ok, Err}
use Rattle.vx_disk.specs.declared.shelf.ShelfError.{ShelfError}
use Rattle.vx_disk.specs.declared.shelf.ShelfError.TheVariants.{Fault, Down}
use Rattle.vx_model.specs.declared.no.No.{No}
use Rattle.vx_model.specs.declared.no.No.TheVariants.{Device, Down as IsDown}
use Rattle.vx_disk.specs.Counts.{Rose}
use Rattle.vx_disk.specs.Disks.{Disks, Untouched, Burns, RanOut}
use Rattle.vx_disk.specs.Shelf.{Meaning}

-- both counts rose in the call
pub record Faulted (old new : Meaning) (unit disk : ℕ) : Type 0 where
  pub count : Rose (old.faults unit) (new.faults unit)
  pub disk_count : Rose (old.disk_faults disk) (new.disk_faults disk)

-- it is up before the call and after it
pub record StaysUp (old new : Meaning) : Type 0 where
  pub before : IsTrue old.down → ⊥
  pub after : IsTrue new.down → ⊥

-- a fault comes only where both counts rose, and Down exactly where the shelf is then down
abbrev pub Cause : {T : Type 0} → Meaning → Meaning → ℕ → Result T ShelfError → Type 0
Cause old new unit (Ok _) = StaysUp old new
Cause old new unit (Err (Fault disk)) = Faulted old new unit disk × StaysUp old new
Cause old new unit (Err Down) = IsTrue new.down

-- a call on a unit that answers Ok raises no count of faults, and one that fails that of no other unit
abbrev pub CountsOnly : {T : Type 0} → ℕ → Result T ShelfError → (ℕ → ℕ) → (ℕ → ℕ) → Type 0
CountsOnly unit (Ok _) old new = (u : ℕ) → new u ≡ old u
CountsOnly unit (Err _) old new = (u : ℕ) → u ≢ unit → new u ≡ old u

-- a write or a flush of a rack, where `step` is what it does if it answers Ok; one that failed may have done it in part, as far as a shelf may
abbrev pub Calls : {T : Type 0} → Meaning → (Disks → Disks → Type 0) → Disks → Disks → Result T ShelfError → Type 0
Calls m step old new (Ok _) = (IsTrue m.tells → step old new) × Burns old.fuse new.fuse
Calls m step old new (Err (Fault disk)) = Burns old.fuse new.fuse
Calls m step old new (Err Down) = (IsTrue m.down × Untouched old new) ⊎ RanOut m.size old new

-- of anything but a rack this says nothing
abbrev pub WithDisks : Option Disks → Option Disks → (Disks → Disks → Type 0) → Type 0
WithDisks None None P = Unit {0}
WithDisks None (Some new) P = ⊥
WithDisks (Some old) None P = ⊥
WithDisks (Some old) (Some new) P = P old new

-- the same of a call that leaves alone which disks are made to fail
abbrev pub OnDisks : Option Disks → Option Disks → (Disks → Disks → Type 0) → Type 0
OnDisks old new P = WithDisks old new (λ o n. P o n × ((u : ℕ) → n.failing u ≡ o.failing u))

-- the disk is not made to fail: on a rack an Ok comes only there
abbrev pub Works : Option Disks → ℕ → Type 0
Works None unit = Unit {0}
Works (Some disks) unit = disks.failing unit ≡ false

-- on a rack the disk of a fault is the unit
abbrev pub Names : {T : Type 0} → Option Disks → ℕ → Result T ShelfError → Type 0
Names None unit result = Unit {0}
Names (Some disks) unit (Ok _) = Unit {0}
Names (Some disks) unit (Err (Fault disk)) = disk ≡ unit
Names (Some disks) unit (Err Down) = Unit {0}

-- a failed call on a shelf as a refusal
abbrev pub refusal_of : ShelfError → No
refusal_of (Fault disk) = Device disk
refusal_of Down = IsDown

-- refusal 7 comes only where the count of its disk rose, and 6 only where the shelf is then down; no other comes of a device
abbrev pub DeviceCause : Meaning → Meaning → No → Type 0
DeviceCause old new (Device disk) = Rose (old.disk_faults disk) (new.disk_faults disk)
DeviceCause old new IsDown = IsTrue new.down
DeviceCause old new other = ⊥

-- where the shelf is a rack, a refusal 7 names the disk that is this unit
abbrev pub BlamesUnit : Option Disks → (unit : ℕ) → No → Type 0
BlamesUnit disks unit (Device disk) = IsSome disks → disk ≡ unit
BlamesUnit disks unit other = Unit {0}
