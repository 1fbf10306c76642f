-- Why a call on a log or on the volumes below it is refused.
use Rattle.std.specs.Prelude.{ℕ, IsTrue, Option, Result, Ok, Err}
use Rattle.vx_disk.specs.declared.shelf.ShelfError.{ShelfError}
use Rattle.vx_disk.specs.Causes.{BlamesUnit, DeviceCause, refusal_of}
use Rattle.vx_disk.specs.Disks.{Disks}
use Rattle.vx_disk.specs.Shelf.{Meaning}
use Rattle.vx_srl.specs.declared.errors.SrlNo.{SrlNo}
use Rattle.vx_srl.specs.declared.errors.SrlNo.TheVariants.{Other}

-- a call on the shelf, or several, or none: it stays up, or one of them failed
abbrev pub CallsStopped : {T : Type 0} → Meaning → Meaning → Result T ShelfError → Type 0
CallsStopped old new (Ok x) = (IsTrue old.down → ⊥) → IsTrue new.down → ⊥
CallsStopped old new (Err error) = DeviceCause old new (refusal_of error)

-- calls on the shelf, one at least: it is up behind them, or one of them failed
abbrev pub CallsEnded : {T : Type 0} → Meaning → Meaning → Result T ShelfError → Type 0
CallsEnded old new (Ok x) = IsTrue new.down → ⊥
CallsEnded old new (Err error) = DeviceCause old new (refusal_of error)

-- the same of a refusal of the log
abbrev pub BlamesLog : Option Disks → (unit : ℕ) → SrlNo → Type 0
BlamesLog disks unit (Other why) = BlamesUnit disks unit why
BlamesLog disks unit other = Unit {0}
