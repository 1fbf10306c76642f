-- Why a call on the disks of a group is refused.
use Rattle.std.specs.Prelude.{Result, Ok, Err}
use Rattle.vx_disk.specs.declared.shelf.ShelfError.{ShelfError}
use Rattle.vx_disk.specs.Causes.{DeviceCause, refusal_of}
use Rattle.vx_disk.specs.Shelf.{Meaning}

-- calls on the shelf, or none: one of them failed, or nothing is said
abbrev pub Failed : {T : Type 0} → Meaning → Meaning → Result T ShelfError → Type 0
Failed old new (Ok x) = Unit {0}
Failed old new (Err error) = DeviceCause old new (refusal_of error)
