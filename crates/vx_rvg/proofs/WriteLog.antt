-- Why a call on the log is refused, as a group says it.
use Rattle.std.proofs.Common.{ℕ, ◌≤◌}
use Rattle.vx_model.specs.declared.no.No.{No}
use Rattle.vx_model.specs.declared.no.No.TheVariants as no
use Rattle.vx_disk.specs.Causes.{DeviceCause}
use Rattle.vx_disk.specs.Shelf.{Meaning}
use Rattle.vx_disk.proofs.Causing.{Rose_before}
use Rattle.vx_srl.specs.Calls.{LogCause}
use Rattle.vx_srl.specs.declared.errors.SrlNo.{SrlNo}
use Rattle.vx_srl.specs.declared.errors.SrlNo.TheVariants.{NoRoom, Overrun, Other}
use Rattle.vx_rvg.specs.Groups.{no_of}

pub cause_from : (old mid new : Meaning) (why : No) → ((d : ℕ) → old.disk_faults d ≤ mid.disk_faults d) → DeviceCause mid new why → DeviceCause old new why
cause_from old mid new (no.Device disk) le cause = Rose_before (old.disk_faults disk) (mid.disk_faults disk) (new.disk_faults disk) (le disk) cause
cause_from old mid new no.Down le cause = cause
cause_from old mid new other le cause = absurd cause

pub no_cause : (old new : Meaning) (why : SrlNo) → LogCause old new why → DeviceCause old new (no_of why)
no_cause old new (Other why) cause = cause
no_cause old new (NoRoom need free) cause = absurd cause
no_cause old new (Overrun low) cause = absurd cause
