-- Why a scan is refused, and what is known of a shelf behind several reads.
use Rattle.std.proofs.Common.{◌≡◌, inl, inr, ⊎_elim, ℕ, ◌≤◌, Err, sym, subst, arith}
use Rattle.vx_disk.specs.Causes.{Cause}
use Rattle.vx_disk.specs.Counts.{Rose}
use Rattle.vx_disk.specs.Shelf.{Meaning, Nothing, Goes}
use Rattle.vx_disk.specs.declared.shelf.ShelfError.{ShelfError}
use Rattle.vx_disk.specs.declared.shelf.ShelfError.TheVariants.{Fault, Down}
use Rattle.vx_model.specs.declared.no.No.{No}
use Rattle.vx_ringio.specs.Tracks.{RingLies}
use Rattle.vx_srlfmt.specs.declared.header.Header.{Header}
use Rattle.vx_disk.specs.Causes.{DeviceCause, refusal_of}
use Rattle.vx_srl.specs.Scans.{ScanCause}

pub lies_still : (unit ring : ℕ) (old new : Meaning) → Goes Nothing old new → RingLies unit ring old → RingLies unit ring new
lies_still unit ring old new goes lies = record { exists = omega (arith, goes.units, lies.exists); within = omega (arith, goes.size unit, lies.within) }

pub rose_since : (a b d : ℕ) → a ≤ b → Rose b d → Rose a d
rose_since a b d le rose = record { fell_not = omega (arith, le, rose.fell_not); rose = ⊎_elim (λ more. inl (omega (arith, more, le))) (λ most. inr most) rose.rose }

-- a failed read behind others
pub failed_since : (T : Type 0) (old now new : Meaning) (unit : ℕ) (error : ShelfError) → Goes Nothing old now → Cause {T = T} now new unit (Err error) → DeviceCause old new (refusal_of error)
failed_since T old now new unit (Fault disk) goes cause = rose_since (old.disk_faults disk) (now.disk_faults disk) (new.disk_faults disk) (goes.disk_faults disk) cause.0.disk_count
failed_since T old now new unit Down goes cause = cause

scan_failed : (unit ring : ℕ) (h : Header) (old new : Meaning) (error : ShelfError) → DeviceCause old new (refusal_of error) → ScanCause unit ring h old new (refusal_of error)
scan_failed unit ring h old new (Fault disk) cause = cause
scan_failed unit ring h old new Down cause = cause

pub scan_stops : (T : Type 0) (unit ring : ℕ) (h : Header) (old now new : Meaning) (error : ShelfError) (why : No) → why ≡ refusal_of error → Goes Nothing old now → Cause {T = T} now new unit (Err error)
    → ScanCause unit ring h old new why
scan_stops T unit ring h old now new error why is goes cause =
    subst (λ (no : No). ScanCause unit ring h old new no) (sym is) (scan_failed unit ring h old new error (failed_since T old now new unit error goes cause))
