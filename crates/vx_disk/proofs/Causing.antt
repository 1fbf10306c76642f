-- What a caller knows of an answer.
use Rattle.std.proofs.Common.{◌≡◌, refl, ℕ, ◌≤◌, Result, Ok, Err, OnOk, inl, inr, ⊎_elim, arith}
use Rattle.vx_model.specs.declared.no.No.{No}
use Rattle.vx_model.specs.declared.no.No.TheVariants as refusal
use Rattle.vx_disk.specs.declared.shelf.ShelfError.{ShelfError}
use Rattle.vx_disk.specs.declared.shelf.ShelfError.TheVariants.{Fault, Down}
use Rattle.vx_disk.specs.Causes.{Cause, DeviceCause, StaysUp}
use Rattle.vx_disk.specs.Counts.{Rose}
use Rattle.vx_disk.specs.Shelf.{Meaning}

-- at Ok it was up and is up
pub ok_up : {T : Type 0} (old new : Meaning) (unit : ℕ) (r : Result T ShelfError) → Cause old new unit r → OnOk r (StaysUp old new)
ok_up old new unit (Ok x) cause = cause
ok_up old new unit (Err e) cause = tt

-- and so it is after a fault
pub not_Down_up : {T : Type 0} (old new : Meaning) (unit : ℕ) (r : Result T ShelfError) → Cause old new unit r → (r ≡ Err Down → ⊥) → StaysUp old new
not_Down_up old new unit (Ok x) cause not = cause
not_Down_up old new unit (Err (Fault disk)) cause not = cause.1
not_Down_up old new unit (Err Down) cause not = absurd (not refl)

-- a count that rose in the second of two calls rose in both
pub Rose_before : (first mid last : ℕ) → first ≤ mid → Rose mid last → Rose first last
Rose_before first mid last le rose = record { fell_not = omega (arith, le, rose.fell_not); rose = ⊎_elim (λ below. inl (omega (arith, le, below))) (λ most. inr most) rose.rose }

-- and one that rose in the first rose in both
pub Rose_after : (first mid last : ℕ) → Rose first mid → mid ≤ last → Rose first last
Rose_after first mid last rose le = record { fell_not = omega (arith, le, rose.fell_not); rose = ⊎_elim (λ below. inl (omega (arith, le, below))) (λ most. inr (omega (arith, most, le))) rose.rose }

-- two calls on one unit: the first was up, so the cause of the second is the cause of both
pub Cause_both : {T : Type 0} (first mid last : Meaning) (unit : ℕ) (r : Result T ShelfError) → StaysUp first mid → ((u : ℕ) → first.faults u ≤ mid.faults u)
    → ((d : ℕ) → first.disk_faults d ≤ mid.disk_faults d) → Cause mid last unit r → Cause first last unit r
Cause_both first mid last unit (Ok x) up faults disk_faults cause = record { before = up.before; after = cause.after }
Cause_both first mid last unit (Err (Fault disk)) up faults disk_faults cause = (record { count = Rose_before _ _ _ (faults unit) cause.0.count; disk_count = Rose_before _ _ _ (disk_faults disk) cause.0.disk_count }, record { before = up.before; after = cause.1.after })
Cause_both first mid last unit (Err Down) up faults disk_faults cause = cause

-- the cause of the second of two calls is the cause of both
pub cause_before : (old mid new : Meaning) → ((d : ℕ) → old.disk_faults d ≤ mid.disk_faults d) → (why : No) → DeviceCause mid new why → DeviceCause old new why
cause_before old mid new less (refusal.Device disk) rose = Rose_before (old.disk_faults disk) (mid.disk_faults disk) (new.disk_faults disk) (less disk) rose
cause_before old mid new less refusal.Down down = down
cause_before old mid new less other none = absurd none
