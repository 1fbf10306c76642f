-- Why a copy is refused.
use Rattle.std.proofs.Common.{◌≡◌, inl, inr, ⊎_elim, ℕ, ◌≤◌, ◌%◌, ◌^◌, false, IsTrue, Result, Ok, Err, ap, sym, subst, ◌∙◌}
use Rattle.std.specs.Prelude.{◌==◌, Option, Some, None, IfErr, OnOk}
use Rattle.std.proofs.Math.Nat.{zero-div}
use Rattle.vx_disk.specs.Blocks.{bit_at}
use Rattle.vx_disk.specs.Causes.{DeviceCause, refusal_of}
use Rattle.vx_disk.specs.Shelf.{Meaning}
use Rattle.vx_disk.specs.declared.shelf.ShelfError.{ShelfError}
use Rattle.vx_disk.specs.declared.shelf.ShelfError.TheVariants.{Fault, Down}
use Rattle.vx_disk.proofs.Causing.{Rose_before, cause_before}
use Rattle.vx_config.specs.declared.config.Config.{Config}
use Rattle.vx_model.specs.declared.no.No.{No}
use Rattle.vx_model.specs.declared.no.No.TheVariants as refusal
use Rattle.vx_volume.specs.Volumes.{EndsAt, PlexBlamed, PlexCause}
use Rattle.vx_resync.specs.Gathers.{CopyRefused, TargetRefused}

-- no bit of nothing is set
pub zero_bit : (set p : ℕ) → set ≡ 0 → bit_at set p ≡ false
zero_bit set p is = ap (λ (s : ℕ). bit_at s p) is ∙ ap (λ (n : ℕ). n % 2 == 1) (zero-div (2 ^ p))

pub later_cause : {T : Type 0} (old mid new : Meaning) → ((d : ℕ) → old.disk_faults d ≤ mid.disk_faults d) → (r : Result T No) → IfErr r (DeviceCause mid new) → IfErr r (DeviceCause old new)
later_cause old mid new less (Ok x) none = tt
later_cause old mid new less (Err why) cause = cause_before old mid new less why cause

-- of a call on one plex
pub plex_refused : (c : Config) (v p : ℕ) (old new : Meaning) (error : ShelfError) (why : No) → why ≡ refusal_of error → PlexCause {T = Unit {0}} c v p old new (Err error) → DeviceCause old new why
plex_refused c v p old new (Fault disk) why is cause = subst (λ (no : No). DeviceCause old new no) (sym is) cause.1
plex_refused c v p old new Down why is down = subst (λ (no : No). DeviceCause old new no) (sym is) down

-- and of one on all
pub ends_refused : (c : Config) (v : ℕ) (done : ℕ → Type 0) (old new : Meaning) (why : No) → EndsAt c v done old new (Err why) → DeviceCause old new why
ends_refused c v done old new (refusal.Device disk) failed = failed.rose
ends_refused c v done old new refusal.Down down = down
ends_refused c v done old new other ends = absurd ends

-- an answer by another
pub ok_by : {T E : Type 0} (A B : Type 0) (r : Result T E) → OnOk r A → (A → B) → OnOk r B
ok_by A B (Ok x) a step = step a
ok_by A B (Err e) none step = tt

-- ---- of a copy to one plex alone

-- a call on that plex
pub target_refused : (T : Type 0) (c : Config) (v p : ℕ) (old new : Meaning) (error : ShelfError) (why : No) → why ≡ refusal_of error → PlexCause {T = Unit {0}} c v p old new (Err error) → TargetRefused {T = T} c v (Some p) old new (Err why)
target_refused T c v p old new (Fault disk) why is cause = subst (λ (no : No). TargetRefused {T = T} c v (Some p) old new (Err no)) (sym is) cause
target_refused T c v p old new Down why is down = subst (λ (no : No). TargetRefused {T = T} c v (Some p) old new (Err no)) (sym is) down

-- a read of the other one
pub source_refused : (T : Type 0) (c : Config) (v source : ℕ) (to : Option ℕ) (old new : Meaning) (error : ShelfError) (why : No) → why ≡ refusal_of error → PlexCause {T = Unit {0}} c v source old new (Err error) → CopyRefused {T = T} c v source to old new (Err why)
source_refused T c v source None old new error why is cause = tt
source_refused T c v source (Some p) old new (Fault disk) why is cause = subst (λ (no : No). CopyRefused {T = T} c v source (Some p) old new (Err no)) (sym is) (inl cause.0, cause.1, cause.2)
source_refused T c v source (Some p) old new Down why is down = subst (λ (no : No). CopyRefused {T = T} c v source (Some p) old new (Err no)) (sym is) down

pub blamed_since : (c : Config) (v p : ℕ) (old mid new : Meaning) → ((u : ℕ) → old.faults u ≤ mid.faults u) → PlexBlamed c v p mid new → PlexBlamed c v p old new
blamed_since c v p old mid new less blamed = record { disk = blamed.disk; is_its = blamed.is_its; rose = Rose_before (old.faults blamed.disk) (mid.faults blamed.disk) (new.faults blamed.disk) (less blamed.disk) blamed.rose }

-- a call on the plex that is copied to, behind others
pub copy_refused : {T : Type 0} (c : Config) (v source : ℕ) (to : Option ℕ) (old mid new : Meaning) → ((u : ℕ) → old.faults u ≤ mid.faults u) → ((d : ℕ) → old.disk_faults d ≤ mid.disk_faults d) → (r : Result T No)
    → TargetRefused c v to mid new r → CopyRefused c v source to old new r
copy_refused c v source None old mid new faults disks r why = tt
copy_refused c v source (Some p) old mid new faults disks (Ok x) up = up
copy_refused c v source (Some p) old mid new faults disks (Err (refusal.Device disk)) why =
    (inr (blamed_since c v p old mid new faults why.0), Rose_before (old.disk_faults disk) (mid.disk_faults disk) (new.disk_faults disk) (disks disk) why.1, why.2)
copy_refused c v source (Some p) old mid new faults disks (Err refusal.Down) down = down
copy_refused c v source (Some p) old mid new faults disks (Err other) none = absurd none

-- a copy behind others
pub copy_refused_later : (T U : Type 0) (c : Config) (v source : ℕ) (to : Option ℕ) (old mid new : Meaning) → ((u : ℕ) → old.faults u ≤ mid.faults u) → ((d : ℕ) → old.disk_faults d ≤ mid.disk_faults d) → (why : No)
    → CopyRefused {T = T} c v source to mid new (Err why) → CopyRefused {T = U} c v source to old new (Err why)
copy_refused_later T U c v source None old mid new faults disks why cause = tt
copy_refused_later T U c v source (Some p) old mid new faults disks (refusal.Device disk) cause = (
  ⊎_elim (λ from. inl (blamed_since c v source old mid new faults from)) (λ to. inr (blamed_since c v p old mid new faults to)) cause.0,
  Rose_before (old.disk_faults disk) (mid.disk_faults disk) (new.disk_faults disk) (disks disk) cause.1,
  cause.2,
)
copy_refused_later T U c v source (Some p) old mid new faults disks refusal.Down down = down
copy_refused_later T U c v source (Some p) old mid new faults disks other none = absurd none

-- none was refused
pub copy_accepted : {T : Type 0} (c : Config) (v source : ℕ) (to : Option ℕ) (old new : Meaning) (x : T) → (IsTrue new.down → ⊥) → CopyRefused c v source to old new (Ok x)
copy_accepted c v source None old new x up = tt
copy_accepted c v source (Some p) old new x up = up

-- the refusal of a flush behind a copy answers another type
pub retyped : (T U : Type 0) (c : Config) (v : ℕ) (to : Option ℕ) (old new : Meaning) (why : No) → TargetRefused {T = T} c v to old new (Err why) → TargetRefused {T = U} c v to old new (Err why)
retyped T U c v None old new why cause = tt
retyped T U c v (Some p) old new (refusal.Device disk) cause = cause
retyped T U c v (Some p) old new refusal.Down cause = cause
retyped T U c v (Some p) old new other none = absurd none
