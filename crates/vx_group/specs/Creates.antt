-- A new group.
use Rattle.std.specs.Prelude.{Err, List, None, Ok, Result, [], false, length, true, ℕ, ◌+◌, ◌≡◌, ◌≤◌, ◌⊎◌}
use Rattle.vx_disk.specs.Causes.{DeviceCause}
use Rattle.vx_disk.specs.Counts.{Rose}
use Rattle.vx_disk.specs.Shelf.{Meaning}
use Rattle.vx_model.specs.declared.errors.Stop.{Stop}
use Rattle.vx_model.specs.declared.errors.Stop.TheVariants.{No as Refused, OutOfMemory}
use Rattle.vx_model.specs.declared.no.No.TheVariants.{Size}
use Rattle.vx_copies.specs.Commits.{HaveLabels}
use Rattle.vx_copies.specs.Marks.{failed_at}
use Rattle.vx_copyio.specs.Labelling.{HasSmall}
use Rattle.vx_copyio.specs.Settling.{AllCleared}
use Rattle.vx_kept.specs.Commits.{IsCommitted}
use Rattle.vx_kept.specs.Trusts.{HasFailed}
use Rattle.vx_group.specs.Stands.{InnerStands}
use Rattle.vx_group.specs.declared.inner.Inner.{Inner}

-- the same units
pub record SameUnits (old new : Meaning) : Type 0 where
  pub units : new.units ≡ old.units
  pub size : (u : ℕ) → new.size u ≡ old.size u

-- each disk has a label and no header
pub record PreparedDisks (old new : Meaning) : Type 0 where
  pub same : SameUnits old new
  pub cleared : AllCleared new.units new
  pub labels : HaveLabels new

-- the disks are ready for a first commit, or a call on one failed
abbrev pub IsReady : {T : Type 0} → Meaning → Meaning → Result T Stop → Type 0
IsReady old new (Ok x) = PreparedDisks old new
IsReady old new (Err (Refused why)) = DeviceCause old new why
IsReady old new (Err OutOfMemory) = Unit {0}

-- A group without volumes stands on the disks, and each image has its configuration. A disk is held as failed only where a call on it failed, and imports
-- agree unless one is. The serial is small.
pub record IsNewGroup (site : ℕ) (old : Meaning) (core : Inner) (m : Meaning) : Type 0 where
  pub stands : InnerStands core m
  pub site_is : core.config.site ≡ site
  pub volumes : core.config.volumes ≡ []
  pub rvg : core.config.rvg ≡ None
  pub newest : IsCommitted core.config m
  pub trust : (core.committed ≡ true) ⊎ HasFailed core.config.disks
  pub failed : (u : ℕ) → failed_at core.config.disks u ≡ true → Rose (old.faults u) (m.faults u)
  pub few : core.config.serial ≤ 1 + length core.config.disks
  pub settled : core.unsettled ≡ false

-- what is answered where a group is made
abbrev pub Created : ℕ → Meaning → Meaning → Result Inner Stop → Type 0
Created site old new (Ok core) = IsNewGroup site old core new
Created site old new (Err (Refused why)) = (HasSmall old × (why ≡ Size)) ⊎ DeviceCause old new why
Created site old new (Err OutOfMemory) = Unit {0}
