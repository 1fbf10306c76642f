-- How the import of a group goes on behind what it took up: headers, volumes, the last commit.
use Rattle.std.specs.Prelude.{◌≡◌, ◌⊎◌, ℕ, ◌<◌, ◌≤◌, true, false, IsTrue, Bool, List, length, Result, Ok, Err}
use Rattle.vx_disk.specs.Causes.{DeviceCause}
use Rattle.vx_disk.specs.Counts.{Rose}
use Rattle.vx_disk.specs.Shelf.{Each, Image, Meaning}
use Rattle.vx_model.specs.declared.no.Counted.TheVariants.{Number as Numbers}
use Rattle.vx_model.specs.declared.no.No.{No}
use Rattle.vx_model.specs.declared.no.No.TheVariants.{Limit}
use Rattle.vx_config.specs.Table.{greatest}
use Rattle.vx_config.specs.declared.config.Config.{Config}
use Rattle.vx_copyfmt.specs.Imports.{Found}
use Rattle.vx_kept.specs.Cleans.{at_serial, is_unsure}
use Rattle.vx_kept.specs.Groups.{found}
use Rattle.vx_kept.specs.Trusts.{HasFailed}
use Rattle.vx_group.specs.Loses.{LosesPlexes}
use Rattle.vx_group.specs.Mends.{GroupGoesOn}
use Rattle.vx_group.specs.Quiesces.{AnyFailed}
use Rattle.vx_group.specs.Resumes.{IsMended, source_at}
use Rattle.vx_group.specs.declared.inner.Inner.{Inner}

-- the count of some disk or some unit rose
abbrev pub AnyFault : Meaning → Meaning → Type 0
AnyFault old new = AnyFailed old new ⊎ ((u : ℕ) × Rose (old.faults u) (new.faults u))

-- under a later serial the configuration is as it was, or a call failed
abbrev pub SameOr : Config → Config → Meaning → Meaning → Type 0
SameOr c d old new = ((c.serial < d.serial) × (d ≡ at_serial d.serial c)) ⊎ AnyFault old new

-- The group was committed: each image has its configuration, where all disks can be read.
pub record CommitMade (core d : Inner) (old new : Meaning) : Type 0 where
  pub on : GroupGoesOn core d old new
  pub settled : d.unsettled ≡ false
  pub up : IsTrue new.down → ⊥
  pub same : SameOr core.config d.config old new
  pub loses : LosesPlexes core.config d.config old new
  pub finds : (i : Image) → Each new.leaves i → found new i ≡ Found d.config
  pub trust : (d.committed ≡ true) ⊎ HasFailed d.config.disks

-- a commit of the group as it stands; 19 comes exactly where no serial is left
abbrev pub CommitsAs : {T : Type 0} → Inner → Inner → Meaning → Meaning → Result T No → Type 0
CommitsAs core d old new (Ok x) = CommitMade core d old new
CommitsAs core d old new (Err why) = GroupGoesOn core d old new × (DeviceCause old new why ⊎ ((why ≡ Limit Numbers greatest) × (greatest ≤ core.config.serial)))

-- the volumes that are marked were made alike, and the group was committed
pub record Renewed (core : Inner) (flags : List Bool) (sources : List ℕ) (d : Inner) (old new : Meaning) : Type 0 where
  pub made : CommitMade core d old new
  pub mended : (v : ℕ) → v < length core.config.volumes → is_unsure flags v ≡ true → IsMended core.config v (source_at sources v) d old new

-- why it stops there: a device failed, or calls on some did until the last serial was used
abbrev pub StopsLate : Meaning → Meaning → No → Type 0
StopsLate old new why = DeviceCause old new why ⊎ ((why ≡ Limit Numbers greatest) × AnyFailed old new)

abbrev pub Renews : {T : Type 0} → List Bool → List ℕ → Inner → Inner → Meaning → Meaning → Result T No → Type 0
Renews flags sources core d old new (Ok x) = Renewed core flags sources d old new
Renews flags sources core d old new (Err why) = GroupGoesOn core d old new × StopsLate old new why
