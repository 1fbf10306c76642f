-- How a deport ends.
use Rattle.std.specs.Prelude.{◌≡◌, ◌⊎◌, ℕ, ◌<◌, Bool, true, false, length, Result, Ok, Err, ◌≤◌}
use Rattle.vx_disk.specs.Causes.{DeviceCause}
use Rattle.vx_disk.specs.Shelf.{Each, Image, Meaning, Nothing}
use Rattle.vx_model.specs.declared.errors.Stop.{Stop}
use Rattle.vx_model.specs.declared.errors.Stop.TheVariants.{No as Refused, OutOfMemory}
use Rattle.vx_config.specs.declared.config.Config.{Config}
use Rattle.vx_copyfmt.specs.Imports.{Found, settle}
use Rattle.vx_copies.specs.Bodies.{failed_in}
use Rattle.vx_copies.specs.Commits.{HeldGood, MoreFailed, Silent}
use Rattle.vx_kept.specs.Cleans.{at_serial, cleaned, is_unsure}
use Rattle.vx_kept.specs.Commits.{Member}
use Rattle.vx_kept.specs.Facts.{KeptFact}
use Rattle.vx_kept.specs.Groups.{found, found_by}
use Rattle.vx_kept.specs.Keeping.{Acts, Sees}
use Rattle.vx_kept.specs.Trusts.{FailsAll, Trusts}
use Rattle.vx_copies.specs.Answers.{good_set}
use Rattle.vx_volume.specs.Plexes.{active}
use Rattle.vx_group.specs.Moves.{Narrows}
use Rattle.vx_group.specs.Quiesces.{GivenBack, QuiescesBy}
use Rattle.vx_group.specs.Resumes.{CanImport}
use Rattle.vx_group.specs.Stands.{InnerStands}
use Rattle.vx_group.specs.declared.inner.Inner.{Inner}
use Rattle.vx_group.specs.Loses.{SameParts}

-- Whatever a crash leaves, an import that can read all disks finds one configuration: that of the group, with each plex that was ACTIVE
-- CLEAN, but for those of the volumes that are unsure; some disk is held as good by it. No block of a plex was touched. A group in which the plexes are ACTIVE may stand on
-- the disks.
pub record CleanCommitted (c : Inner) (old new : Meaning) : Type 0 where
  pub config : Config
  pub finds : (i : Image) → Each new.leaves i → found new i ≡ Found config
  pub reads : (i : Image) (readable : ℕ → Bool) (g : ℕ) → Each new.leaves i → HeldGood config new g → readable g ≡ true → found_by new readable i ≡ settle failed_in new.units readable config
  pub site : config.site ≡ c.config.site
  pub rvg : config.rvg ≡ c.config.rvg
  pub count : length config.disks ≡ length c.config.disks
  pub later : c.config.serial ≤ config.serial
  pub volumes : config.volumes ≡ (cleaned c.unsure c.config (length c.config.volumes)).volumes
  pub off : (v p : ℕ) → is_unsure c.unsure v ≡ false → active config v p ≡ false
  pub failing : MoreFailed old new c.config.disks config.disks
  pub acts : Acts Nothing (Sees c.config (Member c.good old) old) old new
  pub kept : KeptFact (at_serial config.serial c.config) (HeldGood config new) new
  pub trusts : c.committed ≡ true → Trusts true true (good_set config.disks) new
  pub some : FailsAll config.disks → ⊥

-- the group stands as it was, but for its serial and disks that failed
pub record CommitMissed (c d : Inner) (old new : Meaning) : Type 0 where
  pub stands : InnerStands d new
  pub parts : SameParts c.config d.config
  pub narrows : Narrows c d old new
  pub volumes : d.config.volumes ≡ c.config.volumes
  pub disks : d.config.disks ≡ c.config.disks

-- how its commit ends, by the parts of the group
abbrev pub CommitCloses : {T E : Type 0} → Inner → Inner → Meaning → Meaning → Result T E → Type 0
CommitCloses c d old new (Ok x) = CleanCommitted c old new
CommitCloses c d old new (Err stop) = CommitMissed c d old new

-- one of the volumes of the group
abbrev pub IsVolumeOf : Inner → ℕ → Type 0
IsVolumeOf c v = v < length c.config.volumes

-- Every volume was flushed, and then a commit made. Whatever a crash leaves, an import that can read all disks finds one configuration: that of
-- the group behind the flushes, with each plex that was ACTIVE CLEAN, but for those of the volumes that are unsure. Each plex that is CLEAN
-- by it has in each block what it read. A group in which the plexes are ACTIVE may stand on the disks.
pub record DeportedBy (by : Config) (c : Inner) (old new : Meaning) : Type 0 where
  pub behind : Inner
  pub quiesces : QuiescesBy by c behind (IsVolumeOf c) old new
  pub config : Config
  pub finds : (i : Image) → Each new.leaves i → found new i ≡ Found config
  pub reads : (i : Image) (readable : ℕ → Bool) (g : ℕ) → Each new.leaves i → HeldGood config new g → readable g ≡ true → found_by new readable i ≡ settle failed_in new.units readable config
  pub parts : SameParts c.config config
  pub volumes : config.volumes ≡ (cleaned behind.unsure behind.config (length c.config.volumes)).volumes
  pub off : (v p : ℕ) → is_unsure behind.unsure v ≡ false → active config v p ≡ false
  pub failing : MoreFailed old new c.config.disks config.disks
  pub kept : KeptFact (at_serial config.serial behind.config) (HeldGood config new) new
  pub trusts : c.committed ≡ true → Trusts true true (good_set config.disks) new
  pub some : FailsAll config.disks → ⊥

-- the same of a group that goes by its own configuration
abbrev pub Deported : Inner → Meaning → Meaning → Type 0
Deported c old new = DeportedBy c.config c old new

-- how it ends, by the parts of the group
abbrev pub Closes : {T E : Type 0} → Inner → Inner → Meaning → Meaning → Result T E → Type 0
Closes c d old new (Ok x) = Deported c old new
Closes c d old new (Err stop) = GivenBack c d old new

abbrev pub DeportStops : {S G : Type 0} → Meaning → (S → Meaning) → (G → S) → Result S (G × Stop) → Type 0
DeportStops old meaning shelf (Ok s) = Unit {0}
DeportStops old meaning shelf (Err (g, Refused why)) = DeviceCause old (meaning (shelf g)) why
DeportStops old meaning shelf (Err (g, OutOfMemory)) = ⊥

-- What was handed out may be imported, where the newest configuration was committed before; or where of each configuration that a crash may leave the
-- disks that it holds as failed say nothing by themselves, as where it holds none as failed.
abbrev pub GroupCanImport : {S G : Type 0} → Inner → (S → Meaning) → Result S (G × Stop) → Type 0
GroupCanImport c meaning (Ok s) = (c.committed ≡ true) ⊎ ((i : Image) (x : Config) → Each (meaning s).leaves i → found (meaning s) i ≡ Found x → Silent x (meaning s)) → CanImport (meaning s)
GroupCanImport c meaning (Err e) = Unit {0}
