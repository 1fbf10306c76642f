-- A configuration whose replicated volume group may be another one, and how its volumes are named.
use Rattle.std.specs.Prelude.{◌≡◌, ◌<◌, ◌≤◌, ◌^◌, true, IsTrue, length, Err, IfErr, None, Ok, OnOk, Result, Some}
use Rattle.vx_config.specs.declared.config.Config.{Config}
use Rattle.vx_copies.specs.Commits.{MoreFailed}
use Rattle.vx_disk.specs.Shelf.{Goes, Meaning, Nothing}
use Rattle.vx_group.specs.Dets.{DetStops}
use Rattle.vx_group.specs.Finds.{GroupFinds}
use Rattle.vx_group.specs.Rvgs.{RvgEnds, set_rvg_refusal, with_rvg}
use Rattle.vx_group.specs.declared.group_core.GroupCore.{GroupCore}
use Rattle.vx_model.specs.declared.errors.Stop.{Stop}
use Rattle.vx_model.specs.declared.errors.Stop.TheVariants.{No as Refused, OutOfMemory}
use Rattle.vx_model.specs.declared.no.No.{No}
use Rattle.vx_model.specs.declared.no.No.TheVariants.{Device}
use Rattle.vx_model.specs.declared.units.Units.{Units}
use Rattle.vx_ground.specs.Accounts.{GroundState}
use Rattle.vx_ground.specs.Lifted.{volumes_over}

-- the same site and volumes; a plex that takes part did, and as many disks
pub record SameVolumes (c d : Config) : Type 0 where
  pub site : d.site ≡ c.site
  pub volumes : d.volumes ≡ c.volumes
  pub count : length d.disks ≡ length c.disks

-- what an account keeps of a group, with these volumes as its replicated volume group; that its disks may keep another one is said beside
abbrev pub named_state : Units → GroundState → GroundState
named_state units a = record a { config = with_rvg (Some units) a.config }

-- the disk that a refusal 7 names has a number of 32 bits
abbrev pub FewNo : No → Type 0
FewNo (Device disk) = disk < 2 ^ 32
FewNo other = Unit {0}

abbrev pub FewWhy : Stop → Type 0
FewWhy (Refused why) = FewNo why
FewWhy OutOfMemory = Unit {0}

abbrev pub FewStop : {T : Type 0} → Result T Stop → Type 0
FewStop (Ok x) = Unit {0}
FewStop (Err why) = FewWhy why

-- How these volumes are named over any disks: no volume changed; a refusal that holds before changes nothing, and else a device stops it.
pub record NamesGroup (units : Units) (c : GroupCore) (m : Meaning) (d : GroupCore) (m' : Meaning) (r : Result (Unit {0}) Stop) : Type 0 where
  pub refused : (why : No) → set_rvg_refusal c.inner.config units ≡ Some why → (r ≡ Err (Refused why)) × (d ≡ c)
  pub goes : Goes Nothing (volumes_over c m) (volumes_over d m')
  pub same : SameVolumes c.inner.config d.inner.config
  pub disks : MoreFailed m m' c.inner.config.disks d.inner.config.disks
  pub ends : RvgEnds units c.inner.config d.inner.config m' r
  pub trust : OnOk r (c.inner.committed ≡ true → d.inner.committed ≡ true)
  pub agreed : IfErr r (λ e. c.inner.committed ≡ true → d.inner.agreed ≡ true)
  pub later : c.inner.config.serial ≤ d.inner.config.serial
  pub finds : GroupFinds c d m m'
  pub up : OnOk r (IsTrue m'.down → ⊥)
  pub cause : set_rvg_refusal c.inner.config units ≡ None → DetStops m m' r
  pub few : FewStop r
