-- What calls on the group below a replicated volume group make of that.
use Rattle.std.specs.Prelude.{◌≡◌, IsFalse, Some}
use Rattle.vx_disk.specs.Moves.{Blocks}
use Rattle.vx_disk.specs.Racks.{Stopped}
use Rattle.vx_disk.specs.declared.shelf.Shelf.{Ghosts}
use Rattle.vx_group.specs.Settles.{LacksCommit}
use Rattle.vx_grouped.specs.declared.group_site.GroupSite.{GroupSite}
use Rattle.vx_grouped.specs.GroupSites.{idle_disks, laid_disks}
use Rattle.vx_grouped.specs.Volumes.{VolumesGo, laid_seen}
use Rattle.vx_grouped.specs.declared.group_site.GroupSite.TheVariants.{Up, Deported, Down}
use Rattle.vx_grouped.specs.declared.idle.Idle.{Idle}
use Rattle.vx_grouped.specs.declared.laid.Laid.{Laid}
use Rattle.vx_history.specs.Steps.{worked}
use Rattle.vx_history.specs.World.{Node}
use Rattle.vx_logimport.specs.declared.rested.Rested.{Rested}
use Rattle.vx_model.specs.declared.site.SiteState.TheVariants.{Up as IsUp}
use Rattle.vx_diskset.specs.Aboves.{above_in, site_in}
use Rattle.vx_diskset.specs.DiskSets.{CrashedAt}
use Rattle.vx_diskset.specs.Holds.{KeptBeside}
use Rattle.vx_diskset.specs.Stands.{RoleBy, SiteStands}
use Rattle.vx_diskset.specs.declared.above.Above.{Above}
use Rattle.vx_diskset.specs.declared.disk_set.DiskSet.TheVariants.{Over}
use Rattle.vx_diskset.specs.declared.over_set.OverSet.{OverSet}

module _ {R : Type 0} {g : Ghosts R} where
  -- a call was made on a group that was up, and then its disks crashed, whatever imports of them say
  pub record FellBelow (mine : Blocks) (old : Laid R g) (idle : Idle R g) : Type 0 where
    pub mid : Laid R g
    pub goes : VolumesGo mine (laid_seen old) (laid_seen mid)
    pub stopped : Stopped (laid_disks mid) (idle_disks idle)
    pub lacking : (r : Rested) → idle.rested ≡ Some r → LacksCommit mid.core.inner → ⊥

  -- what a call makes of the volumes of a group that was up, which may be down behind it: no block of them changed but these
  abbrev pub BelowGoes : Blocks → GroupSite R g → GroupSite R g → Type 0
  BelowGoes mine (Up old) (Up new) = VolumesGo mine (laid_seen old) (laid_seen new)
  BelowGoes mine (Up old) (Down idle) = FellBelow mine old idle
  BelowGoes mine (Up old) (Deported idle) = Unit {0}
  BelowGoes mine (Up old) other = ⊥
  BelowGoes mine old new = new ≡ old

  -- over a group that is up stands what stood there
  abbrev pub StaysAbove : Above → GroupSite R g → Above → Type 0
  StaysAbove old (Up laid) new = new ≡ old
  StaysAbove old other new = Unit {0}

  -- the group is up still, or its disks crashed
  abbrev pub StaysHere : GroupSite R g → Type 0
  StaysHere (Up laid) = IsFalse (laid_disks laid).down
  StaysHere (Down idle) = Unit {0}
  StaysHere other = ⊥

  -- It stands as it did; or the site crashed behind the call.
  abbrev pub KeptBy : KeptBeside → Node → OverSet R g → GroupSite R g → Type 0
  KeptBy beside n new (Up laid) = SiteStands beside (worked n) (Over new)
  KeptBy beside n new (Down idle) = CrashedAt beside n (Over new)
  KeptBy beside n new other = ⊥

  -- So each call leaves it at a site that is up, whether it runs or is halted, where the group is then as it is said. No updates come to wait behind it.
  pub record KeepsOver (old new : OverSet R g) : Type 0 where
    pub each : (beside : KeptBeside) (n : Node) → SiteStands beside n (Over old) → n.state ≡ IsUp → StaysHere (site_in new) → KeptBy beside n new (site_in new)
    pub above : (n : Node) → RoleBy n (above_in old) → RoleBy n (above_in new)
