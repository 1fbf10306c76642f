-- A replicated volume group over a group of disks that is up.
use Rattle.std.specs.Prelude.{◌≡◌, ◌≢◌, ℕ, Bool, Some}
use Rattle.vx_disk.specs.Causes.{OnDisks, WithDisks}
use Rattle.vx_disk.specs.Disks.{Crashed, Disks, SameBlocks, Untouched}
use Rattle.vx_disk.specs.Racks.{Alike, Stopped}
use Rattle.vx_disk.specs.declared.shelf.Shelf.{Ghosts}
use Rattle.vx_ground.specs.Accounts.{GroundSince, ground_state}
use Rattle.vx_ground.specs.Lifted.{laid_volumes}
use Rattle.vx_grouped.specs.GroupSites.{idle_below, idle_disks, laid_below, laid_disks, site_below, site_disks}
use Rattle.vx_grouped.specs.declared.group_site.GroupSite.{GroupSite}
use Rattle.vx_grouped.specs.Away.{IsAwayAt}
use Rattle.vx_grouped.specs.GroupNotes.{GroupLies, is_sure}
use Rattle.vx_grouped.specs.SiteMaps.{RestsNot}
use Rattle.vx_grouped.specs.declared.idle.Idle.{Idle}
use Rattle.vx_grouped.specs.declared.laid.Laid.{Laid}
use Rattle.vx_history.specs.Groups.{GroupNode}
use Rattle.vx_history.specs.World.{Node}
use Rattle.vx_model.specs.declared.site.SiteState.TheVariants.{Down as IsDown}
use Rattle.vx_rvg.specs.Views.{Core}
use Rattle.vx_watched.specs.Since.{CalledSince}
use Rattle.vx_watched.specs.Traces.{TellsLess}
use Rattle.vx_diskset.specs.Shelves.{ChangesOn}
use Rattle.vx_logimport.specs.declared.rested.Rested.{Rested}
use Rattle.vx_group.specs.Settles.{LacksCommit}

-- one of the disks is made to fail, or no longer
abbrev pub FailsOne : (disk : ℕ) → (on : Bool) → Disks → Disks → Type 0
FailsOne disk on o n = Untouched o n × (n.failing disk ≡ on) × ((u : ℕ) → u ≢ disk → n.failing u ≡ o.failing u)

-- so many writes and flushes of the disks pass
abbrev pub FusesFor : (calls pick : ℕ) → Disks → Disks → Type 0
FusesFor calls pick o n = SameBlocks o n × (n.fuse ≡ Some (calls, pick))

module _ {R : Type 0} {g : Ghosts R} where
  -- What a call on it makes of the group below and of its disks: no block of another volume has a value that it might not have.
  pub record FoundedWorks (c : Core) (old : Laid R g) (c' : Core) (new : Laid R g) : Type 0 where
    pub units : c'.units ≡ c.units
    pub moves : ChangesOn c (laid_volumes old) (laid_volumes new)
    pub ground : GroundSince (ground_state old.core) (laid_disks old) (ground_state new.core) (laid_disks new)
    pub since : CalledSince (laid_disks old) (laid_disks new)
    pub told : TellsLess (laid_below old) (laid_below new)

  -- the group below, over disks of which one is made to fail, or no longer
  pub record LaidFails (disk : ℕ) (on : Bool) (old new : Laid R g) : Type 0 where
    pub core : new.core ≡ old.core
    pub alike : Alike (laid_disks old) (laid_disks new)
    pub down : (laid_disks new).down ≡ (laid_disks old).down
    pub armed : (laid_disks new).armed ≡ (laid_disks old).armed
    pub disks : WithDisks (laid_disks old).disks (laid_disks new).disks (FailsOne disk on)
    pub volumes : Alike (laid_volumes old) (laid_volumes new)
    pub told : TellsLess (laid_below old) (laid_below new)

  -- over disks whose fuse was set
  pub record LaidFuses (calls pick : ℕ) (old new : Laid R g) : Type 0 where
    pub core : new.core ≡ old.core
    pub alike : Alike (laid_disks old) (laid_disks new)
    pub down : (laid_disks new).down ≡ (laid_disks old).down
    pub disks : OnDisks (laid_disks old).disks (laid_disks new).disks (FusesFor calls pick)
    pub volumes : Alike (laid_volumes old) (laid_volumes new)
    pub told : TellsLess (laid_below old) (laid_below new)

  -- no count of a disk changed, and as much is told of the disks
  pub record DisksAlike (old new : GroupSite R g) : Type 0 where
    pub counts : (d : ℕ) → (site_disks new).disk_faults d ≡ (site_disks old).disk_faults d
    pub tells : (site_disks new).tells ≡ (site_disks old).tells
    pub told : TellsLess (site_below old) (site_below new)

  -- The disks of it crashed with this pick. Where its newest configuration is not committed imports of them may disagree.
  pub record LaidFell (pick : ℕ) (old : Laid R g) (idle : Idle R g) : Type 0 where
    pub away : (n : Node) (note : GroupNode) → GroupLies n note old.core (laid_disks old) → IsAwayAt (record n { state = IsDown }) note old.core.inner.config (idle_disks idle)
    pub stopped : Stopped (laid_disks old) (idle_disks idle)
    pub agreed : idle.agreed ≡ is_sure old.core
    pub rests : RestsNot idle.rested
    pub lacking : (r : Rested) → idle.rested ≡ Some r → LacksCommit old.core.inner → ⊥
    pub disks : OnDisks (laid_disks old).disks (idle_disks idle).disks (Crashed (laid_disks old).size pick)
    pub told : TellsLess (laid_below old) (idle_below idle)
