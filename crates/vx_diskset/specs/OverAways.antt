-- What a deport of the group below a replicated volume group answers, and what it leaves of the site.
use Rattle.std.specs.Prelude.{◌≡◌, ℕ, false, Bool, None, Result, Ok, Err}
use Rattle.vx_disk.specs.Counts.{Rose}
use Rattle.vx_disk.specs.declared.shelf.Shelf.{Ghosts}
use Rattle.vx_events.specs.RvgOver.{note_loosened}
use Rattle.vx_grouped.specs.ConfigMoves.{LosesSome}
use Rattle.vx_grouped.specs.GroupSites.{DownNoted, UpNoted, site_disks, with_note}
use Rattle.vx_grouped.specs.SiteEnds.{ConfigGoes, LacksDeport, SiteDeported}
use Rattle.vx_grouped.specs.declared.group_site.GroupSite.{GroupSite}
use Rattle.vx_grouped.specs.declared.group_site.GroupSite.TheVariants.{Down, Deported}
use Rattle.vx_grouped.specs.declared.idle.Idle.{Idle}
use Rattle.vx_history.specs.Groups.{GroupNode, NoteUnsettles}
use Rattle.vx_history.specs.Steps.{burned, crashed, deported_site, worked}
use Rattle.vx_history.specs.Stops.{IsFused}
use Rattle.vx_history.specs.World.{Node}
use Rattle.vx_model.specs.declared.errors.Stop.{Stop}
use Rattle.vx_model.specs.declared.errors.Stop.TheVariants.{No as Refused, OutOfMemory}
use Rattle.vx_model.specs.declared.no.No.TheVariants.{Device, Down as IsOff}
use Rattle.vx_model.specs.declared.site.SiteState.TheVariants.{Up as IsUp}
use Rattle.vx_model.specs.declared.units.Units.{Units}
use Rattle.vx_diskset.specs.Aboves.{site_in}
use Rattle.vx_diskset.specs.Holds.{KeptBeside}
use Rattle.vx_diskset.specs.Noted.{IsNoteTidy, RestsNamed}
use Rattle.vx_diskset.specs.OverKeeps.{KeepsOver}
use Rattle.vx_diskset.specs.Stands.{SiteStands}
use Rattle.vx_diskset.specs.declared.disk_set.DiskSet.TheVariants.{Over}
use Rattle.vx_diskset.specs.declared.over_set.OverSet.{OverSet}

-- a site whose group was deported: it has the writes that are durable, and its disks keep their fuse
abbrev pub given_up : Node → Node
given_up n = deported_site (burned n.fuse) (crashed n n.safe)

module _ {R : Type 0} {g : Ghosts R} where
  -- the same disks of a group that crashed, imports of which may disagree
  pub record Doubts (old new : Idle R g) : Type 0 where
    pub rack : new.rack ≡ old.rack
    pub agreed : new.agreed ≡ false
    pub rested : new.rested ≡ old.rested

  -- so they are where they crashed; else the group is as it was
  abbrev pub DoubtsFallen : GroupSite R g → GroupSite R g → Type 0
  DoubtsFallen (Down idle) new = (x : Idle R g) × (new ≡ Down x) × Doubts idle x
  DoubtsFallen old new = new ≡ old

  -- A deport as of any group; but behind one that failed or was cut off imports may disagree, as where something is begun.
  abbrev pub DeportedBelow : Node → GroupNode → GroupSite R g → GroupSite R g → Result (Unit {0}) Stop → Type 0
  DeportedBelow n note old new (Ok done) = SiteDeported n note old new (Ok tt)
  DeportedBelow n note old new (Err (Refused (Device disk))) =
      (next : GroupNode) × (loosens : Bool) × NoteUnsettles false note next × IsNoteTidy (note_loosened loosens next) × UpNoted (with_note (note_loosened loosens next) n) (note_loosened loosens next) new
      × Rose ((site_disks old).disk_faults disk) ((site_disks new).disk_faults disk) × ConfigGoes (LosesSome (site_disks old) (site_disks new)) note next old new
  DeportedBelow n note old new (Err (Refused IsOff)) =
      (next : GroupNode) × (loosens : Bool) × NoteUnsettles false note next × IsNoteTidy (note_loosened loosens next) × DownNoted (crashed (with_note (note_loosened loosens next) n) 0) (note_loosened loosens next) new
      × IsFused n.fuse × ConfigGoes (LosesSome (site_disks old) (site_disks new)) note next old new
  DeportedBelow n note old new (Err (Refused other)) = UpNoted (worked n) note new × LacksDeport old other
  DeportedBelow n note old new (Err OutOfMemory) = ⊥

  pub record DeportsBelow (r : Result (Unit {0}) Stop) (old new : OverSet R g) : Type 0 where
    pub deported : (n : Node) (note : GroupNode) → UpNoted n note (site_in old) → DeportedBelow n note (site_in old) (site_in new) r
    pub cut : new.cut ≡ old.cut
    pub kept : KeepsOver old new
    -- where the disks were given up, the replicated volume group kept what is safe
    pub away : (beside : KeptBeside) (n : Node) (idle : Idle R g) → SiteStands beside n (Over old) → n.state ≡ IsUp → n.halted ≡ None → site_in new ≡ Deported idle → SiteStands beside (given_up n) (Over new)
    pub named : (units : Units) (count : ℕ) (k : Node) (note : GroupNode) → DownNoted k note (site_in new) → RestsNamed units count (site_in new)
