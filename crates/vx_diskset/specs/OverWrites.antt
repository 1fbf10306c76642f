-- What a write to a volume of the group below a replicated volume group answers, where it is none of that one's, and what it leaves of the site.
use Rattle.std.specs.Prelude.{◌≡◌, ℕ, Bool, true, false, List, length, Result, Ok, Err}
use Rattle.vx_disk.specs.Counts.{Rose}
use Rattle.vx_disk.specs.declared.shelf.Shelf.{Ghosts}
use Rattle.vx_events.specs.RvgOver.{note_loosened}
use Rattle.vx_grouped.specs.ConfigMoves.{LosesSome}
use Rattle.vx_grouped.specs.Ends.{plain_write}
use Rattle.vx_grouped.specs.GroupSites.{DownNoted, FitsPlain, UpNoted, site_disks, with_note}
use Rattle.vx_grouped.specs.SiteEnds.{ConfigGoes, PlainWrote}
use Rattle.vx_grouped.specs.declared.group_site.GroupSite.{GroupSite}
use Rattle.vx_history.specs.Groups.{GroupNode, NoteUnsettles, note_cut, note_doubt}
use Rattle.vx_history.specs.Steps.{crashed}
use Rattle.vx_history.specs.Stops.{IsFused}
use Rattle.vx_history.specs.World.{Node}
use Rattle.vx_model.specs.Content.{Write}
use Rattle.vx_model.specs.declared.no.No.{No}
use Rattle.vx_model.specs.declared.no.No.TheVariants.{Device, Down as IsOff}
use Rattle.vx_model.specs.declared.units.Units.{Units}
use Rattle.vx_diskset.specs.Aboves.{IsOutside, above_in, site_in}
use Rattle.vx_diskset.specs.GroupSets.{cut_behind, cut_value}
use Rattle.vx_diskset.specs.Noted.{IsNoteTidy, RestsNamed}
use Rattle.vx_diskset.specs.OverKeeps.{KeepsOver}
use Rattle.vx_diskset.specs.declared.over_set.OverSet.{OverSet}

module _ {R : Type 0} {g : Ghosts R} where
  -- A write as to a volume of any group; but behind one that failed or was cut off imports may disagree, as where something is begun.
  abbrev pub WroteBelow : Node → GroupNode → Write → GroupSite R g → GroupSite R g → Result (Unit {0}) No → Type 0
  WroteBelow n note x old new (Ok done) = PlainWrote n note x old new (Ok tt)
  WroteBelow n note x old new (Err (Device disk)) =
      (next : GroupNode) × (loosens : Bool) × NoteUnsettles false note next × IsNoteTidy (note_loosened loosens next)
      × UpNoted (with_note (note_loosened loosens (note_doubt x next)) n) (note_loosened loosens (note_doubt x next)) new
      × Rose ((site_disks old).disk_faults disk) ((site_disks new).disk_faults disk) × ConfigGoes (LosesSome (site_disks old) (site_disks new)) note next old new
  WroteBelow n note x old new (Err IsOff) =
      (next : GroupNode) × NoteUnsettles false note next × DownNoted (crashed (with_note (note_loosened true (note_cut x next)) n) 0) (note_loosened true (note_cut x next)) new × IsFused n.fuse
      × ConfigGoes (LosesSome (site_disks old) (site_disks new)) note next old new
  WroteBelow n note x old new (Err other) = ⊥

  -- of a site: where the volume is none of those of the replicated volume group that stands as it did, or the site crashed
  pub record WritesBelow (volume start : ℕ) (bytes : List ℕ) (r : Result (Unit {0}) No) (old new : OverSet R g) : Type 0 where
    pub wrote : (n : Node) (note : GroupNode) → UpNoted n note (site_in old) → FitsPlain note volume start (length bytes) → WroteBelow n note (plain_write volume start bytes) (site_in old) (site_in new) r
    pub cut : cut_value new.cut ≡ cut_behind r (plain_write volume start bytes) (cut_value old.cut)
    pub kept : IsOutside volume (above_in old) → KeepsOver old new
    pub named : (units : Units) (count : ℕ) (k : Node) (note : GroupNode) → DownNoted k note (site_in new) → RestsNamed units count (site_in new)
