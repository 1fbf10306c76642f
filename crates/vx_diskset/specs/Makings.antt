-- How a replicated volume group is made of volumes of the group of a site.
use Rattle.std.specs.Prelude.{◌≡◌, ℕ, ◌<◌, ◌==◌, ◌||◌, false, IsFalse, List, [], Contains, Some, None, Result, Ok, Err}
use Rattle.vx_disk.specs.Counts.{Rose}
use Rattle.vx_disk.specs.declared.shelf.Shelf.{Ghosts}
use Rattle.vx_config.specs.Checks.{blocks_of}
use Rattle.vx_config.specs.Table.{greatest}
use Rattle.vx_config.specs.declared.config.Config.{Config}
use Rattle.vx_events.specs.RvgFits.{data_of}
use Rattle.vx_events.specs.RvgNotes.{as_replicated, note_gained}
use Rattle.vx_history.specs.Groups.{BlockMay, GroupNode, NoteWorks}
use Rattle.vx_history.specs.Steps.{crashed}
use Rattle.vx_history.specs.Stops.{IsFused}
use Rattle.vx_history.specs.Volumes.{volumes_set}
use Rattle.vx_history.specs.World.{Node}
use Rattle.vx_model.specs.States.{first_state}
use Rattle.vx_model.specs.declared.errors.Stop.{Stop}
use Rattle.vx_model.specs.declared.errors.Stop.TheVariants.{No as Refused, OutOfMemory}
use Rattle.vx_model.specs.declared.no.Counted.TheVariants.{Number as Numbers}
use Rattle.vx_model.specs.declared.no.No.TheVariants.{Device, Down as IsOff, Limit, Role as OtherRole}
use Rattle.vx_model.specs.declared.units.Units.{Units}
use Rattle.vx_grouped.specs.ConfigMoves.{LosesSome}
use Rattle.vx_grouped.specs.GroupSites.{idle_disks, laid_disks, site_disks, with_note}
use Rattle.vx_grouped.specs.SiteEnds.{ConfigGoes}
use Rattle.vx_grouped.specs.SiteMaps.{StandMaps}
use Rattle.vx_grouped.specs.declared.group_site.GroupSite.{GroupSite}
use Rattle.vx_grouped.specs.declared.group_site.GroupSite.TheVariants.{Up, Down}
use Rattle.vx_diskset.specs.Aboves.{site_in}
use Rattle.vx_diskset.specs.Holds.{KeptBeside, state_with}
use Rattle.vx_diskset.specs.GroupSets.{cut_value}
use Rattle.vx_diskset.specs.Noted.{AgreesStill, NotedOn, SiteNoted}
use Rattle.vx_diskset.specs.Stands.{SiteStands}
use Rattle.vx_diskset.specs.declared.disk_set.DiskSet.{DiskSet}
use Rattle.vx_diskset.specs.declared.disk_set.DiskSet.TheVariants.{OfGroup, Over}

-- A site on its first line, in its first session, and never anything else: the header of a log that it begins says so.
pub record IsFirstSite (site : ℕ) (n : Node) : Type 0 where
  pub state : state_with n [] ≡ first_state site
  pub session : n.session ≡ 1
  pub low : n.low ≡ 1

-- The note behind volumes that were written as they read: a block of them has a value that it might have, of which there may be fewer now. Of the regions
-- that plexes missed nothing is said.
pub record NarrowsNote (told : Type 0) (units : Units) (note new : GroupNode) : Type 0 where
  pub size : (v : ℕ) → new.bytes.size v ≡ note.bytes.size v
  pub may : told → (v b : ℕ) (x : List ℕ) → Contains units.vols v → b < note.bytes.size v → BlockMay new v b x → BlockMay note v b x
  pub others : (v b : ℕ) → (Contains units.vols v → ⊥) → (new.bytes.block v b ≡ note.bytes.block v b) × (new.others v b ≡ note.others v b)
  pub same : new ≡ record note { bytes = new.bytes; others = new.others; maps = new.maps }

-- the note from which on nothing is noted of the volume of a log, as a header may stand on it
abbrev pub note_begun : Units → GroupNode → GroupNode
note_begun units note = record note { inside = λ v. (v == units.srl) || note.inside v }

-- the site with a replicated volume group on these units of its group
abbrev pub rvg_made : Config → Units → GroupNode → GroupNode → Node → Node
rvg_made c units middle next n = with_note next (volumes_set (blocks_of c.volumes units.srl) (data_of c.volumes units) (record n { group = Some middle }))

module _ {R : Type 0} {g : Ghosts R} where
  -- the group is up with its disks, or it crashed
  abbrev pub UpOrFell : GroupSite R g → Type 0
  UpOrFell (Up laid) = IsFalse (laid_disks laid).down
  UpOrFell (Down idle) = IsFalse (idle_disks idle).armed
  UpOrFell other = ⊥

  -- The group has no replicated volume group, and a header may stand on the volume of the log. Its commit may have been refused or cut off: then the disks may
  -- hold the configuration with one. `Still` is what is said of the note where imports agreed before, and of the site behind the line.
  abbrev pub MakesNone : (GroupNode → GroupNode → Type 0) → Node → GroupNode → Units → GroupSite R g → GroupSite R g → Type 0
  MakesNone Still n note units old below =
      (middle next : GroupNode) × NarrowsNote (note.dark ≡ false) units note middle × NoteWorks (note_begun units middle) next
      × ConfigGoes (LosesSome (site_disks old) (site_disks below)) middle next old below × StandMaps next below × Still (note_begun units middle) next

  -- the disks of a site that has no replicated volume group, as it is noted
  abbrev pub PlainNoted : Node → GroupNode → DiskSet R g → Type 0
  PlainNoted n note (OfGroup s) = NotedOn n note s.site × (cut_value s.cut ≡ note.cut)
  PlainNoted n note other = ⊥

  -- the site is up behind it, and where imports agreed they do, or a call on a disk failed
  abbrev pub StaysNone : Node → GroupSite R g → GroupSite R g → DiskSet R g → GroupNode → GroupNode → Type 0
  StaysNone n old below new begun next = AgreesStill begun next (site_disks old) (site_disks below) × PlainNoted (with_note next n) next new

  -- such disks, of a site without links that is not in doubt, whatever headers were written for it
  abbrev pub StandsUnlinked : Node → DiskSet R g → Type 0
  StandsUnlinked n e = (beside : KeptBeside) → beside.links ≡ [] → beside.doubt ≡ None → SiteStands beside n e

  -- The site has it, and its data volumes hold what is noted of them, each block one value that it might have. Or a device failed, no serial was left or memory was
  -- wanted: then it has none; or its fuse ran out, and so it is behind the crash. No other refusal comes.
  abbrev pub MakesRvgIs : ℕ → Node → GroupNode → Units → Config → GroupSite R g → DiskSet R g → GroupSite R g → Result (Unit {0}) Stop → Type 0
  MakesRvgIs site n note units c old new below (Ok done) =
      (middle settled : GroupNode) × NarrowsNote (note.dark ≡ false) units note middle × ((v b : ℕ) → Contains units.vols v → middle.others v b ≡ []) × NoteWorks middle settled
      × ConfigGoes (λ x y. LosesSome (site_disks old) (site_disks below) (as_replicated units x) y) middle settled old below
      × AgreesStill middle settled (site_disks old) (site_disks below)
      × StandsUnlinked (rvg_made c units middle (note_gained units settled) n) new
      × SiteNoted (rvg_made c units middle (note_gained units settled) n) (note_gained units settled) new
  MakesRvgIs site n note units c old new below (Err (Refused (Device disk))) =
      MakesNone (StaysNone n old below new) n note units old below × Rose ((site_disks old).disk_faults disk) ((site_disks below).disk_faults disk)
  MakesRvgIs site n note units c old new below (Err (Refused IsOff)) =
      MakesNone (λ begun next. PlainNoted (crashed (with_note next n) 0) next new) n note units old below × IsFused n.fuse
  MakesRvgIs site n note units c old new below (Err (Refused (Limit what most))) =
      (what ≡ Numbers) × (most ≡ greatest) × MakesNone (StaysNone n old below new) n note units old below
  MakesRvgIs site n note units c old new below (Err OutOfMemory) = MakesNone (StaysNone n old below new) n note units old below
  MakesRvgIs site n note units c old new below (Err (Refused other)) = ⊥

  abbrev pub below_in : DiskSet R g → GroupSite R g → GroupSite R g
  below_in (OfGroup s) else_site = s.site
  below_in (Over s) else_site = site_in s
  below_in other else_site = else_site

  -- any other site is not one of a group alone, and stays as it is
  abbrev pub MadeOver : ℕ → Node → GroupNode → Units → Config → DiskSet R g → DiskSet R g → Result (Unit {0}) Stop → Type 0
  MadeOver site n note units c (OfGroup s) new r = MakesRvgIs site n note units c s.site new (below_in new s.site) r
  MadeOver site n note units c old new r = (new ≡ old) × (r ≡ Err (Refused OtherRole))
