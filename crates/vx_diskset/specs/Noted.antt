-- What a site notes of its group of disks, below a replicated volume group or not.
use Rattle.std.specs.Prelude.{◌≡◌, ◌⊎◌, ℕ, [], false, IsFalse, IsTrue, Some, None, Result, map, length}
use Rattle.vx_model.specs.Content.{Write}
use Rattle.vx_disk.specs.Disks.{Disks}
use Rattle.vx_disk.specs.Shelf.{Each, Image, Meaning}
use Rattle.vx_disk.specs.declared.shelf.Shelf.{Ghosts}
use Rattle.vx_model.specs.declared.no.No.{No}
use Rattle.vx_model.specs.declared.site.Role.TheVariants.{Primary}
use Rattle.vx_model.specs.declared.site.SiteState.TheVariants.{Down as IsDown, Up as IsUp}
use Rattle.vx_model.specs.declared.units.Units.{Units}
use Rattle.vx_history.specs.Groups.{GroupNode, NoteWorks}
use Rattle.vx_history.specs.Steps.{crashed}
use Rattle.vx_history.specs.Stops.{IsFused}
use Rattle.vx_history.specs.Volumes.{as_volume}
use Rattle.vx_history.specs.World.{FuseSet, Node, NoFuse}
use Rattle.vx_groupmaps.specs.Loading.{DeviceRose}
use Rattle.vx_events.specs.GroupNotes.{note_at}
use Rattle.vx_events.specs.GroupViews.{config_of}
use Rattle.vx_events.specs.RvgFits.{HasUnits, data_of, entries_noted, rvg_noted}
use Rattle.vx_config.specs.declared.config.Config.{Config}
use Rattle.vx_copyfmt.specs.Imports.{Found}
use Rattle.vx_kept.specs.Groups.{found as finds}
use Rattle.vx_grouped.specs.ConfigMoves.{LosesSome}
use Rattle.vx_grouped.specs.GroupSites.{AwayNoted, CutNoted, DownNoted, FitsPlain, UpNoted, site_below, site_disks, with_note}
use Rattle.vx_grouped.specs.SiteEnds.{ConfigGoes}
use Rattle.vx_grouped.specs.declared.group_site.GroupSite.{GroupSite}
use Rattle.vx_grouped.specs.declared.group_site.GroupSite.TheVariants.{Up, Deported, Down}
use Rattle.vx_diskset.specs.Aboves.{InsideOf, IsInside, above_in, site_in}
use Rattle.vx_watched.specs.Since.{CalledSince, DisksGo, is_rack}
use Rattle.vx_watched.specs.Traces.{TellsLess}
use Rattle.vx_diskset.specs.Asked.{IsRawSet}
use Rattle.vx_diskset.specs.Burning.{OffIf}
use Rattle.vx_diskset.specs.Holds.{KeptBeside}
use Rattle.vx_diskset.specs.Layouts.{units_of}
use Rattle.vx_diskset.specs.Stands.{RoleBy, SiteStands, idle_ready}
use Rattle.vx_diskset.specs.declared.over_set.OverSet.{OverSet}
use Rattle.vx_diskset.specs.GroupSets.{cut_value}
use Rattle.vx_diskset.specs.declared.disk_set.DiskSet.{DiskSet}
use Rattle.vx_diskset.specs.declared.disk_set.DiskSet.TheVariants.{OfGroup, Over}

-- a site as its group has it, without its replicated volume group
abbrev pub below_rvg : Node → Node
below_rvg n = record n { role = Primary; volumes = []; log = []; safe = 0; halted = None }

-- no configuration is begun while imports agree
abbrev pub IsNoteTidy : GroupNode → Type 0
IsNoteTidy note = note.loose ≡ false → note.begun ≡ []

-- what a site notes of its group below a replicated volume group on these units: its configuration names that one
pub record TidyNote (units : Units) (note : GroupNode) : Type 0 where
  pub tidy : IsNoteTidy note
  pub named : rvg_noted note ≡ Some units

-- so does each configuration that an import may find, which has so many volumes
pub record FoundNamed (units : Units) (count : ℕ) (m : Meaning) : Type 0 where
  pub each : (i : Image) (x : Config) → Each m.leaves i → finds m i ≡ Found x → (x.rvg ≡ Some units) × (length x.volumes ≡ count)

-- a write to a volume of the group that was cut is whole blocks of it, and none is cut where the site is up
abbrev pub CutRests : Node → Type 0
CutRests n = (n.state ≡ IsUp → (note_at n).cut ≡ None) × ((x : Write) → (note_at n).cut ≡ Some x → FitsPlain (note_at n) x.volume x.start (length x.bytes))

-- the data volumes of a site are those of the replicated volume group of the configuration that it notes, which are volumes of it
abbrev pub IsNamed : Node → Type 0
IsNamed n = (c : Config) × (units : Units) × (config_of (note_at n).config ≡ Some c) × (c.rvg ≡ Some units) × (n.volumes ≡ map as_volume (data_of c.volumes units)) × HasUnits c.volumes units × CutRests n

-- where imports agreed, and nothing was begun, it is so behind the calls, or one of them failed
abbrev pub AgreesStill : GroupNode → GroupNode → Meaning → Meaning → Type 0
AgreesStill note next old new = (note.loose ≡ false → note.begun ≡ [] → (next.loose ≡ false) × (next.begun ≡ [])) ⊎ DeviceRose old new

-- a site whose group is noted as that of another one is
pub record NotesAs (n m : Node) : Type 0 where
  pub name : m.name ≡ n.name
  pub disks : m.disks ≡ n.disks
  pub blocks : m.blocks ≡ n.blocks
  pub volumes : m.volumes ≡ n.volumes
  pub group : m.group ≡ n.group
  pub state : m.state ≡ n.state
  pub fuse : m.fuse ≡ n.fuse

-- what calls make of disks: those that are made to fail are the same, and where they are up a fuse has no more calls left
pub record UnderCalls (old new : Meaning) : Type 0 where
  pub rack : is_rack new.disks ≡ is_rack old.disks
  pub units : new.units ≡ old.units
  pub falls : IsTrue old.down → IsTrue new.down
  pub told : (o n : Disks) → old.disks ≡ Some o → new.disks ≡ Some n → DisksGo new.down o n

-- the site of this node, whose disks crashed
pub record FellAs (n m : Node) : Type 0 where
  pub name : m.name ≡ n.name
  pub disks : m.disks ≡ n.disks
  pub blocks : m.blocks ≡ n.blocks
  pub volumes : m.volumes ≡ n.volumes
  pub group : m.group ≡ n.group
  pub state : m.state ≡ IsDown
  pub fuse : m.fuse ≡ NoFuse

module _ {R : Type 0} {g : Ghosts R} where
  -- the group, up or not, is as it is noted
  abbrev pub NotedOn : Node → GroupNode → GroupSite R g → Type 0
  NotedOn n note (Up laid) = UpNoted n note (Up laid)
  NotedOn n note (Deported idle) = AwayNoted n note (Deported idle)
  NotedOn n note (Down idle) = DownNoted n note (Down idle)
  NotedOn n note other = ⊥

  -- of disks by themselves: each configuration that an import may find names this replicated volume group, and has so many volumes
  abbrev pub RestsNamed : Units → (count : ℕ) → GroupSite R g → Type 0
  RestsNamed units count (Deported idle) = FoundNamed units count (idle_ready idle)
  RestsNamed units count (Down idle) = FoundNamed units count (idle_ready idle)
  RestsNamed units count other = Unit {0}

  -- so it is of the disks of a site, with the write that is cut
  abbrev pub SiteNoted : Node → GroupNode → DiskSet R g → Type 0
  SiteNoted n note (OfGroup s) = NotedOn n note s.site × (cut_value s.cut ≡ note.cut)
  SiteNoted n note (Over s) = NotedOn (below_rvg n) note (site_in s) × (cut_value s.cut ≡ note.cut) × InsideOf (units_of n) note × TidyNote (units_of n) note × RestsNamed (units_of n) (length (entries_noted note)) (site_in s)
  SiteNoted n note other = ⊥

  -- the group of a site with a replicated volume group over it is as the site notes it, and so are the data volumes of the site
  abbrev pub NotedOver : Node → DiskSet R g → Type 0
  NotedOver n (Over s) = ((note : GroupNode) → n.group ≡ Some note → SiteNoted n note (Over s)) × IsNamed n
  NotedOver n e = Unit {0}

  -- How a call on the replicated volume group of a site moves the note: its group is up still, or it crashed as its fuse ran out.
  abbrev pub NotesMoved : Node → GroupNode → GroupSite R g → DiskSet R g → GroupSite R g → DiskSet R g → Type 0
  NotesMoved n note below old below' new =
      (next : GroupNode) × NoteWorks note next × ConfigGoes (LosesSome (site_disks below) (site_disks below')) note next below below'
      × ((SiteNoted (with_note next n) next new × AgreesStill note next (site_disks below) (site_disks below')) ⊎ (SiteNoted (crashed (with_note next n) 0) next new × IsFused n.fuse))

  abbrev pub NotesOver : Node → GroupNode → DiskSet R g → DiskSet R g → Type 0
  NotesOver n note (Over old) (Over new) = NotesMoved n note (site_in old) (Over old) (site_in new) (Over new)
  NotesOver n note old new = Unit {0}

  -- the calls of a site on the disks below its replicated volume group
  abbrev pub CallsUnder : DiskSet R g → DiskSet R g → Type 0
  CallsUnder (Over old) (Over new) = UnderCalls (site_disks (site_in old)) (site_disks (site_in new))
  CallsUnder old new = Unit {0}

  -- a call on the replicated volume group of a site that is up: of a site without a group it says nothing
  pub record NotesOn (old new : DiskSet R g) : Type 0 where
    pub each : (beside : KeptBeside) (n : Node) (note : GroupNode) → SiteStands beside n old → n.state ≡ IsUp → SiteNoted n note old → NotesOver n note old new
    pub calls : CallsUnder old new

  -- The same before the crash: the group is up still, or its disks are down.
  abbrev pub NotesWorked : Node → GroupNode → GroupSite R g → GroupSite R g → Type 0
  NotesWorked n note below below' =
      (next : GroupNode) × NoteWorks note next × ConfigGoes (LosesSome (site_disks below) (site_disks below')) note next below below'
      × ((UpNoted (below_rvg (with_note next n)) next below' × AgreesStill note next (site_disks below) (site_disks below')) ⊎ (CutNoted (below_rvg (with_note next n)) next below' × IsFused n.fuse)) × IsNoteTidy next

  -- What each call on the replicated volume group of a site over a group makes of the group: the disks that are made to fail are the same, a fuse has no more calls
  -- left, no count falls; and so the note moves.
  pub record OverCalled (old new : OverSet R g) : Type 0 where
    pub since : CalledSince (site_disks (site_in old)) (site_disks (site_in new))
    pub told : TellsLess (site_below (site_in old)) (site_below (site_in new))
    pub cut : cut_value new.cut ≡ cut_value old.cut
    pub notes : (n : Node) (note : GroupNode) → UpNoted (below_rvg n) note (site_in old) → IsInside note (above_in old) → NotesWorked n note (site_in old) (site_in new)
    pub above : (n : Node) → RoleBy n (above_in old) → RoleBy n (above_in new)

  -- a call that leaves the note of a site over a group as it is
  pub record StaysNoted (old new : OverSet R g) : Type 0 where
    pub cut : cut_value new.cut ≡ cut_value old.cut
    pub each : (n : Node) (note : GroupNode) → NotedOn n note (site_in old) → NotedOn n note (site_in new)
    pub named : (units : Units) (count : ℕ) → RestsNamed units count (site_in old) → RestsNamed units count (site_in new)

  -- one that sets the fuse of a site that is up
  pub record FusesNoted (calls : ℕ) (old new : OverSet R g) : Type 0 where
    pub cut : cut_value new.cut ≡ cut_value old.cut
    pub each : (n : Node) (note : GroupNode) → UpNoted n note (site_in old) → UpNoted (record n { fuse = FuseSet calls }) note (site_in new)
    pub named : (units : Units) (count : ℕ) → RestsNamed units count (site_in old) → RestsNamed units count (site_in new)

  -- the same of disk sets: those that are not below a replicated volume group stay apart from one
  abbrev pub OversStay : DiskSet R g → DiskSet R g → Type 0
  OversStay (Over old) (Over new) = StaysNoted old new
  OversStay (Over old) other = ⊥
  OversStay old new = IsRawSet new

  abbrev pub OversFused : ℕ → DiskSet R g → DiskSet R g → Type 0
  OversFused calls (Over old) (Over new) = FusesNoted calls old new
  OversFused calls (Over old) other = ⊥
  OversFused calls old new = IsRawSet new

  -- So it is of disks that are below a replicated volume group, which are down behind the call exactly where it was answered 6; of others it says nothing.
  abbrev pub OversCalled : {T : Type 0} → DiskSet R g → DiskSet R g → Result T No → Type 0
  OversCalled (Over old) (Over new) r = OverCalled old new × (IsFalse (site_disks (site_in old)).down → OffIf r (site_disks (site_in new)).down)
  OversCalled (Over old) other r = ⊥
  OversCalled old new r = Unit {0}

  -- the crash behind it
  pub record OverFalls (old new : OverSet R g) : Type 0 where
    pub fallen : (n : Node) (note : GroupNode) → IsNoteTidy note → CutNoted n note (site_in old) → DownNoted (crashed n 0) note (site_in new)
    pub up : (n : Node) (note : GroupNode) → IsNoteTidy note → UpNoted n note (site_in old) → DownNoted (crashed n 0) note (site_in new)
    pub named : (n : Node) (note : GroupNode) (units : Units) → UpNoted n note (site_in old) ⊎ CutNoted n note (site_in old) → rvg_noted note ≡ Some units → RestsNamed units (length (entries_noted note)) (site_in new)
    pub counts : (d : ℕ) → (site_disks (site_in new)).disk_faults d ≡ (site_disks (site_in old)).disk_faults d
    pub cut : new.cut ≡ old.cut
    pub calls : UnderCalls (site_disks (site_in old)) (site_disks (site_in new))

  abbrev pub OversFall : DiskSet R g → DiskSet R g → Type 0
  OversFall (Over old) (Over new) = OverFalls old new
  OversFall (Over old) other = ⊥
  OversFall old new = IsRawSet new
