-- How a line that is not open ends at a site over a group of disks with a replicated volume group: as at a raw set, but that disks may fail which a mirror
-- bears, and that the site notes what the line made of its group. One that reads a volume of the group which is no data volume reads that alone; and a deport ends as
-- that of a group without a replicated volume group.
use Rattle.std.specs.Prelude.{◌≡◌, ◌⊎◌, ℕ, ◌<◌, ◌||◌, Bool, true, false, List, [], ◌∷◌, ◌++◌, Option, Some, None, slice_get, unwrap_or, Contains}
use Rattle.vx_model.specs.declared.no.No.TheVariants.{Device, Down as IsOff}
use Rattle.vx_history.specs.Doubts.{Doubted}
use Rattle.vx_history.specs.Groups.{GroupNode, MissedNote}
use Rattle.vx_history.specs.Missing.{with_maps}
use Rattle.vx_history.specs.Stops.{IsFused, IsOpen}
use Rattle.vx_history.specs.Steps.{burned, worked_on}
use Rattle.vx_history.specs.declared.event.Event.TheVariants.{Crash as CrashAt}
use Rattle.vx_history.specs.World.{Fuse, FuseLit, FuseSet, NoFuse, Node, World, with_node}
use Rattle.vx_order.specs.Calls.{is_data}
use Rattle.vx_order.specs.declared.facts.VolumeFacts.{VolumeFacts}
use Rattle.vx_order.specs.declared.facts.VolumeKind.{VolumeKind}
use Rattle.vx_order.specs.declared.facts.VolumeKind.TheVariants.{Data, Srl, Map, Plain}
use Rattle.vx_script.specs.declared.line.ScriptLine.{ScriptLine}
use Rattle.vx_script.specs.declared.line.ScriptLine.TheVariants.{Apply, Disk, Fuse as FuseLine, GroupDeport, PlexAttach, PlexDetach, Put, Read, Recover, Show, Status, Volume, Write, GroupImport}
use Rattle.vx_events.specs.Doubts.{IsAs, run_as}
use Rattle.vx_events.specs.Ends.{Ends, place_of as site_of}
use Rattle.vx_events.specs.Facts.{place_of, site_number}
use Rattle.vx_events.specs.Fails.{Fails}
use Rattle.vx_events.specs.GroupEnds.{AreOf, GroupCuts, GroupEnds, IsLeftOver, VolumeOut}
use Rattle.vx_events.specs.GroupLines.{noting, plain_number}
use Rattle.vx_events.specs.GroupNotes.{IsKnown, note_at}
use Rattle.vx_events.specs.GroupReplies.{GivesPlain}
use Rattle.vx_events.specs.RvgBack.{RvgBack, RvgFinds}
use Rattle.vx_events.specs.RvgMakes.{noting_in}
use Rattle.vx_events.specs.RvgViews.{over_disks, table_at}
use Rattle.vx_events.specs.Lists.{crash_count}
use Rattle.vx_events.specs.RvgWorks.{FuseRanOut, NoneFailed, NotesWork}
use Rattle.vx_events.specs.declared.said.Said.{Said}
use Rattle.vx_events.specs.declared.said.Said.TheVariants.{Refused, Shown}
use Rattle.vx_events.specs.RvgTakes.{RvgTakes}

-- ---- kinds of lines

abbrev pub fact_kind : Option VolumeFacts → VolumeKind
fact_kind None = Plain
fact_kind (Some volume) = volume.kind

-- what the volume of this name is to the replicated volume group of the site
abbrev pub kind_named : Node → List ℕ → VolumeKind
kind_named n name = fact_kind (slice_get (table_at n) (unwrap_or (place_of (table_at n) name) 0))

abbrev pub is_plain_kind : VolumeKind → Bool
is_plain_kind Data = false
is_plain_kind Srl = false
is_plain_kind Map = false
is_plain_kind Plain = true

-- ---- notes

-- what calls of a line leave of the note of a group
abbrev pub NotesLine : (Off : Type 0) → (s : ℕ) → Fails → ScriptLine → GroupNode → GroupNode → Type 0
NotesLine Off s fails (Write site volume start count fill) note next = NotesWork Off s fails note next
NotesLine Off s fails (Put site volume start bytes) note next = NotesWork Off s fails note next
NotesLine Off s fails (Read site volume start count) note next = NotesWork Off s fails note next
NotesLine Off s fails (Show site volume start count) note next = NotesWork Off s fails note next
NotesLine Off s fails (Apply site to) note next = NotesWork Off s fails note next
NotesLine Off s fails other note next = next ≡ note

-- ---- replies

-- the reply of a raw set, in which a status shows the disks and the volumes of the group too
abbrev pub SaysOver : Node → GroupNode → Said → Said → Type 0
SaysOver n note (Shown view) said = said ≡ Shown (over_disks n note view)
SaysOver n note other said = said ≡ other

-- ---- fuses

-- The fuse behind calls. How many a line makes on the disks below a replicated volume group is not said: a fuse that is still there has no more left than before.
abbrev pub burnt_over : (old new : Fuse) → Fuse
burnt_over old NoFuse = NoFuse
burnt_over old (FuseSet calls) = burned old
burnt_over old (FuseLit most) = burned old

-- the fuse behind a line
abbrev pub fuse_behind : ScriptLine → (old new : Fuse) → Fuse
fuse_behind (Disk site disk state) old new = new
fuse_behind (FuseLine site calls pick) old new = new
fuse_behind (Status site) old new = new
fuse_behind other old new = burnt_over old new

-- the world v behind a line that began in the world w, in which the site has this note of its group
abbrev pub noting_over : ScriptLine → (w v : World) → (s : ℕ) → GroupNode → World
noting_over line w v s note = with_node v s (record (v.nodes s) { group = Some note; fuse = fuse_behind line (w.nodes s).fuse (v.nodes s).fuse })

-- ---- ends

-- A line on the replicated volume group or on the site. Some failed calls were borne; by the others the line ended, as at a raw set.
pub record EndsOver (told : Type 0) (d : Doubted) (line : ScriptLine) (s : ℕ) (fails : Fails) (said : Said) (new : Doubted) : Type 0 where
  pub borne : Fails
  pub ending : Fails
  pub split : fails ≡ borne ++ ending
  pub bears : AreOf s borne
  pub inner : Said
  pub middle : Doubted
  pub ends : Ends (IsKnown told (note_at (d.world.nodes s))) d line (site_of d.world line) ending inner middle
  pub next : GroupNode
  pub notes : NotesLine (FuseRanOut (d.world.nodes s) inner) s fails line (note_at (d.world.nodes s)) next
  pub says : SaysOver (d.world.nodes s) next inner said
  pub left : IsAs middle (noting_over line d.world middle.world s next) new

-- no plex of a volume of the group could be read, as calls failed
pub record ReadOut (s : ℕ) (fails : Fails) (note : GroupNode) (volume : ℕ) (said : Said) : Type 0 where
  pub disk : ℕ
  pub failed : Contains fails (s, disk)
  pub out : VolumeOut s fails note volume
  pub says : said ≡ Refused (Device disk)

-- A line that reads blocks of a volume of the group alone, by its name: of each it shows a value that the site may note of it, or none could be read.
pub record ReadsBeside (told : Type 0) (d : Doubted) (volume : List ℕ) (start count : ℕ) (s : ℕ) (fails : Fails) (said : Said) (new : Doubted) : Type 0 where
  pub are : AreOf s fails
  pub reads : GivesPlain told (note_at (d.world.nodes s)) (plain_number (note_at (d.world.nodes s)) volume) start count said
      ⊎ ReadOut s fails (note_at (d.world.nodes s)) (plain_number (note_at (d.world.nodes s)) volume) said
  pub left : IsAs d (worked_on d.world s) new

-- one that reads a data volume, or another volume of the group
abbrev pub EndsRead : (mine : Bool) → Type 0 → Doubted → ScriptLine → (volume : List ℕ) (start count : ℕ) (s : ℕ) → Fails → Said → Doubted → Type 0
EndsRead true told d line volume start count s fails said new = EndsOver told d line s fails said new
EndsRead false told d line volume start count s fails said new = ReadsBeside told d volume start count s fails said new

-- ---- a line on the group alone

-- the worlds in which the site notes this of the regions that plexes of its group missed
abbrev pub missed_world : MissedNote → Doubted → ℕ → Doubted
missed_world w d s = noting_in d s (with_maps w (note_at (d.world.nodes s)))

-- the same note, but that imports may disagree where this says so
abbrev pub note_loosened : Bool → GroupNode → GroupNode
note_loosened loosens note = record note { loose = loosens || note.loose }

abbrev pub loosened_at : Bool → World → ℕ → World
loosened_at loosens v s = noting v s (note_loosened loosens (note_at (v.nodes s)))

-- It ends as one at a group without a replicated volume group; or its fuse ran out, and the crash kept the durable writes of a site that runs, and so many of one that is
-- halted.
pub data EndsBelow (told : Type 0) (d : Doubted) (line : ScriptLine) (s : ℕ) (fails : Fails) (said : Said) (new : Doubted) : Type 0 where
  AsGroup : GroupEnds told d line s fails said new → EndsBelow told d line s fails said new
  CutBelow : (kept : ℕ) (next : GroupNode) → AreOf s fails → IsFused (d.world.nodes s).fuse → GroupCuts s (note_at (d.world.nodes s)) line fails next → said ≡ Refused IsOff
      → IsLeftOver s line next (run_as false d (CrashAt s (crash_count (d.world.nodes s) kept) ∷ [])) new → EndsBelow told d line s fails said new

-- What plexes missed as it begins, and the serial, are not noted where calls of a replicated volume group
-- change them: it may be anything. Where a call on a disk failed, or the fuse ran out, imports of the group may disagree behind it.
pub record BelowEnds (told : Type 0) (d : Doubted) (line : ScriptLine) (s : ℕ) (fails : Fails) (said : Said) (new : Doubted) : Type 0 where
  pub missed : MissedNote
  pub middle : Doubted
  pub ends : EndsBelow told (missed_world missed d s) line s fails said middle
  pub loosens : Bool
  pub why : loosens ≡ true → NoneFailed s fails → (FuseRanOut (d.world.nodes s) said → ⊥) → ⊥
  pub left : IsAs middle (loosened_at loosens middle.world s) new

-- a line that writes to a data volume, or to another volume of the group alone
abbrev pub EndsWrite : (mine : Bool) → Type 0 → Doubted → ScriptLine → (s : ℕ) → Fails → Said → Doubted → Type 0
EndsWrite true told d line s fails said new = EndsOver told d line s fails said new
EndsWrite false told d line s fails said new = BelowEnds told d line s fails said new

-- a line at site s over a group with a replicated volume group, but for those on links: a deport, one on a plex, a recovery, a write, a read, or another
abbrev pub OverRvg : Type 0 → Doubted → ScriptLine → ℕ → Fails → Said → Doubted → Type 0
OverRvg told d (GroupDeport site) s fails said new = BelowEnds told d (GroupDeport site) s fails said new
OverRvg told d (Volume site volume blocks mirrors layout log map policy) s fails said new = BelowEnds told d (Volume site volume blocks mirrors layout log map policy) s fails said new
OverRvg told d (PlexDetach site volume plex) s fails said new = BelowEnds told d (PlexDetach site volume plex) s fails said new
OverRvg told d (PlexAttach site volume plex) s fails said new = BelowEnds told d (PlexAttach site volume plex) s fails said new
OverRvg told d (GroupImport site) s fails said new = RvgTakes told d (GroupImport site) s fails said new ⊎ RvgFinds told d (GroupImport site) s fails said new
OverRvg told d (Recover site) s fails said new = RvgBack told d (Recover site) s fails said new ⊎ RvgFinds told d (Recover site) s fails said new
OverRvg told d (Write site volume start count fill) s fails said new =
    EndsWrite (is_data (kind_named (d.world.nodes s) volume)) told d (Write site volume start count fill) s fails said new
OverRvg told d (Put site volume start bytes) s fails said new =
    EndsWrite (is_data (kind_named (d.world.nodes s) volume)) told d (Put site volume start bytes) s fails said new
OverRvg told d (Read site volume start count) s fails said new =
    EndsRead (is_data (kind_named (d.world.nodes s) volume)) told d (Read site volume start count) volume start count s fails said new
OverRvg told d (Show site volume start count) s fails said new =
    EndsRead (is_data (kind_named (d.world.nodes s) volume)) told d (Show site volume start count) volume start count s fails said new
OverRvg told d other s fails said new = EndsOver told d other s fails said new

-- where the line writes to the replicated volume group, its site is up and runs
abbrev pub OpensFor : World → ScriptLine → Type 0
OpensFor w (Write site volume start count fill) = IsOpen (w.nodes (site_number w site)) × (site_number w site < w.sites)
OpensFor w (Put site volume start bytes) = IsOpen (w.nodes (site_number w site)) × (site_number w site < w.sites)
OpensFor w other = Unit {0}
