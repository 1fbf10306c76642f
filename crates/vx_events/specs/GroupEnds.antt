-- How a line at a site over a group of disks without a replicated volume group ends: a line that works on the group, its volumes or its disks. No
-- other site changes, and of this one its state and its notes alone.
use Rattle.std.specs.Prelude.{◌≡◌, ◌⊎◌, ℕ, ◌+◌, ◌*◌, ◌<◌, true, false, List, [], length, map, replicate, Option, Some, Contains}
use Rattle.std.specs.List.{AllByRecursion}
use Rattle.vx_model.specs.Content.{Write}
use Rattle.vx_model.specs.declared.limits.TheConstants.{BLOCK, COMMIT_MARGIN, MOST_NUMBER, MOST_SUBDISKS}
use Rattle.vx_model.specs.declared.no.Counted.TheVariants.{Number, Subdisks}
use Rattle.vx_model.specs.declared.no.No.{No}
use Rattle.vx_model.specs.declared.no.No.TheVariants.{Damaged, Device, Down as IsOff, Format, LastPlex, Limit, Missing, NoConfig, Space}
use Rattle.vx_model.specs.declared.site.PlexState.TheVariants.{Active, Stale}
use Rattle.vx_model.specs.declared.site.SiteState.TheVariants.{Up}
use Rattle.vx_history.specs.Doubts.{Doubted}
use Rattle.vx_history.specs.Groups.{GroupNode, NoteSettles, NoteUnsettles}
use Rattle.vx_history.specs.Stops.{EventsEnd, IsFused}
use Rattle.vx_history.specs.World.{Node}
use Rattle.vx_history.specs.declared.event.Event.{Event}
use Rattle.vx_config.specs.Configs.{subdisk_count}
use Rattle.vx_config.specs.declared.config.Config.{Config}
use Rattle.vx_config.specs.declared.entry.PlexEntry.{PlexEntry}
use Rattle.vx_config.specs.declared.entry.Subdisk.{Subdisk}
use Rattle.vx_config.specs.declared.entry.VolumeEntry.{VolumeEntry}
use Rattle.vx_layout.specs.Made.{IsVolumeMade, with_volume}
use Rattle.vx_layout.specs.Places.{plex_at}
use Rattle.vx_layout.specs.Space.{IsFound, IsSpaceShort}
use Rattle.vx_layout.specs.declared.shape.Found.{Found}
use Rattle.vx_layout.specs.declared.shape.Shape.{Shape}
use Rattle.vx_report.specs.declared.view.Kept.{Kept}
use Rattle.vx_script.specs.declared.line.ScriptLine.{ScriptLine}
use Rattle.vx_script.specs.declared.line.ScriptLine.TheVariants.{GroupInit, GroupDeport, GroupImport, Volume, PlexDetach, PlexAttach, Disk, Crash, Fuse, Recover, Write as WriteLine, Put, Read, Show, Status}
use Rattle.vx_events.specs.Doubts.{IsAs, run_as}
use Rattle.vx_events.specs.Fails.{Fails}
use Rattle.vx_events.specs.GroupConfigs.{ConfigKeeps, ConfigKeepsBut, ConfigLoses, ConfigRests, PlexFails, PutsPlex, lies_on_disk, opened_again}
use Rattle.vx_events.specs.GroupLines.{cut_events, fuse_lost, group_events, group_noted, noting, plain_number, refused_events, shape_of, unread_events}
use Rattle.vx_events.specs.GroupMaps.{MapsAttached, MapsCalled, MapsDetached, MapsImported, MapsLost, MapsRecovered, MapsUndetached, WithMaps}
use Rattle.vx_events.specs.GroupNotes.{FirstNote, IsKnown, NotesBack, NotesCut, NotesDoubt, NotesRefused, NotesUnread, NotesVolume, NotesWrite, Reconfigures, note_at}
use Rattle.vx_events.specs.GroupReplies.{AttachCopies, GivesPlain, IsLastPlex, SaysBack}
use Rattle.vx_events.specs.GroupViews.{config_of, grouped_view}
use Rattle.vx_events.specs.declared.said.Said.{Said}
use Rattle.vx_events.specs.declared.said.Said.TheVariants.{Done, Refused, Resumed, Shown}

-- each of these calls failed at this site
abbrev pub AreOf : ℕ → Fails → Type 0
AreOf s fails = AllByRecursion (λ f. f.0 ≡ s) fails

-- a volume of the group, by the number of the name
abbrev pub write_to : GroupNode → List ℕ → ℕ → List ℕ → Write
write_to note volume start bytes = record { volume = plain_number note volume; start = start; bytes = bytes }

-- fewer serials are left than a call of the group's own may use up
abbrev pub LacksSerials : GroupNode → Type 0
LacksSerials note = MOST_NUMBER < note.maps.serial + COMMIT_MARGIN

-- What a line that is done makes of the note of site s, and what it is answered. The disks of the site have so many blocks.
abbrev pub GroupDoes : (told : Type 0) (s : ℕ) → Node → GroupNode → ScriptLine → Fails → Said → GroupNode → Type 0
GroupDoes told s n note (GroupInit site) fails said next = FirstNote s n.disks n.blocks fails next × (said ≡ Done)
GroupDoes told s n note (GroupDeport site) fails said next =
    WithMaps (Reconfigures (λ c d. ConfigRests s fails (opened_again c) (opened_again d)) NoteSettles) (MapsCalled s fails) note next × (said ≡ Done)
GroupDoes told s n note (GroupImport site) fails said next = NotesBack told s n fails note next × (IsKnown told next → MapsImported s fails note next) × (said ≡ Done)
GroupDoes told s n note (Volume site volume blocks mirrors layout log map policy) fails said next =
    NotesVolume s fails volume (shape_of blocks mirrors layout log map policy) note next × (said ≡ Done)
GroupDoes told s n note (PlexDetach site volume plex) fails said next =
    WithMaps (Reconfigures (λ c d. (x : Config) × PutsPlex (plain_number note volume) plex Stale c x × ConfigKeeps s fails x d) NoteSettles) (MapsDetached s fails (plain_number note volume) plex) note next
    × (said ≡ Done) × (IsLastPlex note (plain_number note volume) plex → ⊥) × (LacksSerials note → ⊥)
GroupDoes told s n note (PlexAttach site volume plex) fails said next =
    WithMaps (Reconfigures (λ c d. (x : Config) × PutsPlex (plain_number note volume) plex Active c x × ConfigKeepsBut (lies_on_disk c (plain_number note volume) plex) s fails x d) NoteSettles)
    (MapsAttached s fails (plain_number note volume) plex) note next
    × AttachCopies note (plain_number note volume) plex said × (LacksSerials note → ⊥)
GroupDoes told s n note (WriteLine site volume start count fill) fails said next =
    NotesWrite s fails (write_to note volume start (replicate (BLOCK * count) fill)) note next × (said ≡ Done)
GroupDoes told s n note (Put site volume start bytes) fails said next = NotesWrite s fails (write_to note volume start bytes) note next × (said ≡ Done)
GroupDoes told s n note (Read site volume start count) fails said next = (next ≡ note) × GivesPlain told note (plain_number note volume) start count said
GroupDoes told s n note (Show site volume start count) fails said next = (next ≡ note) × GivesPlain told note (plain_number note volume) start count said
GroupDoes told s n note (Recover site) fails said next = NotesBack told s n fails note next × (IsKnown told next → MapsRecovered note next) × SaysBack told (record n { state = Up }) note next said
GroupDoes told s n note (Disk site disk state) fails said next = (next ≡ note) × (fails ≡ []) × (said ≡ Done)
GroupDoes told s n note (Crash site pick) fails said next = (next ≡ note) × (fails ≡ []) × (said ≡ Done)
GroupDoes told s n note (Fuse site calls pick) fails said next = (next ≡ note) × (fails ≡ []) × (said ≡ Done)
GroupDoes told s n note (Status site) fails said next = (next ≡ note) × (fails ≡ []) × (said ≡ Shown (grouped_view n note))
GroupDoes told s n note other fails said next = ⊥

-- ---- refusals

-- the line commits a configuration, which takes a serial
abbrev pub Commits : ScriptLine → Type 0
Commits (GroupDeport site) = Unit {0}
Commits (Volume site volume blocks mirrors layout log map policy) = Unit {0}
Commits (PlexDetach site volume plex) = Unit {0}
Commits (PlexAttach site volume plex) = Unit {0}
Commits other = ⊥

-- a volume finds no place: so many blocks are needed there, and so many are free
pub record LacksSpace (note : GroupNode) (want : Shape) (need have : ℕ) : Type 0 where
  pub config : Config
  pub is : config_of note.config ≡ Some config
  pub short : IsSpaceShort config want need have

-- A volume would have too many parts, in the space that is found for it: a plex of it more runs than can be spelled, or all volumes with it more than there
-- may be.
pub record LacksParts (note : GroupNode) (name : List ℕ) (want : Shape) : Type 0 where
  pub config : Config
  pub is : config_of note.config ≡ Some config
  pub found : Found
  pub space : IsFound config want found
  pub many : ((ss : List Subdisk) × Contains found.plexes.items ss × (255 < length ss)) ⊎ ((v : VolumeEntry) × IsVolumeMade want found v × (v.name ≡ name) × (MOST_SUBDISKS < subdisk_count (with_volume config v)))

-- what a line wants that works on nothing: a place for a volume or for so many of its parts, another plex that takes part, or serials
abbrev pub GroupWants : GroupNode → ScriptLine → No → Type 0
GroupWants note (Volume site volume blocks mirrors layout log map policy) (Space need have) = LacksSpace note (shape_of blocks mirrors layout log map policy) need have
GroupWants note (Volume site volume blocks mirrors layout log map policy) (Limit Subdisks most) =
    LacksParts note volume (shape_of blocks mirrors layout log map policy) × (most ≡ MOST_SUBDISKS)
GroupWants note (PlexDetach site volume plex) LastPlex = IsLastPlex note (plain_number note volume) plex
GroupWants note line (Limit Number most) = Commits line × (most ≡ MOST_NUMBER) × LacksSerials note
GroupWants note line why = ⊥

-- each plex of a volume that takes part has a disk on which a call failed
pub record VolumeOut (s : ℕ) (fails : Fails) (note : GroupNode) (volume : ℕ) : Type 0 where
  pub config : Config
  pub is : config_of note.config ≡ Some config
  pub each : (p : ℕ) (plex : PlexEntry) → plex_at config volume p ≡ Some plex → plex.state ≡ Active → PlexFails s fails plex

-- what a failed call of a line that ends it leaves of the note; a read ends so only where no plex of its volume could be read
abbrev pub GroupSpoils : (s : ℕ) → GroupNode → ScriptLine → Fails → GroupNode → Type 0
GroupSpoils s note (GroupDeport site) fails next = WithMaps (Reconfigures (ConfigLoses s fails) (NoteUnsettles false)) (MapsCalled s fails) note next
GroupSpoils s note (GroupImport site) fails next = NotesRefused note next
GroupSpoils s note (Volume site volume blocks mirrors layout log map policy) fails next = WithMaps (Reconfigures (ConfigLoses s fails) (NoteUnsettles false)) (MapsCalled s fails) note next
GroupSpoils s note (PlexDetach site volume plex) fails next =
    WithMaps (Reconfigures (ConfigKeeps s fails) (NoteUnsettles false)) (MapsUndetached s fails (plain_number note volume) plex) note next
GroupSpoils s note (PlexAttach site volume plex) fails next =
    WithMaps (Reconfigures (λ c d. ConfigKeepsBut (lies_on_disk c (plain_number note volume) plex) s fails c d) (NoteUnsettles true)) (MapsCalled s fails) note next
GroupSpoils s note (WriteLine site volume start count fill) fails next = NotesDoubt s fails (write_to note volume start (replicate (BLOCK * count) fill)) note next
GroupSpoils s note (Put site volume start bytes) fails next = NotesDoubt s fails (write_to note volume start bytes) note next
GroupSpoils s note (Read site volume start count) fails next = (next ≡ note) × VolumeOut s fails note (plain_number note volume)
GroupSpoils s note (Show site volume start count) fails next = (next ≡ note) × VolumeOut s fails note (plain_number note volume)
GroupSpoils s note (Recover site) fails next = NotesRefused note next
GroupSpoils s note other fails next = ⊥

-- and a fuse that ran out in it
abbrev pub GroupCuts : (s : ℕ) → GroupNode → ScriptLine → Fails → GroupNode → Type 0
GroupCuts s note (GroupDeport site) fails next = WithMaps (Reconfigures (ConfigLoses s fails) (NoteUnsettles false)) MapsLost note next
GroupCuts s note (GroupImport site) fails next = NotesRefused note next
GroupCuts s note (Volume site volume blocks mirrors layout log map policy) fails next = WithMaps (Reconfigures (ConfigLoses s fails) (NoteUnsettles false)) MapsLost note next
GroupCuts s note (PlexDetach site volume plex) fails next =
    WithMaps (Reconfigures (λ c d. ConfigKeeps s fails c d ⊎ ((x : Config) × PutsPlex (plain_number note volume) plex Stale c x × ConfigKeeps s fails x d)) (NoteUnsettles false))
    MapsLost note next
GroupCuts s note (PlexAttach site volume plex) fails next =
    WithMaps
    (Reconfigures
    (λ c d. ConfigKeepsBut (lies_on_disk c (plain_number note volume) plex) s fails c d
    ⊎ ((x : Config) × PutsPlex (plain_number note volume) plex Active c x × ConfigKeepsBut (lies_on_disk c (plain_number note volume) plex) s fails x d))
    (NoteUnsettles true))
    MapsLost note next
GroupCuts s note (WriteLine site volume start count fill) fails next = NotesCut s fails (write_to note volume start (replicate (BLOCK * count) fill)) note next
GroupCuts s note (Put site volume start bytes) fails next = NotesCut s fails (write_to note volume start bytes) note next
GroupCuts s note other fails next = ⊥

-- ---- recoveries that find something else

-- the line brings a group up from its disks
abbrev pub BringsUp : ScriptLine → Type 0
BringsUp (GroupImport site) = Unit {0}
BringsUp (Recover site) = Unit {0}
BringsUp other = ⊥

-- Why a group is not found on its disks: a disk that is held as good and could not be read; no configuration on any that could be read, for which a call on
-- a disk failed unless a configuration was begun; or want of a serial. Where contents are known, and imports agree, no block of it is damaged or of another format.
abbrev pub NotFound : (s : ℕ) → GroupNode → Fails → No → Type 0
NotFound s note fails (Missing disk) = Contains fails (s, disk)
NotFound s note fails NoConfig = note.begun ≡ [] → fails ≡ [] → ⊥
NotFound s note fails (Limit Number most) = most ≡ MOST_NUMBER
NotFound s note fails why = ⊥

-- what is left of the note where none is found: only want of a serial may come behind the first write
abbrev pub NotFoundLeaves : No → (note new : GroupNode) → Type 0
NotFoundLeaves (Limit Number most) note new = NotesRefused note new
NotFoundLeaves why note new = new ≡ note

-- nothing is known of what an import finds on the disks: contents are not told, the disks may not agree, or nothing was known of them before
abbrev pub KnowsNothing : Type 0 → GroupNode → Type 0
KnowsNothing told note = (told → ⊥) ⊎ (note.loose ≡ true) ⊎ (note.dark ≡ true)

-- why no group is found on such disks: one that could not be read is missing, none has a configuration, a block is damaged or of another format, or no serial is
-- left
abbrev pub FoundNo : (s : ℕ) → Fails → No → Type 0
FoundNo s fails (Missing disk) = Contains fails (s, disk)
FoundNo s fails NoConfig = Unit {0}
FoundNo s fails (Limit Number most) = most ≡ MOST_NUMBER
FoundNo s fails (Damaged disk block stored computed) = Unit {0}
FoundNo s fails (Format version) = Unit {0}
FoundNo s fails why = ⊥

-- why an import is refused that has written: a disk failed, or as one that has not
abbrev pub ImportRefuses : Type 0 → (s : ℕ) → GroupNode → Fails → No → Type 0
ImportRefuses told s note fails (Device disk) = Contains fails (s, disk)
ImportRefuses told s note fails why = NotFound s note fails why ⊎ (KnowsNothing told note × FoundNo s fails why)

-- what a line says that found a group of which nothing was known
abbrev pub SaysFound : Node → ScriptLine → GroupNode → Said → Type 0
SaysFound n (GroupImport site) next said = said ≡ Done
SaysFound n (Recover site) next said = (kept : Option Kept) × (said ≡ Resumed (grouped_view (record n { state = Up }) next) kept)
SaysFound n other next said = ⊥

-- ---- the ends of a line

-- what a line leaves of the world to which its events came: with this note of its group, and what it notes of its disks
abbrev pub IsLeftOver : (s : ℕ) → ScriptLine → GroupNode → (last new : Doubted) → Type 0
IsLeftOver s line next last new = IsAs last (group_noted s line (noting last.world s next)) new

-- A line at site s over a group that no test refuses.
pub data GroupEnds (told : Type 0) (d : Doubted) (line : ScriptLine) (s : ℕ) (fails : Fails) (said : Said) (new : Doubted) : Type 0 where
  -- it is done, in spite of the calls that failed
  GroupDone : (next : GroupNode) → AreOf s fails → GroupDoes told s (d.world.nodes s) (note_at (d.world.nodes s)) line fails said next
      → IsLeftOver s line next (run_as false d (group_events (d.world.nodes s) s line)) new → GroupEnds told d line s fails said new
  -- it wants something, and has changed nothing
  GroupLacks : (why : No) → GroupWants (note_at (d.world.nodes s)) line why → fails ≡ [] → said ≡ Refused why
      → IsLeftOver s line (note_at (d.world.nodes s)) d new → GroupEnds told d line s fails said new
  -- calls on disks failed, and by the last of them the line
  GroupFails : (disk : ℕ) (next : GroupNode) → AreOf s fails → Contains fails (s, disk) → GroupSpoils s (note_at (d.world.nodes s)) line fails next
      → said ≡ Refused (Device disk) → IsLeftOver s line next (run_as false d (refused_events (d.world.nodes s) s line)) new
      → GroupEnds told d line s fails said new
  -- no group was made, as calls on disks failed: the site is bare as it was
  InitFails : (disk : ℕ) (site : List ℕ) → line ≡ GroupInit site → AreOf s fails → Contains fails (s, disk) → said ≡ Refused (Device disk)
      → IsAs d d.world new → GroupEnds told d line s fails said new
  -- an import was refused that had written: the disks crashed, and have no fuse
  ImportFails : (why : No) (next : GroupNode) (site : List ℕ) → line ≡ GroupImport site → AreOf s fails → ImportRefuses told s (note_at (d.world.nodes s)) fails why
      → NotesRefused (note_at (d.world.nodes s)) next → said ≡ Refused why → IsAs d (fuse_lost (noting d.world s next) s) new
      → GroupEnds told d line s fails said new
  -- a recovery came up, and what is kept of a write that was cut could not be read: the site is down
  KeptUnread : (disk : ℕ) (next : GroupNode) (site : List ℕ) → line ≡ Recover site → AreOf s fails → Contains fails (s, disk)
      → NotesUnread told s (d.world.nodes s) fails (note_at (d.world.nodes s)) next → said ≡ Refused (Device disk)
      → IsLeftOver s line next (run_as false d (unread_events (d.world.nodes s) s)) new → GroupEnds told d line s fails said new
  -- the fuse of the disks ran out
  GroupCut : (next : GroupNode) → AreOf s fails → IsFused (d.world.nodes s).fuse → GroupCuts s (note_at (d.world.nodes s)) line fails next
      → said ≡ Refused IsOff → IsLeftOver s line next (run_as false d (cut_events s line)) new → GroupEnds told d line s fails said new
  -- no group was found
  GroupNotFound : (why : No) (next : GroupNode) → AreOf s fails → BringsUp line → NotFound s (note_at (d.world.nodes s)) fails why
      → NotFoundLeaves why (note_at (d.world.nodes s)) next → said ≡ Refused why → IsLeftOver s line next (run_as false d (refused_events (d.world.nodes s) s line)) new → GroupEnds told d line s fails said new
  -- on disks of which nothing is known a group was found, or none: where contents are told nothing is known of them still
  FindsGroup : (next : GroupNode) → AreOf s fails → BringsUp line → KnowsNothing told (note_at (d.world.nodes s)) → (told → next.dark ≡ true)
      → SaysFound (d.world.nodes s) line next said → IsLeftOver s line next (run_as false d (group_events (d.world.nodes s) s line)) new → GroupEnds told d line s fails said new
  FindsNoGroup : (next : GroupNode) (why : No) → AreOf s fails → BringsUp line → KnowsNothing told (note_at (d.world.nodes s)) → FoundNo s fails why
      → NotesRefused (note_at (d.world.nodes s)) next → said ≡ Refused why → IsLeftOver s line next (run_as false d (refused_events (d.world.nodes s) s line)) new → GroupEnds told d line s fails said new

-- the line ended as these events do, in worlds that differ in notes alone
pub record GroupStops (d new : Doubted) : Type 0 where
  pub events : List Event
  pub stops : EventsEnd d events [] new
