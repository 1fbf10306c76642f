-- How a line changes what a site notes of its group of disks.
use Rattle.std.specs.Prelude.{◌≡◌, ◌⊎◌, ◌==◌, ◌<◌, ℕ, true, false, List, [], length, Some, None, slice_get, unwrap_or, Contains, if◌then◌else◌}
use Rattle.vx_model.specs.Content.{Write, zero_block}
use Rattle.vx_history.specs.Groups.{BlockMay, GroupNode, MissedNote, NoteSettles, NoteUnsettles, note_cut, note_doubt, note_write}
use Rattle.vx_history.specs.Missing.{no_maps, with_maps}
use Rattle.vx_history.specs.World.{Node, no_volumes}
use Rattle.vx_config.specs.Changes.{Matched}
use Rattle.vx_config.specs.Checks.{blocks_of}
use Rattle.vx_config.specs.declared.config.Config.{Config}
use Rattle.vx_config.specs.declared.entry.DiskEntry.{DiskEntry}
use Rattle.vx_config.specs.declared.entry.VolumeEntry.{VolumeEntry}
use Rattle.vx_layout.specs.declared.shape.Shape.{Shape}
use Rattle.vx_events.specs.Fails.{Fails}
use Rattle.vx_events.specs.GroupConfigs.{AddsVolume, ConfigLoses, StateOpens, VolumeGoesBy, VolumeStays}
use Rattle.vx_events.specs.GroupMaps.{MapsAdded, MapsFirst, MapsLost, MapsOfDoubt, MapsOfWrite, MapsRecovered, StoppedClean, WithMaps}
use Rattle.vx_events.specs.GroupViews.{config_of}

-- nothing is noted of a group yet
abbrev pub no_note : GroupNode
no_note = record {
  config = [];
  begun = [];
  loose = false;
  dark = false;
  bytes = no_volumes;
  others = λ v b. [];
  cut = None;
  maps = no_maps;
  inside = λ v. false;
}

abbrev pub note_at : Node → GroupNode
note_at n = unwrap_or n.group no_note

-- the same note, where nothing is known of what the disks hold
abbrev pub note_dark : GroupNode → GroupNode
note_dark note = record note { dark = true }

-- contents are told, and what the disks of the group hold is known
abbrev pub IsKnown : (told : Type 0) → GroupNode → Type 0
IsKnown told note = told × (note.dark ≡ false)

-- ---- configurations

-- The configuration in memory comes of the one before so, and what is noted besides is kept so: what the disks may hold beside it, and whether they may
-- disagree.
pub record Reconfigures (Change : Config → Config → Type 0) (Keeps : GroupNode → GroupNode → Type 0) (note new : GroupNode) : Type 0 where
  pub old : Config
  pub now : Config
  pub was : config_of note.config ≡ Some old
  pub is : config_of new.config ≡ Some now
  pub change : Change old now
  pub keeps : Keeps note new

-- The first note of a group on all disks of a site, so many of so many blocks, whose volumes are still to be made. A disk is held as failed only where a call
-- on it failed, and imports agree but where one is.
pub record FirstNote (s disks blocks : ℕ) (fails : Fails) (new : GroupNode) : Type 0 where
  pub now : Config
  pub is : config_of new.config ≡ Some now
  pub site : now.site ≡ s
  pub many : length now.disks ≡ disks
  pub each : (k : ℕ) (d : DiskEntry) → slice_get now.disks k ≡ Some d → d.blocks ≡ blocks
  pub failed : (k : ℕ) (d : DiskEntry) → slice_get now.disks k ≡ Some d → d.failed ≡ true → Contains fails (s, k)
  pub volumes : now.volumes ≡ []
  pub rvg : now.rvg ≡ None
  pub begun : new.begun ≡ []
  pub dark : new.dark ≡ false
  pub loose : (new.loose ≡ false) ⊎ ((k : ℕ) × (d : DiskEntry) × (slice_get now.disks k ≡ Some d) × (d.failed ≡ true))
  pub size : (v : ℕ) → new.bytes.size v ≡ 0
  pub others : (v b : ℕ) → new.others v b ≡ []
  pub cut : new.cut ≡ None
  pub maps : MapsFirst new
  pub inside : (v : ℕ) → new.inside v ≡ false

-- ---- volumes

-- a further volume begins as zeros, and all others have what they had
pub record AddsZeros (volume blocks : ℕ) (note new : GroupNode) : Type 0 where
  pub size : (v : ℕ) → new.bytes.size v ≡ (if v == volume then blocks else note.bytes.size v)
  pub block : (v b : ℕ) → new.bytes.block v b ≡ (if v == volume then zero_block else note.bytes.block v b)
  pub others : (v b : ℕ) → new.others v b ≡ (if v == volume then [] else note.others v b)
  pub same : new ≡ record note { bytes = new.bytes; others = new.others }

-- a volume was made, in the space that the rule gives to it
pub record NotesVolume (s : ℕ) (fails : Fails) (name : List ℕ) (want : Shape) (note new : GroupNode) : Type 0 where
  pub old : Config
  pub made : Config
  pub now : Config
  pub was : config_of note.config ≡ Some old
  pub adds : AddsVolume name want old made
  pub loses : ConfigLoses s fails made now
  pub is : config_of new.config ≡ Some now
  pub middle : GroupNode
  pub settles : NoteSettles note middle
  pub maps : MissedNote
  pub missed : MapsAdded s fails old now note.maps maps
  pub zeros : AddsZeros (length old.volumes) want.blocks (with_maps maps middle) new

-- a write was done
pub record NotesWrite (s : ℕ) (fails : Fails) (x : Write) (note new : GroupNode) : Type 0 where
  pub middle : GroupNode
  pub moves : WithMaps (Reconfigures (ConfigLoses s fails) NoteSettles) (MapsOfWrite s fails x) note middle
  pub is : new ≡ note_write x middle

-- a write failed: each of its blocks has what it had, or what was to be written
pub record NotesDoubt (s : ℕ) (fails : Fails) (x : Write) (note new : GroupNode) : Type 0 where
  pub middle : GroupNode
  pub moves : WithMaps (Reconfigures (ConfigLoses s fails) (NoteUnsettles false)) (MapsOfDoubt s fails x) note middle
  pub is : new ≡ note_doubt x middle

-- the fuse ran out in a write
pub record NotesCut (s : ℕ) (fails : Fails) (x : Write) (note new : GroupNode) : Type 0 where
  pub middle : GroupNode
  pub moves : WithMaps (Reconfigures (ConfigLoses s fails) (NoteUnsettles false)) MapsLost note middle
  pub is : new ≡ note_cut x middle

-- ---- recoveries

-- A group came up from its disks: of all disks of its site, which are held as good but for those on which a call failed. Of disks that may not have
-- agreed nothing may be known then. Where contents are known the volumes that were noted are there but for the states of their plexes, and each block has
-- what it had and might have, or one of these values. Where imports agreed and nothing was begun there are no other volumes, each plex that took part does but
-- for calls that failed, and each block has one of these values, but in a volume that stopped cleanly.
pub record NotesBack (told : Type 0) (s : ℕ) (n : Node) (fails : Fails) (note new : GroupNode) : Type 0 where
  pub old : Config
  pub now : Config
  pub was : config_of note.config ≡ Some old
  pub is : config_of new.config ≡ Some now
  pub dark : (new.dark ≡ note.dark) ⊎ ((new.dark ≡ true) × (note.loose ≡ true))
  pub volumes : IsKnown told new → (v : ℕ) (e : VolumeEntry) → slice_get old.volumes v ≡ Some e → Matched VolumeStays (Some e) (slice_get now.volumes v)
  pub many : length now.disks ≡ n.disks
  pub blocks : (k : ℕ) (d : DiskEntry) → slice_get now.disks k ≡ Some d → d.blocks ≡ n.blocks
  pub failed : (k : ℕ) (d : DiskEntry) → slice_get now.disks k ≡ Some d → d.failed ≡ true → Contains fails (s, k)
  pub begun : new.begun ≡ []
  pub loose : new.loose ≡ false
  pub size : (v : ℕ) → new.bytes.size v ≡ blocks_of now.volumes v
  pub block : (v b : ℕ) → ((new.bytes.block v b ≡ note.bytes.block v b) × (new.others v b ≡ note.others v b)) ⊎ (new.others v b ≡ [])
  pub may : IsKnown told new → (v b : ℕ) → b < note.bytes.size v → BlockMay note v b (new.bytes.block v b)
  pub opens : IsKnown told new → note.loose ≡ false → note.begun ≡ [] → (v : ℕ) → Matched (VolumeGoesBy (StateOpens s fails)) (slice_get old.volumes v) (slice_get now.volumes v)
  pub parts : IsKnown told new → note.loose ≡ false → note.begun ≡ [] → (now.site ≡ old.site) × (now.rvg ≡ old.rvg)
  pub one : IsKnown told new → note.loose ≡ false → note.begun ≡ [] → (v b : ℕ) → b < new.bytes.size v → (new.others v b ≡ []) ⊎ StoppedClean old v
  pub cut : new.cut ≡ None
  pub inside : new.inside ≡ note.inside

-- the same where a write was cut, and what is kept of it is still to be read
pub record NotesUnread (told : Type 0) (s : ℕ) (n : Node) (fails : Fails) (note new : GroupNode) : Type 0 where
  pub middle : GroupNode
  pub back : NotesBack told s n fails note middle
  pub maps : IsKnown told middle → MapsRecovered note middle
  pub cut : note.cut ≡ None → ⊥
  pub is : new ≡ record middle { cut = note.cut }

-- a recovery or an import was refused: nothing changes, or it is not known any more what the disks hold
abbrev pub NotesRefused : (note new : GroupNode) → Type 0
NotesRefused note new = (new ≡ note) ⊎ (new ≡ note_dark note)

-- what was found on disks of which nothing is known was refused: imports of them may disagree besides
abbrev pub NotesUnfound : (note new : GroupNode) → Type 0
NotesUnfound note new = NotesRefused note new ⊎ NotesRefused (record note { loose = true }) new

-- memory ran out in one, before it wrote: only of disks that may not agree it is not known any more what they hold
abbrev pub NotesShort : (note new : GroupNode) → Type 0
NotesShort note new = (new ≡ note) ⊎ ((note.loose ≡ true) × (new ≡ note_dark note))
