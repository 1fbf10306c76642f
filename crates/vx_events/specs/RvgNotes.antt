-- What a line that makes a replicated volume group of volumes of a group of disks names, and what the site notes of it.
use Rattle.std.specs.Prelude.{◌≡◌, ℕ, ◌<◌, ◌==◌, ◌||◌, Bool, List, [], ◌∷◌, map, Some, Contains}
use Rattle.std.specs.List.{list_any}
use Rattle.vx_model.specs.declared.units.Units.{Units}
use Rattle.vx_history.specs.Groups.{BlockMay, GroupNode}
use Rattle.vx_history.specs.declared.event.Event.{Event}
use Rattle.vx_history.specs.declared.event.Event.TheVariants.{Volumes as VolumesAt}
use Rattle.vx_config.specs.Checks.{blocks_of}
use Rattle.vx_config.specs.declared.config.Config.{Config}
use Rattle.vx_events.specs.Fails.{Fails}
use Rattle.vx_events.specs.GroupConfigs.{ConfigLoses}
use Rattle.vx_events.specs.GroupLines.{plain_number}
use Rattle.vx_events.specs.GroupNotes.{IsKnown, Reconfigures}
use Rattle.vx_events.specs.RvgFits.{data_of, entries_noted}
use Rattle.vx_events.specs.RvgWorks.{NotesWork, WorksAs}

-- ---- what the line names

-- the volumes of the log and of the maps, and the data volumes, by their places in the group
abbrev pub units_named : GroupNode → (srl maps : List ℕ) → (volumes : List (List ℕ)) → Units
units_named note srl maps volumes = record { srl = plain_number note srl; maps = plain_number note maps; vols = map (plain_number note) volumes }

-- the blocks of the volume of the log on these units
abbrev pub srl_blocks : GroupNode → Units → ℕ
srl_blocks note units = blocks_of (entries_noted note) units.srl

-- the event by which the site gets a replicated volume group on these units, where it notes this of its group
abbrev pub volume_events : GroupNode → (site : ℕ) → Units → List Event
volume_events note s units = VolumesAt s (srl_blocks note units) (data_of (entries_noted note) units) ∷ []

-- the volumes of a replicated volume group on these units
abbrev pub inside_of : Units → ℕ → Bool
inside_of units v = (v == units.srl) || ((v == units.maps) || list_any (λ x. x == v) units.vols)

-- the note from which on the group has one: nothing more is noted of the blocks of its volumes, and nothing of those of which nothing was noted before
abbrev pub note_gained : Units → GroupNode → GroupNode
note_gained units note = record note { inside = λ v. inside_of units v || note.inside v }

-- the configuration with this replicated volume group
abbrev pub as_replicated : Units → Config → Config
as_replicated units c = record c { rvg = Some units }

-- ---- notes

-- What the line makes of volumes before the group has its replicated volume group. A block of a data volume has a value that it might have, of
-- which there may be fewer now; of the volumes of the log and of the maps nothing is said, and of that of the log it may be that nothing is noted any more; and
-- each other block is as it was. Of the regions that plexes missed nothing is said.
pub record NotesNarrowed (told : Type 0) (units : Units) (note new : GroupNode) : Type 0 where
  pub size : (v : ℕ) → new.bytes.size v ≡ note.bytes.size v
  pub may : IsKnown told note → (v b : ℕ) (x : List ℕ) → Contains units.vols v → b < note.bytes.size v → BlockMay new v b x → BlockMay note v b x
  pub others : (v b : ℕ) → (Contains (units.srl ∷ units.maps ∷ units.vols) v → ⊥)
      → (new.bytes.block v b ≡ note.bytes.block v b) × (new.others v b ≡ note.others v b)
  pub inside : (v : ℕ) → (v ≡ units.srl → ⊥) → new.inside v ≡ note.inside v
  pub same : new ≡ record note { bytes = new.bytes; others = new.others; maps = new.maps; inside = new.inside }

-- each block of a data volume has one value
abbrev pub HasOneValue : Units → GroupNode → Type 0
HasOneValue units note = (v b : ℕ) → Contains units.vols v → note.others v b ≡ []

-- The line is done: each block of a data volume has one value, in the note `middle`, and then the configuration has the replicated volume group. Where no call on a
-- disk failed imports agree if they did.
pub record NotesRvg (told : Type 0) (s : ℕ) (fails : Fails) (units : Units) (note middle new : GroupNode) : Type 0 where
  pub narrowed : NotesNarrowed told units note middle
  pub one : HasOneValue units middle
  pub settled : GroupNode
  pub moves : Reconfigures (λ c d. ConfigLoses s fails (as_replicated units c) d) (WorksAs ⊥ s fails) middle settled
  pub is : new ≡ note_gained units settled

-- The line was ended by a failing disk or by a fuse: the configuration in memory has no replicated volume group, and that with one may be on the
-- disks.
pub record NotesNoRvg (told Off : Type 0) (s : ℕ) (fails : Fails) (units : Units) (note new : GroupNode) : Type 0 where
  pub middle : GroupNode
  pub narrowed : NotesNarrowed told units note middle
  pub moves : NotesWork Off s fails middle new

-- no serial is left for the configuration with one
pub record NotesLacking (told : Type 0) (s : ℕ) (fails : Fails) (units : Units) (note new : GroupNode) : Type 0 where
  pub middle : GroupNode
  pub narrowed : NotesNarrowed told units note middle
  pub moves : NotesWork ⊥ s fails middle new
