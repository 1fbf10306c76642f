-- A group whose disks are by themselves, as its site notes it: it crashed, or was deported.
use Rattle.std.specs.Prelude.{◌≡◌, ℕ, ◌<◌, ◌≤◌, true, false, if◌then◌else◌, IsTrue, [], length}
use Rattle.vx_model.specs.declared.limits.TheConstants.{LEAST_GROUP_BLOCKS}
use Rattle.vx_model.specs.declared.site.SiteState.TheVariants.{Deported, Down as IsDown}
use Rattle.vx_disk.specs.Shelf.{Each, Image, Meaning}
use Rattle.vx_history.specs.Groups.{GroupNode, BlockMay}
use Rattle.vx_history.specs.World.{Node}
use Rattle.vx_config.specs.Checks.{blocks_of}
use Rattle.vx_config.specs.declared.config.Config.{Config}
use Rattle.vx_copyfmt.specs.Imports.{Found}
use Rattle.vx_kept.specs.Choice.{live}
use Rattle.vx_kept.specs.Facts.{is_found}
use Rattle.vx_kept.specs.Groups.{found}
use Rattle.vx_kept.specs.Keeping.{Extends, frame_at}
use Rattle.vx_kept.specs.Trusts.{FailsAll}
use Rattle.vx_layout.specs.Places.{place}
use Rattle.vx_volume.specs.Plexes.{Inside, SomeActive}
use Rattle.vx_group.specs.Resumes.{CanImport}
use Rattle.vx_group.specs.declared.inner.Inner.{Inner}
use Rattle.vx_grouped.specs.GroupNotes.{NotesFound, noted_config}

-- The disks of the site, on which the group was last up with a configuration. An import may go over them, unless imports may disagree. Each image that
-- they keep has a configuration with the volumes of that one, and perhaps more, and in it each plex that is ACTIVE or CLEAN has of each of their blocks a value
-- that the block may have.
pub record AwayLies (n : Node) (note : GroupNode) (last : Config) (m : Meaning) : Type 0 where
  pub units : m.units ≡ n.disks
  pub size : (u : ℕ) → u < n.disks → m.size u ≡ n.blocks
  pub can : note.loose ≡ false → CanImport m
  pub sizes : (v : ℕ) → note.bytes.size v ≡ blocks_of last.volumes v
  pub finds : (i : Image) → Each m.leaves i → is_found (found m i) ≡ true
  pub volumes : (i : Image) (x : Config) → Each m.leaves i → found m i ≡ Found x → Extends x last
  pub has : (i : Image) (x : Config) → Each m.leaves i → found m i ≡ Found x → (v p b : ℕ) → Inside last v b → IsTrue (live x v p)
      → BlockMay note v b (i (place x v p b).0 (place x v p b).1)

-- where it is known what the disks hold, each volume has a plex that is ACTIVE
abbrev pub AllRun : GroupNode → Config → Type 0
AllRun note last = note.dark ≡ false → (v : ℕ) → v < length last.volumes → SomeActive last v

-- the disks of a site are large enough for a group, and one of them is held as good
pub record AwayFit (n : Node) (c : Config) : Type 0 where
  pub large : 0 < n.disks → LEAST_GROUP_BLOCKS ≤ n.blocks
  pub some : FailsAll c.disks → ⊥

-- the disks of a site that crashed: it is noted with the configuration that memory had
pub record IsAwayAt (n : Node) (note : GroupNode) (last : Config) (m : Meaning) : Type 0 where
  pub state : n.state ≡ IsDown
  pub config : note.config ≡ noted_config last
  pub found : NotesFound note last m
  pub runs : AllRun note last
  pub some : AwayFit n last
  pub lies : AwayLies n note last m

-- the note with the configuration that a deport committed; imports may disagree where the one of before was not committed
abbrev pub note_deported : Config → Inner → GroupNode → GroupNode
note_deported x core note = record note { config = noted_config x; begun = if core.committed then [] else note.begun; loose = if core.committed then false else true }

-- the disks of a site that was deported: it is noted with the configuration that was committed then, which has the volumes of the last one
pub record IsDeportedAt (n : Node) (note : GroupNode) (last newest : Config) (m : Meaning) : Type 0 where
  pub state : n.state ≡ Deported
  pub config : note.config ≡ noted_config newest
  pub frames : (v : ℕ) → frame_at newest v ≡ frame_at last v
  pub found : NotesFound note newest m
  pub some : AwayFit n newest
  pub lies : AwayLies n note last m
