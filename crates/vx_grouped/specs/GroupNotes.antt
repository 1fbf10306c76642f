-- A group of disks that is up, as its site notes it.
use Rattle.std.specs.Prelude.{◌≡◌, ◌⊎◌, ℕ, ◌<◌, Bool, true, false, not, ◌&&◌, ◌||◌, if◌then◌else◌, IsTrue, List, [], ◌++◌, Option, Some, None, Contains}
use Rattle.vx_model.specs.declared.site.SiteState.TheVariants.{Up as IsUp}
use Rattle.vx_disk.specs.Shelf.{Each, Image, Meaning}
use Rattle.vx_history.specs.Groups.{GroupNode}
use Rattle.vx_history.specs.World.{Node}
use Rattle.vx_config.specs.Configs.{HasSpelling, spelled_config}
use Rattle.vx_config.specs.declared.config.Config.{Config}
use Rattle.vx_copyfmt.specs.Imports.{Found}
use Rattle.vx_kept.specs.Cleans.{at_serial}
use Rattle.vx_kept.specs.Finds.{AllAtOnce, good_config}
use Rattle.vx_kept.specs.Groups.{found}
use Rattle.vx_group.specs.Finds.{MissesOpenly}
use Rattle.vx_group.specs.Holding.{wide}
use Rattle.vx_group.specs.Stands.{inner_meaning}
use Rattle.vx_group.specs.declared.group_core.GroupCore.{GroupCore}
use Rattle.vx_group.specs.declared.group_core.Held.{Held}
use Rattle.vx_grouped.specs.Plain.{HoldsPlain}

-- a configuration as it is noted: as it is spelled, under the serial 0
unfoldable pub noted_config : Config → List ℕ
noted_config c = spelled_config (at_serial 0 c)

-- the same with no disk held as failed, as one that a commit may begin is noted
abbrev pub noted_try : Config → List ℕ
noted_try c = noted_config (good_config c)

-- The note has this configuration, which is read back of it under the serial 0.
pub record NotesConfig (note : GroupNode) (c : Config) : Type 0 where
  pub is : note.config ≡ noted_config c
  pub spells : HasSpelling (at_serial 0 c)

-- no plex is held back
abbrev pub holds_none : Option Held → Bool
holds_none None = true
holds_none (Some h) = false

-- the newest configuration is committed, and no plex is held back: then the disks have that of memory alone
abbrev pub is_sure : GroupCore → Bool
is_sure core = core.inner.committed && holds_none core.held

-- Whether imports may disagree behind a call: not while that is so; else where they might before, or may now.
abbrev pub loose_by : GroupCore → Bool → Bool
loose_by core loose = if is_sure core then false else (loose || not core.inner.agreed)

-- the note with the configuration in memory, behind a call in which commits of these further configurations may have been begun
abbrev pub note_called : List (List ℕ) → GroupCore → GroupNode → GroupNode
note_called nexts core note = record note {
  config = noted_config core.inner.config;
  begun = if is_sure core then [] else nexts ++ note.begun;
  loose = loose_by core note.loose;
}

-- where imports agreed and nothing was begun, the newest configuration is committed, and no plex is held back
abbrev pub IsTight : GroupNode → GroupCore → Type 0
IsTight note core = note.loose ≡ false → note.begun ≡ [] → is_sure core ≡ true

-- the note of disks of which, if this is so, it is no longer known what they hold
abbrev pub note_dimmed : Bool → GroupNode → GroupNode
note_dimmed dims note = record note { dark = dims || note.dark }

-- unless imports may disagree, each image has this configuration, but for its serial, or one that is noted as begun
pub record NotesFound (note : GroupNode) (c : Config) (m : Meaning) : Type 0 where
  pub each : note.loose ≡ false → (i : Image) (x : Config) → Each m.leaves i → found m i ≡ Found x → (at_serial 0 x ≡ at_serial 0 c) ⊎ Contains note.begun (noted_try x)

-- What images have: by the note; and the newest configuration where it is committed. No plex is held back where nothing is begun.
pub record ImagesAre (note : GroupNode) (core : GroupCore) (m : Meaning) : Type 0 where
  pub noted : NotesFound note core.inner.config m
  pub newest : core.inner.committed ≡ true → AllAtOnce (wide core).config m
  pub openly : MissesOpenly (wide core)
  pub free : note.loose ≡ false → note.begun ≡ [] → core.held ≡ None

-- The group lies on the disks of the site, has the configuration that is noted, and its volumes have what is noted of them. Imports agree
-- unless it is noted as loose, and the newest configuration is committed where no commit was refused since.
pub record GroupLies (n : Node) (note : GroupNode) (core : GroupCore) (m : Meaning) : Type 0 where
  pub units : m.units ≡ n.disks
  pub size : (u : ℕ) → u < n.disks → m.size u ≡ n.blocks
  pub config : note.config ≡ noted_config core.inner.config
  pub agreed : note.loose ≡ false → core.inner.agreed ≡ true
  pub committed : note.loose ≡ false → note.begun ≡ [] → core.inner.committed ≡ true
  pub images : ImagesAre note core m
  pub holds : HoldsPlain note (inner_meaning (wide core) m)

-- the same of a site that is up
pub record IsGroupAt (n : Node) (note : GroupNode) (core : GroupCore) (m : Meaning) : Type 0 where
  pub state : n.state ≡ IsUp
  pub up : IsTrue m.down → ⊥
  pub lies : GroupLies n note core m

-- and of one whose disks are down, as its fuse ran out
pub record IsGroupCut (n : Node) (note : GroupNode) (core : GroupCore) (m : Meaning) : Type 0 where
  pub down : IsTrue m.down
  pub lies : GroupLies n note core m
