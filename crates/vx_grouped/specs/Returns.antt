-- A group that comes back by an import, as its site notes it.
use Rattle.std.specs.Prelude.{◌≡◌, ◌⊎◌, ℕ, ◌<◌, ◌≤◌, Bool, true, false, if◌then◌else◌, IsTrue, Some, None, List, [], length, Result, Ok, Err}
use Rattle.vx_model.specs.declared.errors.Stop.{Stop}
use Rattle.vx_model.specs.declared.site.SiteState.TheVariants.{Up as IsUp}
use Rattle.vx_disk.specs.Counts.{Rose}
use Rattle.vx_disk.specs.Shelf.{Each, Image, Meaning}
use Rattle.vx_history.specs.Groups.{BlockMay, GroupNode}
use Rattle.vx_history.specs.World.{Node}
use Rattle.vx_config.specs.Changes.{live_again}
use Rattle.vx_config.specs.Checks.{blocks_of, is_sound}
use Rattle.vx_config.specs.declared.config.Config.{Config}
use Rattle.vx_config.specs.declared.entry.PlexEntry.{PlexEntry}
use Rattle.vx_copies.specs.Marks.{blocks_at, failed_at}
use Rattle.vx_copyfmt.specs.Imports.{Found}
use Rattle.vx_layout.specs.Places.{plex_at}
use Rattle.vx_volume.specs.Plexes.{Inside}
use Rattle.vx_kept.specs.Groups.{found}
use Rattle.vx_kept.specs.Keeping.{AllOn, frame_at, volume_name}
use Rattle.vx_group.specs.Holding.{wide}
use Rattle.vx_group.specs.Loses.{LosesPlexes}
use Rattle.vx_group.specs.Resumes.{CanImportBehind}
use Rattle.vx_group.specs.Stands.{inner_meaning}
use Rattle.vx_group.specs.declared.group_core.GroupCore.{GroupCore}
use Rattle.vx_group.specs.declared.inner.Inner.{Inner}
use Rattle.vx_grouped.specs.Away.{AwayLies}
use Rattle.vx_grouped.specs.GroupNotes.{IsGroupAt, noted_config}
use Rattle.vx_grouped.specs.Plain.{HoldsPlain}
use Rattle.vx_grouped.specs.Clean.{StoppedSome}

-- the note behind an import: the configuration in memory, which is committed; of the volumes that were renewed each block has one value
abbrev pub note_imported : Inner → (ℕ → Bool) → (ℕ → ℕ → List ℕ) → GroupNode → GroupNode
note_imported core renewed value note = record note {
  config = noted_config core.config;
  begun = [];
  loose = false;
  bytes = record { size = λ v. blocks_of core.config.volumes v; block = λ v b. if renewed v then value v b else note.bytes.block v b };
  others = λ v b. if renewed v then [] else note.others v b;
  cut = None;
}

-- the disks of the shelf, of which one is held as failed only where a call on it failed
pub record DisksBack (c : Config) (old new : Meaning) : Type 0 where
  pub count : length c.disks ≡ old.units
  pub blocks : (u : ℕ) → u < old.units → blocks_at c.disks u ≡ old.size u
  pub failed : (u : ℕ) → u < old.units → failed_at c.disks u ≡ true → Rose (old.faults u) (new.faults u)

-- What was taken up of an image that the disks may have had: its configuration, with each plex that is CLEAN as ACTIVE. Since then plexes were lost alone.
pub record TakesOpened (old : Meaning) (d : Config) (new : Meaning) : Type 0 where
  pub image : Image
  pub config : Config
  pub opened : Config
  pub each : Each old.leaves image
  pub finds : found old image ≡ Found config
  pub sound : is_sound config ≡ true
  pub count : length config.disks ≡ old.units
  pub site : opened.site ≡ config.site
  pub rvg : opened.rvg ≡ config.rvg
  pub frames : (v : ℕ) → frame_at opened v ≡ frame_at config v
  pub states : (v k : ℕ) (p q : PlexEntry) → plex_at config v k ≡ Some p → plex_at opened v k ≡ Some q → q.state ≡ live_again p.state
  pub on : AllOn opened
  pub loses : LosesPlexes opened d old new

-- Its volumes as an import takes them up. Where contents are told its first volumes are those of the configuration of before, each block of them that was
-- renewed has a value that it might have, and each volume was renewed that did not stop cleanly.
pub record VolumesReturn (n : Node) (note : GroupNode) (last : Config) (old : Meaning) (core : GroupCore) (m : Meaning) : Type 0 where
  pub renewed : ℕ → Bool
  pub value : ℕ → ℕ → List ℕ
  pub units : m.units ≡ n.disks
  pub size : (u : ℕ) → u < n.disks → m.size u ≡ n.blocks
  pub holds : HoldsPlain (note_imported core.inner renewed value note) (inner_meaning (wide core) m)
  pub volumes : IsTrue old.tells → length last.volumes ≤ length core.inner.config.volumes
  pub sizes : IsTrue old.tells → (v : ℕ) → v < length last.volumes → blocks_of core.inner.config.volumes v ≡ blocks_of last.volumes v
  pub frames : IsTrue old.tells → (v : ℕ) → v < length last.volumes → frame_at core.inner.config v ≡ frame_at last v
  pub names : IsTrue old.tells → (v : ℕ) → v < length last.volumes → volume_name core.inner.config v ≡ volume_name last v
  pub disks : DisksBack core.inner.config old m
  pub may : IsTrue old.tells → (v b : ℕ) → Inside last v b → renewed v ≡ true → BlockMay note v b (value v b)
  pub stops : IsTrue old.tells → (v : ℕ) → v < length core.inner.config.volumes → (renewed v ≡ true) ⊎ StoppedSome old v
  pub takes : IsTrue old.tells → TakesOpened old core.inner.config m

-- The group is up. Where contents are told its first volumes are those of the configuration of before, each block of them that was renewed has a value that
-- it might have, and each volume was renewed that did not stop cleanly. Each plex that takes part is ACTIVE.
pub record GroupReturns (n : Node) (note : GroupNode) (last : Config) (old : Meaning) (core : GroupCore) (m : Meaning) : Type 0 where
  pub renewed : ℕ → Bool
  pub value : ℕ → ℕ → List ℕ
  pub at : IsGroupAt (record n { state = IsUp }) (note_imported core.inner renewed value note) core m
  pub volumes : IsTrue old.tells → length last.volumes ≤ length core.inner.config.volumes
  pub sizes : IsTrue old.tells → (v : ℕ) → v < length last.volumes → blocks_of core.inner.config.volumes v ≡ blocks_of last.volumes v
  pub frames : IsTrue old.tells → (v : ℕ) → v < length last.volumes → frame_at core.inner.config v ≡ frame_at last v
  pub names : IsTrue old.tells → (v : ℕ) → v < length last.volumes → volume_name core.inner.config v ≡ volume_name last v
  pub disks : DisksBack core.inner.config old m
  pub may : IsTrue old.tells → (v b : ℕ) → Inside last v b → renewed v ≡ true → BlockMay note v b (value v b)
  pub stops : IsTrue old.tells → (v : ℕ) → v < length core.inner.config.volumes → (renewed v ≡ true) ⊎ StoppedSome old v
  pub takes : IsTrue old.tells → TakesOpened old core.inner.config m
  pub on : AllOn core.inner.config

-- no image has a volume more than this configuration, as one might behind a refused commit
pub record HasNoMore (last : Config) (m : Meaning) : Type 0 where
  pub each : (i : Image) (x : Config) → Each m.leaves i → found m i ≡ Found x → length x.volumes ≡ length last.volumes

-- the note of disks that hold configurations which may not agree
abbrev pub note_loose : GroupNode → GroupNode
note_loose note = record note { loose = true }

-- What a refused import leaves: the disks as they were; or the group as far as it was taken up, and behind any crash it may be imported.
abbrev pub ImportLeft : Node → GroupNode → Config → Meaning → Meaning → Type 0
ImportLeft n note last old m = AwayLies n note last m ⊎ (CanImportBehind m × (HasNoMore last old → AwayLies n (note_loose note) last m))

abbrev pub ImportLeaves : {S G : Type 0} → Node → GroupNode → Config → Meaning → (S → Meaning) → (G → GroupCore) → (G → S) → Result G (S × Stop) → Type 0
ImportLeaves n note last old meaning core shelf (Ok g) = GroupReturns n note last old (core g) (meaning (shelf g))
ImportLeaves n note last old meaning core shelf (Err (s, stop)) = ImportLeft n note last old (meaning s)
