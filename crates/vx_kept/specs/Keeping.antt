-- What the disks of a group keep: in each image that a crash may leave, each plex that takes part is ACTIVE in memory.
use Rattle.std.specs.Prelude.{◌≡◌, ◌⊎◌, ℕ, ◌+◌, ◌<◌, ◌≤◌, Bool, true, false, IsTrue, IsFalse, Option, Some, None, List, [], length, map, slice_get}
use Rattle.vx_model.specs.declared.limits.TheConstants.{PUBLIC_START}
use Rattle.vx_model.specs.declared.site.PlexState.TheVariants.{Stale}
use Rattle.vx_disk.specs.Moves.{Says}
use Rattle.vx_disk.specs.Shelf.{Each, Image, Meaning, Or, Values}
use Rattle.vx_copyfmt.specs.Commits.{Counts, Tidy}
use Rattle.vx_copyfmt.specs.Imports.{Found}
use Rattle.vx_config.specs.Checks.{blocks_of}
use Rattle.vx_config.specs.Changes.{lost_as, with_state}
use Rattle.vx_config.specs.declared.config.Config.{Config}
use Rattle.vx_config.specs.declared.entry.VolumeEntry.{VolumeEntry}
use Rattle.vx_config.specs.declared.entry.VolumeLog.{VolumeLog}
use Rattle.vx_copies.specs.Commits.{Below, HaveLabels, HeldGood}
use Rattle.vx_copies.specs.Looking.{on_shelf}
use Rattle.vx_kept.specs.Choice.{chosen, live}
use Rattle.vx_kept.specs.Groups.{found, found_by}
use Rattle.vx_kept.specs.LogRuns.{log_place, log_trusted}
use Rattle.vx_layout.specs.Places.{place}
use Rattle.vx_volume.specs.Plexes.{active}

abbrev pub name_or : Option VolumeEntry → List ℕ
name_or None = []
name_or (Some v) = v.name

-- the name of a volume
abbrev pub volume_name : Config → ℕ → List ℕ
volume_name c v = name_or (slice_get c.volumes v)

-- A volume as no attach, detach or loss changes it: each plex STALE and not whole, and no log lost.
unfoldable pub frame : VolumeEntry → VolumeEntry
frame v = record {
  name = v.name;
  blocks = v.blocks;
  ncol = v.ncol;
  width = v.width;
  prefer = v.prefer;
  drl = lost_as false v.drl;
  fmr = lost_as false v.fmr;
  plexes = map (with_state Stale false) v.plexes;
}

abbrev pub frame_or : Option VolumeEntry → Option VolumeEntry
frame_or None = None
frame_or (Some v) = Some (frame v)

-- the same of the volume at this place
abbrev pub frame_at : Config → ℕ → Option VolumeEntry
frame_at c v = frame_or (slice_get c.volumes v)

-- the same volumes but for the states of their plexes, with the same places of plexes and logs; each log that x trusts c trusts
pub record SameShape (x c : Config) : Type 0 where
  pub volumes : length x.volumes ≡ length c.volumes
  pub frames : (v : ℕ) → frame_at x v ≡ frame_at c v
  pub blocks : (v : ℕ) → blocks_of x.volumes v ≡ blocks_of c.volumes v
  pub place : (v p b : ℕ) → place x v p b ≡ place c v p b
  pub logs : (v : ℕ) (log : VolumeLog) → log_place x v log ≡ log_place c v log
  pub trusted : (v : ℕ) (log : VolumeLog) → log_trusted x v log ≡ true → log_trusted c v log ≡ true

-- the volumes of c are the first ones of x, the same but for the states of their plexes, with the same places of plexes and logs; each log of them
-- that x trusts c trusts. Of its other volumes x trusts no log, and each plex that takes part is ACTIVE.
pub record Extends (x c : Config) : Type 0 where
  pub volumes : length c.volumes ≤ length x.volumes
  pub frames : (v : ℕ) → v < length c.volumes → frame_at x v ≡ frame_at c v
  pub blocks : (v : ℕ) → v < length c.volumes → blocks_of x.volumes v ≡ blocks_of c.volumes v
  pub place : (v p b : ℕ) → v < length c.volumes → place x v p b ≡ place c v p b
  pub logs : (v : ℕ) (log : VolumeLog) → v < length c.volumes → log_place x v log ≡ log_place c v log
  pub trusted : (v : ℕ) (log : VolumeLog) → v < length c.volumes → log_trusted x v log ≡ true → log_trusted c v log ≡ true
  pub beyond : (v : ℕ) (log : VolumeLog) → length c.volumes ≤ v → log_trusted x v log ≡ false
  pub fresh : (v p : ℕ) → length c.volumes ≤ v → IsTrue (live x v p) → IsTrue (active x v p)

-- A configuration that an image may have beside one in memory: of the volumes of memory each plex that takes part in it is ACTIVE in memory,
-- and the one that it chooses takes part. It may have volumes more, which a refused commit was to make.
pub record Kin (c x : Config) : Type 0 where
  pub shape : Extends x c
  pub on : (v p : ℕ) → v < length c.volumes → IsTrue (live x v p) → IsTrue (active c v p)
  pub some : (v : ℕ) → v < length c.volumes → IsTrue (live x v (chosen x v))

-- An image has a configuration of this kind; and so does what an import finds that can read one of these disks, which the newest committed
-- configuration holds as good.
pub record Sees (c : Config) (good : ℕ → Type 0) (m : Meaning) (i : Image) : Type 0 where
  pub config : Config
  pub found : found m i ≡ Found config
  pub kin : Kin c config
  pub others : (readable : ℕ → Bool) (g : ℕ) (x : Config) → good g → readable g ≡ true → found_by m readable i ≡ Found x → Kin c x

-- the disks are ready for the next serial, and each has a label
pub record Base (c : Config) (m : Meaning) : Type 0 where
  pub below : Below c m
  pub counts : (u : ℕ) → u < m.units → Counts (on_shelf m) (m.leaves u)
  pub labels : HaveLabels m

-- the disks keep a configuration of this kind, and are ready for the next commit
pub record Kept (c : Config) (good : ℕ → Type 0) (m : Meaning) : Type 0 where
  pub below : Below c m
  pub counts : (u : ℕ) → u < m.units → Counts (on_shelf m) (m.leaves u)
  pub labels : HaveLabels m
  pub sees : (i : Image) → Each m.leaves i → Sees c good m i

-- whatever a crash leaves of a disk that is held as good, the next copy goes to one area
pub record IsTidy (c : Config) (m : Meaning) : Type 0 where
  pub each : (u : ℕ) → HeldGood c m u → Tidy (on_shelf m) (c.serial + 1) (m.leaves u)

-- each plex that takes part is ACTIVE
pub record AllOn (c : Config) : Type 0 where
  pub each : (v p : ℕ) → IsTrue (live c v p) → IsTrue (active c v p)

-- What a run of calls does to blocks of plexes, from block 512 on; of each image that a crash leaves at a moment of it `during` is true.
pub record Acts (written : Values) (during : Says) (old new : Meaning) : Type 0 where
  pub units : new.units ≡ old.units
  pub size : (u : ℕ) → new.size u ≡ old.size u
  pub tells : new.tells ≡ old.tells
  pub reads : (u b : ℕ) (v : List ℕ) → PUBLIC_START ≤ b → new.reads u b v → Or old.reads written u b v ⊎ IsTrue new.down
  pub leaves : (u b : ℕ) (v : List ℕ) → PUBLIC_START ≤ b → new.leaves u b v → Or old.leaves written u b v
  pub later : old.moment ≤ new.moment
  pub since : (t : ℕ) (i : Image) → t ≤ old.moment → new.left_since t i → old.left_since t i ⊎ (((u b : ℕ) → PUBLIC_START ≤ b → Or old.leaves written u b (i u b)) × during i)
  pub keeps : (t : ℕ) (i : Image) → t ≤ old.moment → old.left_since t i → new.left_since t i
  pub faults : (u : ℕ) → old.faults u ≤ new.faults u
  pub disk_faults : (d : ℕ) → old.disk_faults d ≤ new.disk_faults d
  pub falls : IsTrue old.down → IsTrue new.down
  pub unarmed : IsFalse old.armed → IsFalse new.armed
  pub safe : IsFalse old.armed → IsTrue new.down → IsTrue old.down

-- a configuration to be committed: the same volumes, or more behind them, and of the same ones each plex that takes part is ACTIVE in memory
pub record MayBeNext (c d : Config) : Type 0 where
  pub shape : Extends d c
  pub serial : d.serial ≡ c.serial
  pub narrows : (v p : ℕ) → v < length c.volumes → IsTrue (live d v p) → IsTrue (active c v p)
  pub some : (v : ℕ) → v < length d.volumes → (p : ℕ) × IsTrue (live d v p)
