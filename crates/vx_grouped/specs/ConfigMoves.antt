-- What a call on a group makes of its configuration, place by place. Serials do not count.
use Rattle.std.specs.Prelude.{◌≡◌, ◌⊎◌, ℕ, ◌<◌, Bool, true, false, IsTrue, Some, length, is_some, slice_get, List}
use Rattle.vx_model.specs.declared.site.PlexState.{PlexState}
use Rattle.vx_model.specs.declared.site.PlexState.TheVariants.{Active, Stale}
use Rattle.vx_disk.specs.Counts.{Rose}
use Rattle.vx_disk.specs.Shelf.{Meaning}
use Rattle.vx_config.specs.Changes.{Matched, live_again, stated}
use Rattle.vx_config.specs.declared.config.Config.{Config}
use Rattle.vx_config.specs.declared.entry.DiskEntry.{DiskEntry}
use Rattle.vx_config.specs.declared.entry.PlexEntry.{PlexEntry}
use Rattle.vx_config.specs.declared.entry.VolumeEntry.{VolumeEntry}
use Rattle.vx_layout.specs.Made.{with_volume}
use Rattle.vx_layout.specs.Places.{plex_at}
use Rattle.vx_layout.specs.Space.{IsFound}
use Rattle.vx_layout.specs.declared.shape.Found.{Found}
use Rattle.vx_layout.specs.declared.shape.Shape.{Shape}
use Rattle.vx_volume.specs.Plexes.{uses, uses_or}
use Rattle.vx_group.specs.Loses.{SameParts}
use Rattle.vx_group.specs.Makes.{IsVolume}
use Rattle.vx_group.specs.Quiesces.{AnyFailed}

-- a call on a disk failed on which a part of the plex lies
pub record PlexRose (old new : Meaning) (p : PlexEntry) : Type 0 where
  pub disk : ℕ
  pub lies : IsTrue (uses_or disk (Some p))
  pub below : disk < old.units
  pub rose : Rose (old.disk_faults disk) (new.disk_faults disk)

-- so of some plex of the volume
pub record VolumeRose (old new : Meaning) (v : VolumeEntry) : Type 0 where
  pub place : ℕ
  pub plex : PlexEntry
  pub at : slice_get v.plexes place ≡ Some plex
  pub rose : PlexRose old new plex

-- so of each plex of a volume that takes part
pub record EachPlexRose (c : Config) (v : ℕ) (old new : Meaning) : Type 0 where
  pub each : (p : ℕ) (plex : PlexEntry) → plex_at c v p ≡ Some plex → plex.state ≡ Active → PlexRose old new plex

-- ---- plexes and volumes, by what may become of the state of a plex of a volume

-- it lies where it lay
pub record PlexMoves (By : PlexEntry → PlexState → Type 0) (p q : PlexEntry) : Type 0 where
  pub subdisks : q.subdisks ≡ p.subdisks
  pub state : By p q.state

-- the same but for its plexes and what is lost of its logs
pub record VolumeMoves (By : VolumeEntry → PlexEntry → PlexState → Type 0) (v u : VolumeEntry) : Type 0 where
  pub name : u.name ≡ v.name
  pub blocks : u.blocks ≡ v.blocks
  pub ncol : u.ncol ≡ v.ncol
  pub width : u.width ≡ v.width
  pub prefer : u.prefer ≡ v.prefer
  pub drl : is_some u.drl ≡ is_some v.drl
  pub fmr : is_some u.fmr ≡ is_some v.fmr
  pub plexes : (k : ℕ) → Matched (PlexMoves (By v)) (slice_get v.plexes k) (slice_get u.plexes k)

-- it is as it was
abbrev pub StateKeeps : VolumeEntry → PlexEntry → PlexState → Type 0
StateKeeps v p t = t ≡ p.state

-- so, or it is STALE, and a call on one of its disks failed; or it is ACTIVE, as it was held back and a call on a disk of its volume failed
abbrev pub StateMoves : Meaning → Meaning → VolumeEntry → PlexEntry → PlexState → Type 0
StateMoves old new v p t = (t ≡ p.state) ⊎ ((t ≡ Stale) × PlexRose old new p) ⊎ ((t ≡ Active) × VolumeRose old new v)

-- it takes part as it did, where it stopped cleanly
abbrev pub OpensSame : VolumeEntry → PlexEntry → PlexState → Type 0
OpensSame v p t = live_again t ≡ live_again p.state

-- so, or it is STALE, and a call on one of its disks failed; or it was, and takes part
abbrev pub OpensMost : Meaning → Meaning → VolumeEntry → PlexEntry → PlexState → Type 0
OpensMost old new v p t = (live_again t ≡ live_again p.state) ⊎ ((t ≡ Stale) × PlexRose old new p) ⊎ ((live_again t ≡ Active) × (p.state ≡ Stale))

-- in an import: it is ACTIVE where it took part, and STALE else; or STALE, and a call on one of its disks failed; or ACTIVE, and one on a disk of its volume
-- did
abbrev pub OpensMoves : Meaning → Meaning → VolumeEntry → PlexEntry → PlexState → Type 0
OpensMoves old new v p t = (t ≡ live_again p.state) ⊎ ((t ≡ Stale) × PlexRose old new p) ⊎ ((t ≡ Active) × VolumeRose old new v)

-- any state
abbrev pub AnyState : VolumeEntry → PlexEntry → PlexState → Type 0
AnyState v p t = Unit {0}

-- ---- disks

-- Disk k is held as failed as it was, or where a call on it failed. It may be held as good again where this says so.
pub record DiskMoves (again : ℕ → Bool) (old new : Meaning) (k : ℕ) (a b : DiskEntry) : Type 0 where
  pub blocks : b.blocks ≡ a.blocks
  pub failed : b.failed ≡ true → (a.failed ≡ true) ⊎ Rose (old.disk_faults k) (new.disk_faults k)
  pub stays : again k ≡ false → a.failed ≡ true → b.failed ≡ true

-- ---- configurations

-- d is c, but for disks that are held as failed, or as good again, and the states of plexes
pub record ConfigMoves (again : ℕ → Bool) (By : VolumeEntry → PlexEntry → PlexState → Type 0) (old new : Meaning) (c d : Config) : Type 0 where
  pub parts : SameParts c d
  pub disks : (k : ℕ) → Matched (DiskMoves again old new k) (slice_get c.disks k) (slice_get d.disks k)
  pub volumes : (v : ℕ) → Matched (VolumeMoves By) (slice_get c.volumes v) (slice_get d.volumes v)

-- no disk
abbrev pub none_again : ℕ → Bool
none_again k = false

-- a call in which disks may have failed
abbrev pub LosesSome : Meaning → Meaning → Config → Config → Type 0
LosesSome old new = ConfigMoves none_again (StateMoves old new) old new

-- a plex was put into this state, as one of which the next attach has to copy all or not, and no other changed its own
pub record Restated (again : ℕ → Bool) (v p : ℕ) (state : PlexState) (old new : Meaning) (c d : Config) : Type 0 where
  pub whole : Bool
  pub moves : ConfigMoves again StateKeeps old new (stated v p state whole c) d

-- a plex was detached
abbrev pub DetDone : ℕ → ℕ → Meaning → Meaning → Config → Config → Type 0
DetDone v p = Restated none_again v p Stale

-- or it was not, as a disk failed
abbrev pub DetFails : Meaning → Meaning → Config → Config → Type 0
DetFails = ConfigMoves none_again StateKeeps

-- or as the fuse ran out; memory may have it as detached all the same
abbrev pub DetCuts : ℕ → ℕ → Meaning → Meaning → Config → Config → Type 0
DetCuts v p old new c d = DetFails old new c d ⊎ DetDone v p old new c d

-- A plex was attached. Disks on which it lies may be held as good again.
abbrev pub AttDone : ℕ → ℕ → Meaning → Meaning → Config → Config → Type 0
AttDone v p old new c d = Restated (uses c v p) v p Active old new c d

-- or it was not, as a disk failed
abbrev pub AttFails : ℕ → ℕ → Meaning → Meaning → Config → Config → Type 0
AttFails v p old new c d = ConfigMoves (uses c v p) StateKeeps old new c d

-- or as the fuse ran out; memory may have it as attached all the same
abbrev pub AttCuts : ℕ → ℕ → Meaning → Meaning → Config → Config → Type 0
AttCuts v p old new c d = AttFails v p old new c d ⊎ AttDone v p old new c d

-- a volume stands behind those of before, in the place that was found for it
pub record VolumeAdded (name : List ℕ) (want : Shape) (vol : ℕ) (old new : Meaning) (c d : Config) : Type 0 where
  pub number : vol ≡ length c.volumes
  pub found : Found
  pub space : IsFound c want found
  pub volume : VolumeEntry
  pub is_volume : IsVolume name want found volume
  pub moves : LosesSome old new (with_volume c volume) d

-- plexes that took part stopped cleanly, and no other changed; or a call on a disk failed, and those on failed disks take no part
abbrev pub CleansPlexes : Meaning → Meaning → Config → Config → Type 0
CleansPlexes old new c d = ConfigMoves none_again OpensSame old new c d ⊎ (AnyFailed old new × ConfigMoves none_again (OpensMost old new) old new c d)

-- What an import took up: where contents are told, the first volumes are those of before but for the states of their plexes. Each disk is held as good,
-- or a call on it failed.
pub record ConfigBack (told : Type 0) (old new : Meaning) (c d : Config) : Type 0 where
  pub volumes : told → (v : ℕ) → v < length c.volumes → Matched (VolumeMoves AnyState) (slice_get c.volumes v) (slice_get d.volumes v)
  pub count : length d.disks ≡ old.units
  pub blocks : (k : ℕ) (disk : DiskEntry) → slice_get d.disks k ≡ Some disk → disk.blocks ≡ old.size k
  pub failed : (k : ℕ) (disk : DiskEntry) → slice_get d.disks k ≡ Some disk → disk.failed ≡ true → Rose (old.disk_faults k) (new.disk_faults k)
