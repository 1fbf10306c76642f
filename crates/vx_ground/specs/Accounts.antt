-- What calls of a group make of its configuration and of its disks, in facts without a choice.
use Rattle.std.specs.Prelude.{◌≡◌, ℕ, ◌<◌, ◌≤◌, ◌^◌, Bool, true, false, [], Err, IsTrue, None, Ok, Result}
use Rattle.vx_config.specs.declared.config.Config.{Config}
use Rattle.vx_copies.specs.Marks.{blocks_at, failed_at}
use Rattle.vx_disk.specs.Counts.{Rose}
use Rattle.vx_disk.specs.Shelf.{Meaning}
use Rattle.vx_disk.specs.declared.shelf.ShelfError.{ShelfError}
use Rattle.vx_disk.specs.declared.shelf.ShelfError.TheVariants.{Fault, Down}
use Rattle.vx_group.specs.Loses.{SameParts}
use Rattle.vx_group.specs.Holding.{wide}
use Rattle.vx_group.specs.declared.group_core.GroupCore.{GroupCore}
use Rattle.vx_grouped.specs.GroupNotes.{is_sure}
use Rattle.vx_kept.specs.Finds.{AllAtOnce}
use Rattle.vx_kept.specs.Keeping.{frame_at}
use Rattle.vx_volume.specs.Plexes.{active, uses}

-- what an account keeps of a group: its configuration, the one that its disks may keep, and whether the newest one is committed, and no plex is held back
pub record GroundState : Type 0 where
  pub config : Config
  pub seen : Config
  pub committed : Bool
  pub unsettled : Bool
  pub sure : Bool

abbrev pub ground_state : GroupCore → GroundState
ground_state core = record { config = core.inner.config; seen = (wide core).config; committed = core.inner.committed; unsettled = core.inner.unsettled; sure = is_sure core }

-- a configuration without disks
abbrev pub no_config : Config
no_config = record { serial = 0; site = 0; disks = []; volumes = []; rvg = None }

abbrev pub no_state : GroundState
no_state = record { config = no_config; seen = no_config; committed = false; unsettled = false; sure = false }

-- no call failed on a disk of a plex
pub record PlexQuiet (c : Config) (v p : ℕ) (old new : Meaning) : Type 0 where
  pub none : (u : ℕ) → IsTrue (uses c v p u) → Rose (old.disk_faults u) (new.disk_faults u) → ⊥

-- nor on any disk: numbers of disks have 32 bits
pub record DisksQuiet (old new : Meaning) : Type 0 where
  pub none : (u : ℕ) → u < 2 ^ 32 → Rose (old.disk_faults u) (new.disk_faults u) → ⊥

-- so has that of the disk that a failed call names
abbrev pub FewError : ShelfError → Type 0
FewError (Fault disk) = disk < 2 ^ 32
FewError Down = Unit {0}

abbrev pub FewDisk : {T : Type 0} → Result T ShelfError → Type 0
FewDisk (Ok x) = Unit {0}
FewDisk (Err error) = FewError error

-- the newest configuration is not said to be committed while a commit is missed
abbrev pub StateOpen : GroundState → Type 0
StateOpen a = a.unsettled ≡ true → a.committed ≡ false

-- The same volumes but for the states of their plexes, which lie where they lay: one that was ACTIVE is so, where no call on one of its disks failed, and one that is was
-- so, where none on a disk of its volume did; and the same disks, of which one is newly held as failed only where a call on it failed. No count fell. Where the newest
-- configuration is committed each image has it, if it was so before. And it is committed, with no plex held back, where it was so, no call on a disk failed and the disks are up.
pub record GroundSince (a : GroundState) (m : Meaning) (b : GroundState) (m' : Meaning) : Type 0 where
  pub parts : SameParts a.config b.config
  pub frames : (v : ℕ) → frame_at b.config v ≡ frame_at a.config v
  pub counts : (u : ℕ) → m.disk_faults u ≤ m'.disk_faults u
  pub lies : (v p u : ℕ) → uses b.config v p u ≡ uses a.config v p u
  pub plexes : (v p : ℕ) → PlexQuiet a.config v p m m' → IsTrue (active a.config v p) → IsTrue (active b.config v p)
  pub on : (v p : ℕ) → ((q : ℕ) → PlexQuiet a.config v q m m') → IsTrue (active b.config v p) → IsTrue (active a.config v p)
  pub blocks : (u : ℕ) → blocks_at b.config.disks u ≡ blocks_at a.config.disks u
  pub blamed : (u : ℕ) → failed_at a.config.disks u ≡ false → failed_at b.config.disks u ≡ true → (Rose (m.disk_faults u) (m'.disk_faults u) → ⊥) → ⊥
  pub stays : (u : ℕ) → failed_at a.config.disks u ≡ true → failed_at b.config.disks u ≡ true
  pub openly : StateOpen a → StateOpen b
  pub newest : StateOpen a → (a.committed ≡ true → AllAtOnce a.seen m) → b.committed ≡ true → AllAtOnce b.seen m'
  pub falls : IsTrue m.down → IsTrue m'.down
  pub sure : a.sure ≡ true → DisksQuiet m m' → (IsTrue m'.down → ⊥) → b.sure ≡ true
