-- What a copy of some blocks of a volume from one plex to others leaves.
use Rattle.std.specs.Prelude.{◌≡◌, ℕ, ◌≤◌, ◌<◌, Bool, IsTrue, Option, List, length}
use Rattle.vx_config.specs.Checks.{is_sound}
use Rattle.vx_config.specs.declared.config.Config.{Config}
use Rattle.vx_disk.specs.Shelf.{Goes, Meaning}
use Rattle.vx_layout.specs.Places.{place}
use Rattle.vx_volume.specs.Plexes.{DisksFit, Inside, active}
use Rattle.vx_volume.specs.Volumes.{OnPlex, PlexFlushed, PlexWrote}
use Rattle.vx_resync.specs.Picks.{InPicked, InPickedBelow, picked_below}
use Rattle.vx_resync.specs.Sources.{IsSource, Target}

-- one of these blocks of the volume, at its place on a plex that is copied to, with a value that the source read there
pub record FromPlex (c : Config) (v source : ℕ) (to : Option ℕ) (P : ℕ → Type 0) (m : Meaning) (u b : ℕ) (x : List ℕ) : Type 0 where
  pub number : ℕ
  pub plex : ℕ
  pub inside : Inside c v number
  pub is_target : Target c v to plex
  pub is_one : P number
  pub at : place c v plex number ≡ (u, b)
  pub value : IsTrue m.tells → m.reads (place c v source number).0 (place c v source number).1 x

-- each plex that is copied to reads of these blocks one value, which the source read
pub record ReadAlike (c : Config) (v source : ℕ) (to : Option ℕ) (P : ℕ → Type 0) (old new : Meaning) : Type 0 where
  pub up : IsTrue new.down → ⊥
  pub value : ℕ → List ℕ
  pub origin : (k : ℕ) → Inside c v k → P k → IsTrue old.tells → old.reads (place c v source k).0 (place c v source k).1 (value k)
  pub copied : (p k : ℕ) (x : List ℕ) → Target c v to p → Inside c v k → P k → new.reads (place c v p k).0 (place c v p k).1 x → x ≡ value k

-- the same of what a crash leaves
pub record LeftAlike (c : Config) (v source : ℕ) (to : Option ℕ) (P : ℕ → Type 0) (old new : Meaning) : Type 0 where
  pub up : IsTrue new.down → ⊥
  pub value : ℕ → List ℕ
  pub origin : (k : ℕ) → Inside c v k → P k → IsTrue old.tells → old.reads (place c v source k).0 (place c v source k).1 (value k)
  pub copied : (p k : ℕ) (x : List ℕ) → Target c v to p → Inside c v k → P k → new.leaves (place c v p k).0 (place c v p k).1 x → x ≡ value k

-- Whatever a resynchronisation answers, at each moment: blocks of the picked regions alone have got a value, and one that the first plex
-- which can give it read, on a plex that is copied to.
pub record Resyncs (c : Config) (v : ℕ) (to : Option ℕ) (f : ℕ → Bool) (old new : Meaning) : Type 0 where
  pub source : ℕ
  pub is : IsSource c v to source
  pub goes : Goes (FromPlex c v source to (InPicked f) old) old new

-- Behind an Ok a crash leaves of each such block one value on all these plexes, which the source read.
pub record Resynced (c : Config) (v : ℕ) (to : Option ℕ) (f : ℕ → Bool) (old new : Meaning) : Type 0 where
  pub source : ℕ
  pub is : IsSource c v to source
  pub left : LeftAlike c v source to (InPicked f) old new

-- a block of the run, at its place on a plex that is copied to, with its piece of the bytes
pub record OnTargets (c : Config) (v : ℕ) (to : Option ℕ) (block n : ℕ) (bytes : List ℕ) (u b : ℕ) (x : List ℕ) : Type 0 where
  pub plex : ℕ
  pub is_target : Target c v to plex
  pub put : OnPlex c v plex block n bytes u b x

-- each plex that is copied to reads what was written
pub record TargetsWrote (c : Config) (v : ℕ) (to : Option ℕ) (block n : ℕ) (bytes : List ℕ) (old new : Meaning) : Type 0 where
  pub up : IsTrue new.down → ⊥
  pub each : (p : ℕ) → Target c v to p → PlexWrote c v p block n block n bytes old new

-- a crash leaves of each what it read
pub record TargetsFlushed (c : Config) (v : ℕ) (to : Option ℕ) (old new : Meaning) : Type 0 where
  pub up : IsTrue new.down → ⊥
  pub each : (p : ℕ) → Target c v to p → PlexFlushed c v p old new

-- each plex that is copied to is ACTIVE
pub record TargetsActive (c : Config) (v : ℕ) (to : Option ℕ) : Type 0 where
  pub each : (p : ℕ) → Target c v to p → IsTrue (active c v p)

-- what a copy needs
pub record CanCopy (c : Config) (v source : ℕ) (to : Option ℕ) (m : Meaning) : Type 0 where
  pub sound : IsTrue (is_sound c)
  pub volume : v < length c.volumes
  pub source_on : IsTrue (active c v source)
  pub targets : TargetsActive c v to
  pub disks : DisksFit c.disks m
  pub up : IsTrue m.down → ⊥

-- the picked regions below this one are copied, and counted
pub record CopiedBelow (c : Config) (v source : ℕ) (to : Option ℕ) (f : ℕ → Bool) (n count : ℕ) (old new : Meaning) : Type 0 where
  pub goes : Goes (FromPlex c v source to (InPickedBelow f n) old) old new
  pub alike : ReadAlike c v source to (InPickedBelow f n) old new
  pub counted : count ≡ picked_below f n
  pub few : count ≤ n
