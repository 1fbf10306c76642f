-- A plex that is copied to another one.
use Rattle.std.specs.Prelude.{◌≡◌, ◌⊎◌, ℕ, ◌+◌, ◌<◌, ◌≤◌, IsTrue, List, Result, Ok, Err}
use Rattle.vx_disk.specs.Counts.{Rose}
use Rattle.vx_disk.specs.Shelf.{Goes, Meaning}
use Rattle.vx_disk.specs.declared.shelf.ShelfError.{ShelfError}
use Rattle.vx_disk.specs.declared.shelf.ShelfError.TheVariants.{Fault, Down}
use Rattle.vx_config.specs.declared.config.Config.{Config}
use Rattle.vx_layout.specs.Places.{place}
use Rattle.vx_volume.specs.Plexes.{Inside}
use Rattle.vx_volume.specs.Volumes.{PlexBlamed}

-- any value at a place of this plex
pub record OnCopy (c : Config) (v p u b : ℕ) (x : List ℕ) : Type 0 where
  pub number : ℕ
  pub inside : Inside c v number
  pub at : place c v p number ≡ (u, b)

-- a run of the plex reads what the source read there, and elsewhere what it read
pub record CopyRun (c : Config) (v source p first count : ℕ) (old new : Meaning) : Type 0 where
  pub each : (k : ℕ) (x : List ℕ) → Inside c v k → new.reads (place c v p k).0 (place c v p k).1 x
      → ((first ≤ k) × (k < first + count) × old.reads (place c v source k).0 (place c v source k).1 x) ⊎ ((first ≤ k → k < first + count → ⊥) × old.reads (place c v p k).0 (place c v p k).1 x)

-- the blocks below this one read what the source read
pub record CopyBelow (c : Config) (v source p count : ℕ) (old new : Meaning) : Type 0 where
  pub each : (k : ℕ) (x : List ℕ) → Inside c v k → k < count → new.reads (place c v p k).0 (place c v p k).1 x → old.reads (place c v source k).0 (place c v source k).1 x

-- so it is behind the first calls
pub record CopyLoop (c : Config) (v source p count blocks : ℕ) (old m : Meaning) : Type 0 where
  pub up : IsTrue m.down → ⊥
  pub few : count ≤ blocks
  pub goes : Goes (OnCopy c v p) old m
  pub below : CopyBelow c v source p count old m

-- a crash leaves of the plex what the source read
pub record IsCopied (c : Config) (v source p : ℕ) (old new : Meaning) : Type 0 where
  pub each : (k : ℕ) (x : List ℕ) → Inside c v k → new.leaves (place c v p k).0 (place c v p k).1 x → old.reads (place c v source k).0 (place c v source k).1 x

-- why a copy failed: a call on a disk of one of the two plexes did
abbrev pub CopyCause : {T : Type 0} → Config → ℕ → ℕ → ℕ → Meaning → Meaning → Result T ShelfError → Type 0
CopyCause c v source p old new (Ok x) = IsTrue new.down → ⊥
CopyCause c v source p old new (Err (Fault disk)) = (PlexBlamed c v source old new ⊎ PlexBlamed c v p old new) × Rose (old.disk_faults disk) (new.disk_faults disk) × (IsTrue new.down → ⊥)
CopyCause c v source p old new (Err Down) = IsTrue new.down
