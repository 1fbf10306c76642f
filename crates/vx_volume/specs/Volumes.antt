-- What reads, writes and flushes of a volume do.
use Rattle.std.specs.Prelude.{◌≡◌, ◌⊎◌, ℕ, ◌+◌, ◌-◌, ◌%◌, ◌<◌, Bool, true, false, IsTrue, Option, Some, None, List, Result, Ok, Err}
use Rattle.vx_config.specs.Checks.{plexes_of}
use Rattle.vx_disk.specs.Blocks.{bit_at}
use Rattle.vx_disk.specs.Counts.{Rose}
use Rattle.vx_disk.specs.Shelf.{Meaning, piece}
use Rattle.vx_disk.specs.declared.shelf.ShelfError.{ShelfError}
use Rattle.vx_disk.specs.declared.shelf.ShelfError.TheVariants.{Fault, Down}
use Rattle.vx_model.specs.declared.no.No.{No}
use Rattle.vx_model.specs.declared.no.No.TheVariants as refusal
use Rattle.vx_config.specs.declared.config.Config.{Config}
use Rattle.vx_layout.specs.Places.{place}
use Rattle.vx_volume.specs.Plexes.{InRun, Inside, active, prefer_of, uses}
use Rattle.vx_volume.specs.declared.sets.Failed.{Failed}
use Rattle.vx_volume.specs.declared.volume.Volume.{Volume}

-- ---- one plex

-- a block of the run, at its place on the plex, with its piece of the bytes
pub record OnPlex (c : Config) (v p block n : ℕ) (bytes : List ℕ) (u b : ℕ) (x : List ℕ) : Type 0 where
  pub number : ℕ
  pub run : InRun block n number
  pub at : place c v p number ≡ (u, b)
  pub value : x ≡ piece block bytes number

-- the same on some plex that is ACTIVE
pub record OnPlexes (c : Config) (v block n : ℕ) (bytes : List ℕ) (u b : ℕ) (x : List ℕ) : Type 0 where
  pub plex : ℕ
  pub is_on : IsTrue (active c v plex)
  pub put : OnPlex c v plex block n bytes u b x

-- the plex reads what was written to this part of the run, and elsewhere what it read
pub record PlexWrote (c : Config) (v p block n first count : ℕ) (bytes : List ℕ) (old new : Meaning) : Type 0 where
  pub each : (k : ℕ) (x : List ℕ) → Inside c v k → new.reads (place c v p k).0 (place c v p k).1 x
      → (InRun first count k × (x ≡ piece block bytes k)) ⊎ ((InRun first count k → ⊥) × old.reads (place c v p k).0 (place c v p k).1 x)

-- a crash leaves of the plex what it read
pub record PlexFlushed (c : Config) (v p : ℕ) (old new : Meaning) : Type 0 where
  pub each : (k : ℕ) (x : List ℕ) → Inside c v k → new.leaves (place c v p k).0 (place c v p k).1 x → old.reads (place c v p k).0 (place c v p k).1 x

-- the blocks that were read are ones that the plex may read
pub record PlexRead (c : Config) (v p block first count : ℕ) (bytes : List ℕ) (m : Meaning) : Type 0 where
  pub each : IsTrue m.tells → (k : ℕ) → InRun first count k → m.reads (place c v p k).0 (place c v p k).1 (piece block bytes k)

-- a call on a disk of the plex failed: its count rose
pub record PlexBlamed (c : Config) (v p : ℕ) (old new : Meaning) : Type 0 where
  pub disk : ℕ
  pub is_its : IsTrue (uses c v p disk)
  pub rose : Rose (old.faults disk) (new.faults disk)

-- why a call on a plex failed
abbrev pub PlexCause : {T : Type 0} → Config → ℕ → ℕ → Meaning → Meaning → Result T ShelfError → Type 0
PlexCause c v p old new (Ok x) = IsTrue new.down → ⊥
PlexCause c v p old new (Err (Fault disk)) = PlexBlamed c v p old new × Rose (old.disk_faults disk) (new.disk_faults disk) × (IsTrue new.down → ⊥)
PlexCause c v p old new (Err Down) = IsTrue new.down

-- ---- all plexes that are ACTIVE

-- each plex that is ACTIVE failed in this call, and the count of this disk rose
pub record AllPlexesFailed (c : Config) (v disk : ℕ) (old new : Meaning) : Type 0 where
  pub each : (p : ℕ) → IsTrue (active c v p) → PlexBlamed c v p old new
  pub rose : Rose (old.disk_faults disk) (new.disk_faults disk)
  pub up : IsTrue new.down → ⊥

-- Of the plexes that are ACTIVE those in the set failed, and of the others, of which there is one, this is true.
pub record AllBut (c : Config) (v : ℕ) (failed : ℕ → Bool) (done : ℕ → Type 0) (old new : Meaning) : Type 0 where
  pub is_done : (p : ℕ) → IsTrue (active c v p) → failed p ≡ false → done p
  pub blamed : (p : ℕ) → failed p ≡ true → IsTrue (active c v p) × PlexBlamed c v p old new
  pub some : (p : ℕ) × IsTrue (active c v p) × (failed p ≡ false)
  pub up : IsTrue new.down → ⊥

-- What is answered: the set of the plexes that failed; 7 only where each failed, and 6 only where the shelf is down.
abbrev pub PlexesEnd : Config → ℕ → (ℕ → Type 0) → Meaning → Meaning → Result ℕ No → Type 0
PlexesEnd c v done old new (Ok failed) = AllBut c v (bit_at failed) done old new
PlexesEnd c v done old new (Err (refusal.Device disk)) = AllPlexesFailed c v disk old new
PlexesEnd c v done old new (Err refusal.Down) = IsTrue new.down
PlexesEnd c v done old new (Err other) = ⊥

-- the count of the disk rose where any plex failed
pub record LastPlexFailed (failed : Failed) (old new : Meaning) : Type 0 where
  pub rose : 0 < failed.set → Rose (old.disk_faults failed.disk) (new.disk_faults failed.disk)

-- The same with the disk of the last device call that failed.
abbrev pub EndsAt : Config → ℕ → (ℕ → Type 0) → Meaning → Meaning → Result Failed No → Type 0
EndsAt c v done old new (Ok f) = AllBut c v (bit_at f.set) done old new × LastPlexFailed f old new
EndsAt c v done old new (Err (refusal.Device disk)) = AllPlexesFailed c v disk old new
EndsAt c v done old new (Err refusal.Down) = IsTrue new.down
EndsAt c v done old new (Err other) = ⊥

-- ---- the order of reads

-- which plex is asked first: the preferred one, or the next in turn
abbrev pub first_asked : Option ℕ → ℕ → ℕ
first_asked None next = next
first_asked (Some p) next = p

-- how many are asked before this one, of so many plexes
abbrev pub turn_of : ℕ → ℕ → ℕ → ℕ
turn_of plexes first p = (p + plexes - first) % plexes

-- This plex was read; each that is ACTIVE and is asked before it failed in this call.
pub record ReadFrom (c : Config) (v plexes first block n p : ℕ) (bytes : List ℕ) (old new : Meaning) : Type 0 where
  pub inside : p < plexes
  pub is_on : IsTrue (active c v p)
  pub read : PlexRead c v p block block n bytes old
  pub before : (q : ℕ) → q < plexes → IsTrue (active c v q) → turn_of plexes first q < turn_of plexes first p → PlexBlamed c v q old new
  pub up : IsTrue new.down → ⊥

-- which plex the next read asks first, where this one follows the one that was read
abbrev pub next_asked : Option ℕ → ℕ → ℕ → ℕ
next_asked None next following = following
next_asked (Some p) next following = next

-- what a read of a volume answers
abbrev pub VolumeReads : Config → Volume → Volume → ℕ → ℕ → List ℕ → Meaning → Meaning → Result (Unit {0}) No → Type 0
VolumeReads c v w block n bytes old new (Ok x) =
    (p : ℕ) × ReadFrom c v.number (plexes_of c v.number) (first_asked (prefer_of c v.number) (v.next % plexes_of c v.number)) block n p bytes old new
    × (w.next ≡ next_asked (prefer_of c v.number) v.next ((p + 1) % plexes_of c v.number)) × (w.number ≡ v.number)
VolumeReads c v w block n bytes old new (Err (refusal.Device disk)) = AllPlexesFailed c v.number disk old new × (w ≡ v)
VolumeReads c v w block n bytes old new (Err refusal.Down) = IsTrue new.down × (w ≡ v)
VolumeReads c v w block n bytes old new (Err other) = ⊥
