-- What the steps of a read, a write or a flush leave.
use Rattle.std.specs.Prelude.{◌≡◌, ℕ, ◌+◌, ◌<◌, ◌≤◌, Bool, true, false, IsTrue, List, length, slice_index_or, Result, Ok, Err}
use Rattle.vx_config.specs.Checks.{plexes_of}
use Rattle.vx_model.specs.declared.limits.TheConstants.{MOST_PLEXES}
use Rattle.vx_disk.specs.Counts.{Rose}
use Rattle.vx_disk.specs.Shelf.{Goes, Meaning, Nothing, piece}
use Rattle.vx_config.specs.declared.config.Config.{Config}
use Rattle.vx_layout.specs.Places.{place}
use Rattle.vx_model.specs.declared.no.No.{No}
use Rattle.vx_model.specs.declared.no.No.TheVariants as refusal
use Rattle.vx_volume.specs.Plexes.{InRun, Inside, active, uses}
use Rattle.vx_volume.specs.declared.every.Flags.{Flags}
use Rattle.vx_volume.specs.Volumes.{AllBut, AllPlexesFailed, OnPlex, OnPlexes, PlexBlamed, PlexFlushed, PlexRead, PlexWrote, ReadFrom, turn_of}

-- one device call more: so many blocks behind the first `done`
pub record WroteRun (c : Config) (v p block n done count : ℕ) (bytes : List ℕ) (old new : Meaning) : Type 0 where
  pub some : 0 < count
  pub few : done + count ≤ n
  pub wrote : PlexWrote c v p block n (block + done) count bytes old new

-- the first `done` blocks of the run are on the plex
pub record Part (c : Config) (v p block n done : ℕ) (bytes : List ℕ) (old new : Meaning) : Type 0 where
  pub up : IsTrue new.down → ⊥
  pub few : done ≤ n
  pub goes : Goes (OnPlex c v p block n bytes) old new
  pub wrote : PlexWrote c v p block n block done bytes old new

-- one call of a read more; what was read before stays
pub record ReadRun (c : Config) (v p block n done count : ℕ) (was bytes : List ℕ) (m : Meaning) : Type 0 where
  pub some : 0 < count
  pub few : done + count ≤ n
  pub read : PlexRead c v p block (block + done) count bytes m
  pub same : (k : ℕ) → InRun block done k → piece block bytes k ≡ piece block was k

-- the first `done` blocks were read
pub record ReadPart (c : Config) (v p block n done : ℕ) (bytes : List ℕ) (old new : Meaning) : Type 0 where
  pub up : IsTrue new.down → ⊥
  pub few : done ≤ n
  pub down : new.down ≡ old.down
  pub goes : Goes Nothing old new
  pub read : PlexRead c v p block block done bytes old

-- the disks below this one that a plex uses were flushed
pub record FlushedBelow (c : Config) (v p disk : ℕ) (old new : Meaning) : Type 0 where
  pub up : IsTrue new.down → ⊥
  pub goes : Goes Nothing old new
  pub each : (d b : ℕ) (x : List ℕ) → d < disk → IsTrue (uses c v p d) → new.leaves d b x → old.reads d b x

abbrev pub in_set : List Bool → ℕ → Bool
in_set set p = slice_index_or set p false

-- of the first `count` plexes each that is ACTIVE was done or failed, and no other failed
pub record TriedPlexes (c : Config) (v count : ℕ) (failed : List Bool) (done : ℕ → Type 0) (old new : Meaning) : Type 0 where
  pub up : IsTrue new.down → ⊥
  pub is_done : (p : ℕ) → p < count → IsTrue (active c v p) → in_set failed p ≡ false → done p
  pub blamed : (p : ℕ) → in_set failed p ≡ true → (p < count) × IsTrue (active c v p) × PlexBlamed c v p old new

-- some plex was done; else each that is ACTIVE of the first `count` failed
abbrev pub SomeDone : Config → ℕ → ℕ → List Bool → Bool → Type 0
SomeDone c v count failed true = (p : ℕ) × (p < count) × IsTrue (active c v p) × (in_set failed p ≡ false)
SomeDone c v count failed false = (p : ℕ) → p < count → IsTrue (active c v p) → in_set failed p ≡ true

-- the device is that of the last call that failed
pub record Device (failed : List Bool) (device : ℕ) (old new : Meaning) : Type 0 where
  pub rose : (p : ℕ) → in_set failed p ≡ true → Rose (old.disk_faults device) (new.disk_faults device)

-- what the loop over the plexes keeps
pub record Loop (c : Config) (v count : ℕ) (failed : List Bool) (any : Bool) (device : ℕ) (done : ℕ → Type 0) (old new : Meaning) : Type 0 where
  pub tried : TriedPlexes c v count failed done old new
  pub some : SomeDone c v count failed any
  pub blames : Device failed device old new
  pub long : length failed ≡ MOST_PLEXES

pub record WriteLoop (c : Config) (v block n : ℕ) (bytes : List ℕ) (count : ℕ) (failed : List Bool) (any : Bool) (device : ℕ) (old new : Meaning) : Type 0 where
  pub loop : Loop c v count failed any device (λ p. PlexWrote c v p block n block n bytes old new) old new
  pub goes : Goes (OnPlexes c v block n bytes) old new
  pub later : (p k : ℕ) (x : List ℕ) → count ≤ p → IsTrue (active c v p) → Inside c v k → new.reads (place c v p k).0 (place c v p k).1 x → old.reads (place c v p k).0 (place c v p k).1 x

pub record FlushLoop (c : Config) (v count : ℕ) (failed : List Bool) (any : Bool) (device : ℕ) (old new : Meaning) : Type 0 where
  pub loop : Loop c v count failed any device (λ p. PlexFlushed c v p old new) old new
  pub goes : Goes Nothing old new

-- the plexes whose turn is before this one failed, those that are ACTIVE
pub record ReadLoop (c : Config) (v plexes first turn device : ℕ) (old new : Meaning) : Type 0 where
  pub up : IsTrue new.down → ⊥
  pub down : new.down ≡ old.down
  pub goes : Goes Nothing old new
  pub blamed : (q : ℕ) → q < plexes → IsTrue (active c v q) → turn_of plexes first q < turn → PlexBlamed c v q old new × Rose (old.disk_faults device) (new.disk_faults device)

-- what a call on every plex answers, by flags
abbrev pub FlagsEnd : Config → ℕ → (ℕ → Type 0) → Meaning → Meaning → Result Flags No → Type 0
FlagsEnd c v done old new (Ok f) = AllBut c v (in_set f.failed) done old new × Device f.failed f.device old new
FlagsEnd c v done old new (Err (refusal.Device disk)) = AllPlexesFailed c v disk old new
FlagsEnd c v done old new (Err refusal.Down) = IsTrue new.down
FlagsEnd c v done old new (Err other) = ⊥

-- what a read in turn answers
abbrev pub TurnsEnd : Config → ℕ → ℕ → ℕ → ℕ → List ℕ → Meaning → Meaning → Result ℕ No → Type 0
TurnsEnd c v first block n bytes old new (Ok p) = ReadFrom c v (plexes_of c v) first block n p bytes old new
TurnsEnd c v first block n bytes old new (Err (refusal.Device disk)) = AllPlexesFailed c v disk old new
TurnsEnd c v first block n bytes old new (Err refusal.Down) = IsTrue new.down
TurnsEnd c v first block n bytes old new (Err other) = ⊥
