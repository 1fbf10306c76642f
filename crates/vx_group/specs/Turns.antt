-- Which plexes a read of a volume asks, in which order, and which one the next read asks first.
use Rattle.std.specs.Prelude.{◌≡◌, ◌≢◌, ℕ, ◌+◌, ◌%◌, IsTrue, List, Result, Ok, Err, slice_index_or}
use Rattle.vx_config.specs.Checks.{plexes_of}
use Rattle.vx_config.specs.declared.config.Config.{Config}
use Rattle.vx_disk.specs.Shelf.{Meaning}
use Rattle.vx_disk.specs.declared.shelf.ShelfError.{ShelfError}
use Rattle.vx_disk.specs.declared.shelf.ShelfError.TheVariants.{Fault, Down}
use Rattle.vx_volume.specs.Plexes.{prefer_of}
use Rattle.vx_volume.specs.Volumes.{AllPlexesFailed, ReadFrom, first_asked, next_asked}

-- the plex that the next read of a volume asks first, where they take turns
abbrev pub next_plex : List ℕ → ℕ → ℕ
next_plex next v = slice_index_or next v 0

-- it is this one, and of each other volume it is the one that it was
pub record NextAsked (v plex : ℕ) (old new : List ℕ) : Type 0 where
  pub here : next_plex new v ≡ plex
  pub others : (w : ℕ) → w ≢ v → next_plex new w ≡ next_plex old w

-- A plex was read: each that is ACTIVE and is asked before it failed in this call. The next read asks the one behind it first, or the preferred one.
pub record TakesTurn (c : Config) (v : ℕ) (before after : List ℕ) (block n : ℕ) (bytes : List ℕ) (old new : Meaning) : Type 0 where
  pub plex : ℕ
  pub from : ReadFrom c v (plexes_of c v) (first_asked (prefer_of c v) (next_plex before v % plexes_of c v)) block n plex bytes old new
  pub next : NextAsked v (next_asked (prefer_of c v) (next_plex before v) ((plex + 1) % plexes_of c v)) before after

-- what a read answers: refused with a fault, each plex that is ACTIVE failed in it
abbrev pub ReadsInTurn : Config → ℕ → List ℕ → List ℕ → ℕ → ℕ → List ℕ → Meaning → Meaning → Result (Unit {0}) ShelfError → Type 0
ReadsInTurn c v before after block n bytes old new (Ok x) = TakesTurn c v before after block n bytes old new
ReadsInTurn c v before after block n bytes old new (Err (Fault disk)) = AllPlexesFailed c v disk old new × (after ≡ before)
ReadsInTurn c v before after block n bytes old new (Err Down) = IsTrue new.down × (after ≡ before)
