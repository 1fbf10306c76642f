-- The plexes of a volume that reads and writes go to.
use Rattle.std.specs.Prelude.{◌≡◌, ℕ, ◌+◌, ◌<◌, ◌≤◌, ◌^◌, Bool, true, false, IsTrue, Option, Some, None, List, length, slice_get}
use Rattle.vx_model.specs.declared.limits.TheConstants.{MOST_PLEXES}
use Rattle.std.specs.List.{list_any}
use Rattle.vx_disk.specs.Shelf.{Meaning}
use Rattle.vx_model.specs.declared.site.PlexState.{PlexState}
use Rattle.vx_model.specs.declared.site.PlexState.TheVariants.{Active, Clean, Stale}
use Rattle.vx_config.specs.Checks.{blocks_of, is_sound}
use Rattle.vx_config.specs.declared.config.Config.{Config}
use Rattle.vx_config.specs.declared.entry.DiskEntry.{DiskEntry}
use Rattle.vx_config.specs.declared.entry.PlexEntry.{PlexEntry}
use Rattle.vx_config.specs.declared.entry.VolumeEntry.{VolumeEntry}
use Rattle.vx_layout.specs.Places.{disk_blocks, lies_on, place, plex_at}

abbrev pub is_active : PlexState → Bool
is_active Active = true
is_active Clean = false
is_active Stale = false

abbrev pub active_or : Option PlexEntry → Bool
active_or None = false
active_or (Some p) = is_active p.state

-- whether a plex takes part in reads and writes
unfoldable pub active : Config → ℕ → ℕ → Bool
active c v p = active_or (plex_at c v p)

abbrev pub uses_or : ℕ → Option PlexEntry → Bool
uses_or disk None = false
uses_or disk (Some p) = list_any (lies_on disk) p.subdisks

-- whether a plex has a subdisk on this disk
unfoldable pub uses : Config → ℕ → ℕ → ℕ → Bool
uses c v p disk = uses_or disk (plex_at c v p)

-- a block of a volume
pub record Inside (c : Config) (v b : ℕ) : Type 0 where
  pub volume : v < length c.volumes
  pub within : b < blocks_of c.volumes v

-- a volume has a plex that is ACTIVE
pub record SomeActive (c : Config) (v : ℕ) : Type 0 where
  pub plex : ℕ
  pub is_on : IsTrue (active c v plex)

-- the disks of a configuration are units of a shelf, each with its unit's blocks
pub record DisksFit (disks : List DiskEntry) (m : Meaning) : Type 0 where
  pub there : (u : ℕ) → u < length disks → u < m.units
  pub size : (u : ℕ) → u < length disks → m.size u ≡ disk_blocks disks u

-- one of so many blocks from this one on
pub record InRun (block n k : ℕ) : Type 0 where
  pub first : block ≤ k
  pub last : k < block + n

-- no two blocks of plexes that are ACTIVE have one place
pub record Apart (c : Config) : Type 0 where
  pub one : (v p b w q d : ℕ) → Inside c v b → Inside c w d → IsTrue (active c v p) → IsTrue (active c w q) → place c v p b ≡ place c w q d → (v ≡ w) × (p ≡ q) × (b ≡ d)

-- no two blocks of a plex have one place
pub record OneEach (c : Config) (v p : ℕ) : Type 0 where
  pub same : (k l : ℕ) → Inside c v k → Inside c v l → place c v p k ≡ place c v p l → k ≡ l

-- the blocks of a run of the volume have their places on the shelf
pub record RunFits (c : Config) (v p block n : ℕ) (m : Meaning) : Type 0 where
  pub there : (k : ℕ) → InRun block n k → (place c v p k).0 < m.units
  pub within : (k : ℕ) → InRun block n k → (place c v p k).1 < m.size (place c v p k).0

-- a run of blocks of a volume of a checked configuration, which ends below 2^64
pub record Asked (c : Config) (v p block n : ℕ) : Type 0 where
  pub inside : (k : ℕ) → InRun block n k → Inside c v k
  pub is_on : IsTrue (active c v p)
  pub sound : IsTrue (is_sound c)
  pub end : block + n < 2 ^ 64

-- the same over all plexes that are ACTIVE
pub record VolumeFits (c : Config) (v block n : ℕ) (m : Meaning) : Type 0 where
  pub inside : (k : ℕ) → InRun block n k → Inside c v k
  pub sound : IsTrue (is_sound c)
  pub end : block + n < 2 ^ 64
  pub fits : (p : ℕ) → IsTrue (active c v p) → RunFits c v p block n m
  pub few : (p : ℕ) → IsTrue (active c v p) → p < MOST_PLEXES

abbrev pub prefer_or : Option VolumeEntry → Option ℕ
prefer_or None = None
prefer_or (Some v) = v.prefer

-- the plex that its reads begin at
abbrev pub prefer_of : Config → ℕ → Option ℕ
prefer_of c v = prefer_or (slice_get c.volumes v)
