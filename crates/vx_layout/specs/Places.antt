-- Where the blocks of plexes lie.
use Rattle.std.specs.Prelude.{◌≡◌, ℕ, ◌+◌, ◌-◌, ◌*◌, ◌/◌, ◌%◌, ◌<◌, ◌≤◌, Bool, IsTrue, nat_lt, ◌==◌, if◌then◌else◌, Option, Some, None, is_some, sum_by, List, [], ◌∷◌, slice_get}
use Rattle.vx_model.specs.declared.limits.TheConstants.{PUBLIC_START}
use Rattle.vx_config.specs.declared.config.Config.{Config}
use Rattle.vx_config.specs.declared.entry.DiskEntry.{DiskEntry}
use Rattle.vx_config.specs.declared.entry.PlexEntry.{PlexEntry}
use Rattle.vx_config.specs.declared.entry.Subdisk.{Subdisk}
use Rattle.vx_config.specs.declared.entry.VolumeEntry.{VolumeEntry}
use Rattle.vx_config.specs.Checks.{blocks_of, column_blocks, blocks_or}
use Rattle.vx_layout.specs.declared.spot.Seat.{Seat}

-- the place of block k of subdisks that stand one behind the other
abbrev pub located : List Subdisk → ℕ → ℕ × ℕ
located [] k = (0, k)
located (s ∷ ss) k = if nat_lt k s.blocks then (s.disk, s.start + k) else located ss (k - s.blocks)

-- a subdisk lies on this disk
abbrev pub lies_on : ℕ → Subdisk → Bool
lies_on disk s = s.disk == disk

-- The columns of a striped plex stand one behind the other. Block b lies in unit b / width, which is in a column by turns,
-- behind the units of that column before it. This says which block of the plex's subdisks it is.
abbrev pub linear : ℕ → ℕ → ℕ → ℕ → ℕ
linear column ncol width b = if width == 0 then b else ((b / width) % ncol) * column + ((b / width) / ncol) * width + b % width

abbrev pub place_in : VolumeEntry → Option PlexEntry → ℕ → ℕ × ℕ
place_in v None b = (0, 0)
place_in v (Some p) b = located p.subdisks (linear (column_blocks v) v.ncol v.width b)

abbrev pub place_or : Option VolumeEntry → ℕ → ℕ → ℕ × ℕ
place_or None p b = (0, 0)
place_or (Some v) p b = place_in v (slice_get v.plexes p) b

-- the disk and the block of a block of a plex
unfoldable pub place : Config → ℕ → ℕ → ℕ → ℕ × ℕ
place c v p b = place_or (slice_get c.volumes v) p b

abbrev pub plex_in : Option VolumeEntry → ℕ → Option PlexEntry
plex_in None p = None
plex_in (Some v) p = slice_get v.plexes p

abbrev pub plex_at : Config → ℕ → ℕ → Option PlexEntry
plex_at c v p = plex_in (slice_get c.volumes v) p

-- the volume has this plex
unfoldable pub has_plex : Config → ℕ → ℕ → Bool
has_plex c v p = is_some (plex_at c v p)

-- the volume has this plex, and this block
pub record HasBlock (c : Config) (v p b : ℕ) : Type 0 where
  pub plex : IsTrue (has_plex c v p)
  pub block : b < blocks_of c.volumes v

-- the blocks of a disk; a disk that there is not has none
abbrev pub disk_blocks : List DiskEntry → ℕ → ℕ
disk_blocks disks d = blocks_or (slice_get disks d)

-- so many blocks from this one on lie in the public region of a disk
pub record InRegion (disks : List DiskEntry) (disk at count : ℕ) : Type 0 where
  pub public : PUBLIC_START ≤ at
  pub end : at + count ≤ disk_blocks disks disk

-- No two blocks of plexes have one place, whatever their volumes are, and each lies in a public region.
pub record AreApart (c : Config) : Type 0 where
  pub region : (v p b : ℕ) → HasBlock c v p b → InRegion c.disks (place c v p b).0 (place c v p b).1 1
  pub one : (v p b w q d : ℕ) → HasBlock c v p b → HasBlock c w q d → place c v p b ≡ place c w q d → (v ≡ w) × (p ≡ q) × (b ≡ d)

abbrev pub subdisk_blocks : Subdisk → ℕ
subdisk_blocks s = s.blocks

-- the subdisks of a plex have the blocks of the volume's columns
pub record IsFilled (v : VolumeEntry) (p : PlexEntry) : Type 0 where
  pub columns : 0 < v.ncol
  pub one : v.width ≡ 0 → v.ncol ≡ 1
  pub sum : sum_by subdisk_blocks p.subdisks ≡ v.ncol * column_blocks v

-- a subdisk of these, an offset in it, and how many blocks from there on are its own
pub record IsSeat (subdisks : List Subdisk) (seat : Seat) : Type 0 where
  pub index : ℕ
  pub there : slice_get subdisks index ≡ Some seat.subdisk
  pub some : 0 < seat.reach
  pub inside : seat.offset + seat.reach ≤ seat.subdisk.blocks
