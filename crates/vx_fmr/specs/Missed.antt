-- The missed regions of the plexes of a volume.
use Rattle.std.specs.Prelude.{◌≡◌, ℕ, ◌+◌, ◌*◌, ◌<◌, ◌≤◌, ◌^◌, Bool}
use Rattle.vx_model.specs.Sizes.{map_blocks, regions_of as regions_in}
use Rattle.vx_model.specs.declared.limits.TheConstants.{MAP_REGIONS}
use Rattle.vx_bitmap.specs.Bits.{is_marked}
use Rattle.vx_bitmap.specs.Maps.{Map, regions_mapped}
use Rattle.vx_config.specs.Checks.{blocks_of, plexes_of}
use Rattle.vx_config.specs.declared.config.Config.{Config}
use Rattle.vx_config.specs.declared.entry.VolumeLog.TheVariants.{Fmr as FmrLog}
use Rattle.vx_maplog.specs.Logs.{LogLoaded}

-- the maps of all plexes, one after another, how many plexes there are, for how many regions the map of each has bits, and how many
-- regions the volume has
pub record Missed : Type 0 where
  pub map : Map
  pub plexes : ℕ
  pub stride : ℕ
  pub regions : ℕ

-- the place of a region of a plex in the maps of all plexes
abbrev pub missed_place : Missed → ℕ → ℕ → ℕ
missed_place f plex r = plex * f.stride + r

-- whether a region is noted in the map of a plex
abbrev pub has_missed : Missed → ℕ → ℕ → Bool
has_missed f plex r = is_marked f.map.bytes (missed_place f plex r)

-- each plex has a map, with a bit for each region
pub record IsMissedKept (map : Map) (plexes stride regions : ℕ) : Type 0 where
  pub some : 0 < regions
  pub fit : regions ≤ stride
  pub all : plexes * stride ≡ regions_mapped map
  pub few : plexes * stride < 2 ^ 64

-- the maps of the other plexes are as they were
pub record OthersSame (plex : ℕ) (old new : Missed) : Type 0 where
  pub each : (p r : ℕ) → p < old.plexes → r < old.stride → (p ≡ plex → ⊥) → has_missed new p r ≡ has_missed old p r

-- as many plexes, bits and regions
pub record SameMissedShape (old new : Missed) : Type 0 where
  pub plexes : new.plexes ≡ old.plexes
  pub stride : new.stride ≡ old.stride
  pub regions : new.regions ≡ old.regions

-- what was read of a volume's log
pub record FmrLoaded (c : Config) (v : ℕ) (f : Missed) : Type 0 where
  pub log : LogLoaded c v FmrLog f.map
  pub plexes : f.plexes ≡ plexes_of c v
  pub stride : f.stride ≡ MAP_REGIONS * map_blocks (blocks_of c.volumes v)
  pub regions : f.regions ≡ regions_in (blocks_of c.volumes v)
