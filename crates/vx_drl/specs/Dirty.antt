-- The dirty regions of a volume.
use Rattle.std.specs.Prelude.{◌≡◌, ℕ, ◌+◌, ◌-◌, ◌<◌, ◌≤◌, min, Bool, true, if◌then◌else◌}
use Rattle.vx_model.specs.Sizes.{regions_of as regions_in}
use Rattle.vx_bitmap.specs.Bits.{AllAre, is_marked}
use Rattle.vx_bitmap.specs.Maps.{Map, regions_mapped}
use Rattle.vx_config.specs.Checks.{blocks_of}
use Rattle.vx_config.specs.declared.config.Config.{Config}
use Rattle.vx_config.specs.declared.entry.VolumeLog.TheVariants.{Drl as DrlLog}
use Rattle.vx_maplog.specs.Logs.{LogLoaded}
use Rattle.vx_drl.specs.declared.marks.TheConstants.{MOST_HELD}

-- a map, how many regions its volume has, and how many of them were marked since the marks were last taken off, at most one more than
-- the most that are held
pub record Dirty : Type 0 where
  pub map : Map
  pub regions : ℕ
  pub held : ℕ

-- whether a region is marked
abbrev pub is_dirty : Dirty → ℕ → Bool
is_dirty d r = is_marked d.map.bytes r

-- the map has a bit for each region
pub record IsDirtyKept (map : Map) (regions : ℕ) : Type 0 where
  pub some : 0 < regions
  pub fit : regions ≤ regions_mapped map

-- how many marks are held behind a mark of these regions, of which all were marked before or not
abbrev pub held_with : Bool → (first last held : ℕ) → ℕ
held_with marked first last held = if marked then held else min (held + (last - first) + 1) (MOST_HELD + 1)

-- regions that are marked again count for nothing
pub record HoldsMarks (first last : ℕ) (old new : Dirty) : Type 0 where
  pub same : AllAre first last true (is_dirty old) → new.held ≡ old.held
  pub more : (AllAre first last true (is_dirty old) → ⊥) → new.held ≡ min (old.held + (last - first) + 1) (MOST_HELD + 1)

-- what was read of a volume's log; the marks that it has are taken off by the first `flushed`
pub record DrlLoaded (c : Config) (v : ℕ) (d : Dirty) : Type 0 where
  pub log : LogLoaded c v DrlLog d.map
  pub regions : d.regions ≡ regions_in (blocks_of c.volumes v)
  pub held : d.held ≡ MOST_HELD + 1
