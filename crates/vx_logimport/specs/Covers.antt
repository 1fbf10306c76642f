-- What the dirty region logs on the disks tell an import, whatever a crash leaves.
use Rattle.std.specs.Prelude.{◌≡◌, ℕ, ◌+◌, ◌/◌, ◌%◌, ◌<◌, false, IsTrue, List}
use Rattle.vx_model.specs.declared.limits.TheConstants.{MAP_REGIONS, REGION}
use Rattle.vx_model.specs.Sizes.{map_blocks}
use Rattle.vx_bitmap.specs.Bits.{is_marked}
use Rattle.vx_config.specs.Checks.{blocks_of}
use Rattle.vx_config.specs.declared.config.Config.{Config}
use Rattle.vx_config.specs.declared.entry.LogEntry.{LogEntry}
use Rattle.vx_config.specs.declared.entry.VolumeLog.TheVariants.{Drl}
use Rattle.vx_copyfmt.specs.Imports.{Found}
use Rattle.vx_disk.specs.Shelf.{Each, Image, Meaning}
use Rattle.vx_kept.specs.Choice.{live}
use Rattle.vx_kept.specs.Groups.{found}
use Rattle.vx_layout.specs.Places.{place}
use Rattle.vx_logs.specs.Held.{InUse}
use Rattle.vx_volume.specs.Plexes.{Inside}

-- By a configuration: where the log of a volume is in use and has not the region of a block, plexes that take part have one value there.
pub record ConfigCovers (x : Config) (v : ℕ) (m : Meaning) : Type 0 where
  pub so : (e : LogEntry) (p q b : ℕ) (y z w : List ℕ) → InUse x v Drl e → Inside x v b → IsTrue (live x v p) → IsTrue (live x v q)
      → m.leaves e.disk (e.start + (b / REGION) / MAP_REGIONS) w → is_marked w ((b / REGION) % MAP_REGIONS) ≡ false
      → m.leaves (place x v p b).0 (place x v p b).1 y → m.leaves (place x v q b).0 (place x v q b).1 z → y ≡ z

-- by a configuration a crash leaves of each block of the log of a volume that is in use one value
pub record LogSettled (x : Config) (v : ℕ) (m : Meaning) : Type 0 where
  pub one : (e : LogEntry) (k : ℕ) (y z : List ℕ) → InUse x v Drl e → k < map_blocks (blocks_of x.volumes v) → m.leaves e.disk (e.start + k) y → m.leaves e.disk (e.start + k) z → y ≡ z

-- the first of each configuration that is found in what a crash may leave
pub record DisksCover (v : ℕ) (m : Meaning) : Type 0 where
  pub covers : (i : Image) (x : Config) → Each m.leaves i → found m i ≡ Found x → ConfigCovers x v m

-- and both
pub record DisksTell (v : ℕ) (m : Meaning) : Type 0 where
  pub covers : (i : Image) (x : Config) → Each m.leaves i → found m i ≡ Found x → ConfigCovers x v m
  pub settled : (i : Image) (x : Config) → Each m.leaves i → found m i ≡ Found x → LogSettled x v m
