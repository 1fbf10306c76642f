-- What the disks of a group tell an import by logs beyond its dirty region logs: of volumes that stopped cleanly.
use Rattle.std.specs.Prelude.{◌≡◌, ℕ, ◌+◌, ◌/◌, ◌%◌, ◌<◌, Bool, true, false, IsTrue, List, slice_index_or}
use Rattle.vx_model.specs.declared.limits.TheConstants.{MAP_REGIONS}
use Rattle.vx_bitmap.specs.Bits.{is_marked}
use Rattle.vx_config.specs.Checks.{blocks_of}
use Rattle.vx_config.specs.declared.config.Config.{Config}
use Rattle.vx_config.specs.declared.entry.LogEntry.{LogEntry}
use Rattle.vx_config.specs.declared.entry.VolumeLog.TheVariants.{Fmr}
use Rattle.vx_copyfmt.specs.Imports.{Found}
use Rattle.vx_disk.specs.Shelf.{Each, Image, Meaning}
use Rattle.vx_group.specs.Resumes.{stopped}
use Rattle.vx_group.specs.Settles.{LivesAgree}
use Rattle.vx_groupmaps.specs.Missing.{bit_in_maps}
use Rattle.vx_kept.specs.Choice.{live}
use Rattle.vx_kept.specs.Groups.{found}
use Rattle.vx_layout.specs.Places.{HasBlock, place}
use Rattle.vx_logs.specs.Held.{InUse}
use Rattle.vx_volume.specs.Plexes.{Inside}
use Rattle.vx_logimport.specs.Covers.{DisksCover, DisksTell}
use Rattle.vx_logimport.specs.declared.rested.Rested.{Rested}

-- whether a volume is one of those
abbrev pub rests : List Bool → ℕ → Bool
rests flags v = slice_index_or flags v false

-- By a configuration: where the log of missed regions of a volume is in use, and does not say of a plex that it missed the region of a block, this plex,
-- whatever its state, reads there as each plex that takes part; and a crash leaves of each block of the log one value. What a crash leaves of the plex may be
-- another value: an attach makes it durable.
pub record MapsTell (x : Config) (v : ℕ) (m : Meaning) : Type 0 where
  pub so : (e : LogEntry) (p q b : ℕ) (y z w : List ℕ) → InUse x v Fmr e → HasBlock x v p b → IsTrue (live x v q) → Inside x v b → bit_in_maps x v p b / MAP_REGIONS < e.blocks
      → m.leaves e.disk (e.start + bit_in_maps x v p b / MAP_REGIONS) w → is_marked w (bit_in_maps x v p b % MAP_REGIONS) ≡ false
      → m.reads (place x v p b).0 (place x v p b).1 y → m.reads (place x v q b).0 (place x v q b).1 z → y ≡ z
  pub one : (e : LogEntry) (k : ℕ) (y z : List ℕ) → InUse x v Fmr e → 0 < blocks_of x.volumes v → k < e.blocks → m.leaves e.disk (e.start + k) y → m.leaves e.disk (e.start + k) z → y ≡ z

-- So it is by each configuration that is found in what a crash may leave, and in which the volume stopped cleanly: its plexes are alike.
pub record AlikeRests (v : ℕ) (m : Meaning) : Type 0 where
  pub each : (i : Image) (x : Config) → Each m.leaves i → found m i ≡ Found x → stopped x v ≡ false → LivesAgree x v m

-- and its log of missed regions knows what plexes miss
pub record MapsRest (v : ℕ) (m : Meaning) : Type 0 where
  pub each : (i : Image) (x : Config) → Each m.leaves i → found m i ≡ Found x → stopped x v ≡ false → MapsTell x v m

-- All that an import by logs asks of disks: what dirty region logs tell of each volume, of these volumes what a read of the log gives for good, and of these what a
-- clean stop left.
pub record LogsTell (r : Rested) (m : Meaning) : Type 0 where
  pub covers : (v : ℕ) → DisksCover v m
  pub drl : (v : ℕ) → rests r.drls v ≡ true → DisksTell v m
  pub alike : (v : ℕ) → rests r.alike v ≡ true → AlikeRests v m
  pub maps : (v : ℕ) → rests r.maps v ≡ true → MapsRest v m

-- of no volume
pub record RestsNone (r : Rested) : Type 0 where
  pub alike : (v : ℕ) → rests r.alike v ≡ false
  pub maps : (v : ℕ) → rests r.maps v ≡ false
