-- What the maps of missed regions of a volume have as they begin.
use Rattle.std.proofs.Common.{◌≡◌, ◌+◌, ◌-◌, ◌*◌, ◌/◌, ◌<◌, ◌≤◌, ℕ, Bool, true, false, Some, refl, arith}
use Rattle.std.specs.Int.{div_ceil}
use Rattle.std.specs.Prelude.{not}
use Rattle.vx_config.specs.Checks.{blocks_of, plexes_of}
use Rattle.vx_config.specs.declared.config.Config.{Config}
use Rattle.vx_fmr.specs.Missed.{FmrLoaded, Missed, has_missed}
use Rattle.vx_groupmaps.specs.Missing.{HoldMissed, MapsReady}
use Rattle.vx_kept.specs.Keeping.{AllOn}
use Rattle.vx_logs.specs.Writes.{first_region, last_region}
use Rattle.vx_logs.specs.declared.logs.Logs.{Logs}
use Rattle.vx_model.specs.Sizes.{map_blocks, regions_of}
use Rattle.vx_volume.specs.Plexes.{active}
use Rattle.vx_grouplogs.specs.Mapping.{AreBegun}
use Rattle.vx_grouplogs.proofs.FreshLemmas.{off_stale}

-- a region of a volume is among those of all of its blocks
last_of : (blocks r : ℕ) → 0 < blocks → r < regions_of blocks → r ≤ (0 + blocks - 1) / 64
last_of blocks r some lt = omega (arith, some, lt)

-- the maps have a bit for each region
in_stride : (blocks stride r : ℕ) → stride ≡ 4096 * map_blocks blocks → r < regions_of blocks → r < stride
in_stride blocks stride r same lt = by (regions_of blocks) lt same
  where
    by : (n : ℕ) → r < n → stride ≡ 4096 * div_ceil n 4096 → r < stride
    by n low is = omega (arith, low, is)

pub maps_begun : (c : Config) (v : ℕ) (l : Logs) → AllOn c → 0 < blocks_of c.volumes v → ((f : Missed) → l.fmr ≡ Some f → FmrLoaded c v f) → HoldMissed c v (first_region 0) (last_region 0 (blocks_of c.volumes v)) l → MapsReady c v l → AreBegun c v l
maps_begun c v l all some fits holds ready = record { each = λ f at p r low lt. by f at p r low lt (active c v p) refl }
  where
    by : (f : Missed) → l.fmr ≡ Some f → (p r : ℕ) → p < plexes_of c v → r < regions_of (blocks_of c.volumes v) → (t : Bool) → active c v p ≡ t → has_missed f p r ≡ not t
    by f at p r low lt true on = ready.so f at p r on (in_stride (blocks_of c.volumes v) f.stride r (fits f at).stride lt)
    by f at p r low lt false off = holds.so f at p r (off_stale c v p all some low off) (omega arith) (last_of (blocks_of c.volumes v) r some lt)
