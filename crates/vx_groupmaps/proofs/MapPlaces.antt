-- Where plexes that are STALE lie, and the log of missed regions; and which bit of it a block has.
use Rattle.std.proofs.Common.{◌≡◌, ◌∙◌, ℕ, ◌/◌, ◌<◌, Bool, true, false, Option, Some, None, List, IsTrue, refl, sym, ap, arith}
use Rattle.std.specs.Prelude.{not, is_some}
use Rattle.vx_bitmap.specs.Maps.{map_block_count}
use Rattle.vx_bitmap.proofs.Runs.{slot_before}
use Rattle.vx_config.specs.Checks.{blocks_of as blocks_in, is_sound, is_stale}
use Rattle.vx_config.specs.declared.config.Config.{Config}
use Rattle.vx_config.specs.declared.entry.PlexEntry.{PlexEntry}
use Rattle.vx_config.specs.declared.entry.VolumeLog.TheVariants.{Fmr as FmrLog}
use Rattle.vx_disk.specs.Moves.{Run}
use Rattle.vx_disk.specs.Shelf.{Meaning}
use Rattle.vx_fmr.specs.Missed.{FmrLoaded, IsMissedKept, Missed, missed_place}
use Rattle.vx_fmr.proofs.Keeping.{kept_of}
use Rattle.vx_layout.specs.Places.{HasBlock, has_plex, place, plex_at}
use Rattle.vx_logs.specs.Held.{stale, stale_or}
use Rattle.vx_logs.proofs.LogLemmas.{log_off_plex, log_placed, stale_below, stale_few}
use Rattle.vx_model.specs.Sizes.{regions_of as regions_in}
use Rattle.vx_model.specs.declared.site.PlexState.{PlexState}
use Rattle.vx_model.specs.declared.site.PlexState.TheVariants.{Active, Clean, Stale}
use Rattle.vx_model.proofs.Tests.{and_left}
use Rattle.vx_volume.specs.Plexes.{DisksFit, Inside, active, active_or, is_active}
use Rattle.vx_groupmaps.specs.Missing.{OnMaps, by_map, mapped_or}

-- ---- states

pub mapped_stale : (c : Config) (v p : ℕ) → IsTrue (by_map c v p) → IsTrue (stale c v p)
unfolding by_map stale
mapped_stale c v p is = by (plex_at c v p) is
  where
    by : (o : Option PlexEntry) → mapped_or o ≡ true → stale_or o ≡ true
    by None is = is
    by (Some a) is = and_left (is_stale a.state) (not a.whole) is

pub stale_off : (c : Config) (v p : ℕ) → IsTrue (stale c v p) → active c v p ≡ false
unfolding stale active
stale_off c v p is = by (plex_at c v p) is
  where
    by_state : (s : PlexState) → is_stale s ≡ true → is_active s ≡ false
    by_state Active is = absurd (let clash : false ≡ true = is in cc)
    by_state Clean is = refl
    by_state Stale is = refl

    by : (o : Option PlexEntry) → stale_or o ≡ true → active_or o ≡ false
    by None is = refl
    by (Some a) is = by_state a.state is

pub active_fresh : (c : Config) (v p : ℕ) → IsTrue (active c v p) → stale c v p ≡ false
active_fresh c v p on = by (stale c v p) refl
  where
    by : (t : Bool) → stale c v p ≡ t → t ≡ false
    by true is = absurd (let clash : true ≡ false = sym on ∙ stale_off c v p is in cc)
    by false is = refl

pub active_unmapped : (c : Config) (v p : ℕ) → IsTrue (active c v p) → by_map c v p ≡ false
active_unmapped c v p on = by (by_map c v p) refl
  where
    by : (t : Bool) → by_map c v p ≡ t → t ≡ false
    by true is = absurd (let clash : true ≡ false = sym on ∙ stale_off c v p (mapped_stale c v p is) in cc)
    by false is = refl

pub has_stale : (c : Config) (v p k : ℕ) → IsTrue (stale c v p) → Inside c v k → HasBlock c v p k
unfolding stale has_plex
has_stale c v p k is inside = record { plex = by (plex_at c v p) is; block = inside.within }
  where
    by : (o : Option PlexEntry) → stale_or o ≡ true → is_some o ≡ true
    by None is = is
    by (Some a) is = refl

pub has_mapped : (c : Config) (v p k : ℕ) → IsTrue (by_map c v p) → Inside c v k → HasBlock c v p k
has_mapped c v p k is inside = has_stale c v p k (mapped_stale c v p is) inside

pub mapped_few : (c : Config) → is_sound c ≡ true → (v p : ℕ) → IsTrue (by_map c v p) → p < 8
mapped_few c sound v p is = stale_few c sound v p (mapped_stale c v p is)

-- ---- the log

-- a block of a plex is none of it
pub maps_beside : (c : Config) → is_sound c ≡ true → (v w p k u b : ℕ) (x : List ℕ) → HasBlock c w p k → place c w p k ≡ (u, b) → OnMaps c v u b x → ⊥
maps_beside c sound v w p k u b x has at on = log_off_plex c sound v FmrLog on.entry on.is w p k b has (at ∙ ap (λ (y : ℕ). (y, b)) on.run.there) on.run.first on.run.last

module _ (c : Config) (sound : is_sound c ≡ true) (v : ℕ) (some : 0 < blocks_in c.volumes v) (f : Missed) (it : FmrLoaded c v f) where
  -- the blocks of the maps in memory are blocks of it
  pub maps_on : (m : Meaning) → DisksFit c.disks m → (u b : ℕ) (x : List ℕ) → Run f.map.unit f.map.first (map_block_count f.map) u b → OnMaps c v u b x
  maps_on m fit u b x run =
      let at = log_placed c v FmrLog f.map m sound some fit it.log in
      record {
        entry = it.log.entry;
        is = it.log.is;
        run = record { there = run.there ∙ it.log.run.there; first = omega (arith, run.first, it.log.run.begins); last = omega (arith, run.last, it.log.run.begins, it.log.run.long, at.blocks) };
      }

  pub maps_kept : IsMissedKept f.map f.plexes f.stride f.regions
  maps_kept = kept_of c v f.map (blocks_in c.volumes v) f.plexes f.stride f.regions it.log refl some it.plexes it.stride it.regions

  pub stale_there : (p : ℕ) → IsTrue (stale c v p) → p < f.plexes
  stale_there p is = omega (arith, stale_below c v p is, it.plexes)

  inside_regions : (blocks b : ℕ) → b < blocks → b / 64 < regions_in blocks
  inside_regions blocks b lt = omega (arith, lt)

  -- a block of the volume has a bit in the map of each plex
  pub region_low : (b : ℕ) → Inside c v b → b / 64 < f.stride
  region_low b inside = omega (arith, inside_regions (blocks_in c.volumes v) b inside.within, it.regions, maps_kept.fit)

  pub last_low : (last : ℕ) → last < regions_in (blocks_in c.volumes v) → last < f.stride
  last_low last lt = omega (arith, lt, it.regions, maps_kept.fit)

  -- which is one of the blocks of the maps
  pub bit_low : (p r : ℕ) → p < f.plexes → r < f.stride → missed_place f p r / 4096 < map_block_count f.map
  bit_low p r lt low = omega (arith, low, slot_before p f.plexes f.stride lt, maps_kept.all, it.log.run.long)
