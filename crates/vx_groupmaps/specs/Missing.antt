-- Where a plex that was detached has what the volume has, by its map of missed regions.
use Rattle.std.specs.Prelude.{◌≡◌, ℕ, ◌+◌, ◌*◌, ◌/◌, ◌%◌, ◌<◌, ◌≤◌, Bool, true, false, not, ◌&&◌, ◌||◌, IsTrue, Option, Some, None, List}
use Rattle.vx_bitmap.specs.Bits.{is_among, is_marked}
use Rattle.vx_config.specs.Checks.{is_stale}
use Rattle.vx_config.specs.declared.config.Config.{Config}
use Rattle.vx_config.specs.declared.entry.LogEntry.{LogEntry}
use Rattle.vx_config.specs.declared.entry.PlexEntry.{PlexEntry}
use Rattle.vx_config.specs.declared.entry.VolumeLog.TheVariants.{Fmr as FmrLog}
use Rattle.vx_disk.specs.Blocks.{bit_at}
use Rattle.vx_disk.specs.Moves.{Run}
use Rattle.vx_disk.specs.Shelf.{Image, Meaning, Values}
use Rattle.vx_fmr.specs.Missed.{Missed, has_missed}
use Rattle.vx_layout.specs.Places.{place, plex_at}
use Rattle.vx_logs.specs.Held.{InUse, logged_in, stale}
use Rattle.vx_logs.specs.Marks.{stride_of}
use Rattle.vx_logs.specs.declared.logs.Logs.{Logs}
use Rattle.vx_maplog.specs.Logs.{log_of}
use Rattle.vx_model.specs.declared.limits.TheConstants.{MAP_REGIONS, REGION}
use Rattle.vx_volume.specs.Plexes.{Inside, active}

abbrev pub mapped_or : Option PlexEntry → Bool
mapped_or None = false
mapped_or (Some p) = is_stale p.state && not p.whole

-- whether a plex is STALE, and the next attach copies the regions of its map alone
unfoldable pub by_map : Config → ℕ → ℕ → Bool
by_map c v p = mapped_or (plex_at c v p)

-- a block of the volume's log of missed regions, whatever it has
pub record OnMaps (c : Config) (v u b : ℕ) (x : List ℕ) : Type 0 where
  pub entry : LogEntry
  pub is : log_of c v FmrLog ≡ Some entry
  pub run : Run entry.disk entry.start entry.blocks u b

-- By these values a plex that is copied by its map has in each block, of which it has not missed the region, what each plex that is ACTIVE has.
pub record MapAgrees (c : Config) (v : ℕ) (missed : ℕ → ℕ → Bool) (values : Values) : Type 0 where
  pub so : (p q b : ℕ) (x y : List ℕ) → IsTrue (by_map c v p) → IsTrue (active c v q) → Inside c v b → missed p (b / REGION) ≡ false
      → values (place c v p b).0 (place c v p b).1 x → values (place c v q b).0 (place c v q b).1 y → x ≡ y

-- By these values plexes that are ACTIVE have the same in each block of which the region is none of those.
pub record ActiveAgree (c : Config) (v : ℕ) (loose : ℕ → Bool) (values : Values) : Type 0 where
  pub so : (p q b : ℕ) (x y : List ℕ) → IsTrue (active c v p) → IsTrue (active c v q) → Inside c v b → loose (b / REGION) ≡ false
      → values (place c v p b).0 (place c v p b).1 x → values (place c v q b).0 (place c v q b).1 y → x ≡ y

-- whether a region of a plex is spared, or missed
abbrev pub or_spared : (ℕ → ℕ → Bool) → (ℕ → ℕ → Bool) → ℕ → ℕ → Bool
or_spared spare missed p r = spare p r || missed p r

-- The map in memory, where there is one, has each region in which a plex reads another value than the volume, but for the spared ones of each plex.
pub record MapsCoverBy (c : Config) (v : ℕ) (spare : ℕ → ℕ → Bool) (l : Logs) (m : Meaning) : Type 0 where
  pub so : (f : Missed) → l.fmr ≡ Some f → (IsTrue m.down → ⊥) → MapAgrees c v (or_spared spare (has_missed f)) m.reads

-- none is spared
abbrev pub none_spared : ℕ → ℕ → Bool
none_spared p r = false

-- the same of each region
abbrev pub MapsCover : Config → ℕ → Logs → Meaning → Type 0
MapsCover c v l m = MapsCoverBy c v none_spared l m

-- the regions of a run, of each plex, and those that are spared
abbrev pub or_run : ℕ → ℕ → (ℕ → ℕ → Bool) → ℕ → ℕ → Bool
or_run first last spare p r = is_among first last r || spare p r

-- each region of the plexes of a set, and those that are spared
abbrev pub or_set : ℕ → (ℕ → ℕ → Bool) → ℕ → ℕ → Bool
or_set set spare p r = bit_at set p || spare p r

-- each plex that is STALE has noted the regions of a run, where there is a log
pub record HoldMissed (c : Config) (v first last : ℕ) (l : Logs) : Type 0 where
  pub so : (f : Missed) → l.fmr ≡ Some f → (p r : ℕ) → IsTrue (stale c v p) → first ≤ r → r ≤ last → has_missed f p r ≡ true

-- the map of each plex that is ACTIVE is empty, where there is a log: one that is detached has missed no region yet
pub record MapsReady (c : Config) (v : ℕ) (l : Logs) : Type 0 where
  pub so : (f : Missed) → l.fmr ≡ Some f → (p r : ℕ) → IsTrue (active c v p) → r < f.stride → has_missed f p r ≡ false

-- the bit of the region of a block in the map of a plex
abbrev pub bit_in_maps : Config → ℕ → ℕ → ℕ → ℕ
bit_in_maps c v p b = p * stride_of c v + b / REGION

-- Whatever a crash leaves of a log in use and of the plexes: where it has not the region of a block missed by a plex that is copied by its map, that
-- plex has there what each plex that is ACTIVE has.
pub record DiskAgrees (c : Config) (v : ℕ) (m : Meaning) : Type 0 where
  pub so : (e : LogEntry) (p q b : ℕ) (x y z : List ℕ) → InUse c v FmrLog e → IsTrue (by_map c v p) → IsTrue (active c v q) → Inside c v b
      → m.leaves e.disk (e.start + bit_in_maps c v p b / MAP_REGIONS) z → is_marked z (bit_in_maps c v p b % MAP_REGIONS) ≡ false
      → m.leaves (place c v p b).0 (place c v p b).1 x → m.leaves (place c v q b).0 (place c v q b).1 y → x ≡ y

-- the same of one image
pub record ImageAgrees (c : Config) (v : ℕ) (i : Image) : Type 0 where
  pub so : (e : LogEntry) (p q b : ℕ) → InUse c v FmrLog e → IsTrue (by_map c v p) → IsTrue (active c v q) → Inside c v b → logged_in e i (bit_in_maps c v p b) ≡ false
      → i (place c v p b).0 (place c v p b).1 ≡ i (place c v q b).0 (place c v q b).1
