-- The regions that plexes of a group missed, as its site notes them.
use Rattle.std.specs.Prelude.{◌≡◌, ◌⊎◌, ◌+◌, ◌*◌, ◌<◌, ℕ, Bool, true, false, List, Some, length}
use Rattle.vx_config.specs.declared.config.Config.{Config}
use Rattle.vx_config.specs.declared.entry.LogEntry.{LogEntry}
use Rattle.vx_config.specs.declared.entry.VolumeLog.TheVariants.{Fmr}
use Rattle.vx_disk.specs.Shelf.{Image}
use Rattle.vx_fmr.specs.Missed.{Missed, has_missed}
use Rattle.vx_group.specs.Attaches.{region_count}
use Rattle.vx_history.specs.Groups.{MissedNote}
use Rattle.vx_history.specs.Missing.{CopiesMissed}
use Rattle.vx_logs.specs.Held.{InUse, logged_in, stale}
use Rattle.vx_logs.specs.Marks.{stride_of}
use Rattle.vx_logs.specs.declared.logs.Logs.{Logs}
use Rattle.vx_volume.specs.Plexes.{active}
use Rattle.vx_loggroup.specs.Attaching.{fmr_at}
use Rattle.vx_loggroup.specs.LoggedVolumes.{is_alike}
use Rattle.vx_loggroup.specs.Moving.{IsThere, goes_by}

-- The maps in memory are noted: of which volumes attaches go by them; what a map has is noted as missed, or as what may be; and that of a plex that takes no part
-- has all that is noted as missed. A volume of which no write is noted to have failed is alike.
pub record MapsNoted (w : MissedNote) (c : Config) (logs : List Logs) (flags : List Bool) (stopped : Bool) : Type 0 where
  pub mapped : (v : ℕ) → w.mapped v ≡ goes_by logs c stopped v
  pub most : (v p r : ℕ) (f : Missed) → w.mapped v ≡ true → fmr_at logs v ≡ Some f → IsThere c v p r → has_missed f p r ≡ true → (w.missed v p r ≡ true) ⊎ (w.perhaps v p r ≡ true)
  pub least : (v p r : ℕ) (f : Missed) → w.mapped v ≡ true → fmr_at logs v ≡ Some f → IsThere c v p r → active c v p ≡ false → w.missed v p r ≡ true → has_missed f p r ≡ true
  pub alike : (v : ℕ) → v < length c.volumes → w.doubt v ≡ false → is_alike flags v ≡ true
  pub serial : w.serial ≡ c.serial

-- So are the logs of missed regions in an image: where such a log is in use by its configuration x, and the maps of the volume are known, a region that it has of a
-- plex is noted as missed, or as one that may be; and each that is noted as missed by a plex which is STALE in c is there.
pub record MapsOnDisk (w : MissedNote) (c x : Config) (i : Image) : Type 0 where
  pub most : (e : LogEntry) (v p r : ℕ) → w.mapped v ≡ true → InUse x v Fmr e → IsThere c v p r → logged_in e i (p * stride_of c v + r) ≡ true → (w.missed v p r ≡ true) ⊎ (w.perhaps v p r ≡ true)
  pub least : (e : LogEntry) (v p r : ℕ) → w.mapped v ≡ true → InUse x v Fmr e → IsThere c v p r → stale c v p ≡ true → w.missed v p r ≡ true → logged_in e i (p * stride_of c v + r) ≡ true

-- So many regions are copied to a plex: all, where the maps of its volume are not known, and else those that it has missed, and perhaps more.
pub record CopiesNoted (w : MissedNote) (c : Config) (v p n : ℕ) : Type 0 where
  pub unknown : w.mapped v ≡ false → n ≡ region_count c v
  pub missed : w.mapped v ≡ true → CopiesMissed w v p (region_count c v) n
