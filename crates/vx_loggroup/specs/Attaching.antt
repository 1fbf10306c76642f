-- Which map of missed regions an attach goes by, and which maps it leaves.
use Rattle.std.specs.Prelude.{◌≡◌, ◌||◌, ◌&&◌, not, ℕ, Bool, true, false, nat_le, if◌then◌else◌, IsTrue, is_some, Option, Some, None, List, Result, Ok, Err, length, slice_get}
use Rattle.vx_config.specs.Checks.{plexes_of}
use Rattle.vx_config.specs.declared.config.Config.{Config}
use Rattle.vx_config.specs.declared.entry.VolumeLog.TheVariants.{Fmr}
use Rattle.vx_disk.specs.Shelf.{Goes, Meaning, Nothing, Or, Values}
use Rattle.vx_fmr.specs.Missed.{Missed}
use Rattle.vx_group.specs.Attaches.{AnyImage, OnMissed}
use Rattle.vx_group.specs.Holding.{wide}
use Rattle.vx_group.specs.Loses.{SameParts}
use Rattle.vx_group.specs.Stands.{inner_meaning}
use Rattle.vx_group.specs.declared.group_core.GroupCore.{GroupCore}
use Rattle.vx_groupmaps.specs.Loading.{on_failed_disk}
use Rattle.vx_groupmaps.specs.Missing.{OnMaps}
use Rattle.vx_kept.specs.Keeping.{Acts, SameShape}
use Rattle.vx_logged.specs.Copied.{MapsTake}
use Rattle.vx_logs.specs.declared.logs.Logs.{Logs}
use Rattle.vx_volume.specs.Plexes.{active}
use Rattle.vx_loggroup.specs.LoggedVolumes.{is_alike}

abbrev pub fmr_or : Option Logs → Option Missed
fmr_or None = None
fmr_or (Some l) = l.fmr

-- the maps of a volume in memory, where there are any
abbrev pub fmr_at : List Logs → ℕ → Option Missed
fmr_at logs v = fmr_or (slice_get logs v)

-- The maps of the volume, where the plex is there: none while logs are stopped, or where the shelf is down.
abbrev pub map_there : List Logs → Config → Bool → Bool → ℕ → ℕ → Option Missed
map_there logs c stopped down v p = if stopped then None else (if down then None else (if nat_le (plexes_of c v) p then None else fmr_at logs v))

-- the same, but none where their disk is held as failed
abbrev pub map_by : List Logs → Config → Bool → Bool → ℕ → ℕ → Option Missed
map_by logs c stopped down v p = if stopped then None else (if down then None else (if nat_le (plexes_of c v) p then None else (if on_failed_disk c v Fmr then None else fmr_at logs v)))

-- The maps of volume v are in memory no more where their disk is held as failed; else all logs are as they were.
pub record MapHeld (c : Config) (v : ℕ) (old new : List Logs) : Type 0 where
  pub many : length new ≡ length old
  pub same : on_failed_disk c v Fmr ≡ false → new ≡ old
  pub gone : on_failed_disk c v Fmr ≡ true → fmr_at new v ≡ None
  pub drl : (w : ℕ) (l k : Logs) → slice_get old w ≡ Some l → slice_get new w ≡ Some k → k.drl ≡ l.drl
  pub others : (w : ℕ) → (w ≡ v → ⊥) → slice_get new w ≡ slice_get old w

-- so it is of each volume
pub record MapsHeld (c : Config) (old new : List Logs) : Type 0 where
  pub many : length new ≡ length old
  pub same : (w : ℕ) → on_failed_disk c w Fmr ≡ false → slice_get new w ≡ slice_get old w
  pub gone : (w : ℕ) → on_failed_disk c w Fmr ≡ true → fmr_at new w ≡ None
  pub drl : (w : ℕ) (l k : Logs) → slice_get old w ≡ Some l → slice_get new w ≡ Some k → k.drl ≡ l.drl

-- ---- a volume of which a write was refused since the import

-- whether maps of volume v that were in memory are there no more
abbrev pub went : List Logs → List Logs → ℕ → Bool
went old new v = is_some (fmr_at old v) && not (is_some (fmr_at new v))

-- the same of maps that attaches went by, as their disk was not held as failed
abbrev pub maps_gone : Config → List Logs → List Logs → ℕ → Bool
maps_gone c old new v = not (on_failed_disk c v Fmr) && went old new v

-- Whether an attach leaves the maps as they are: where the plexes of the volume are alike, or logs are stopped; and where it is refused, and did not end with
-- the maps of the volume gone from memory.
abbrev pub leaves_maps : {T E : Type 0} → Bool → Bool → Bool → Result T E → Bool
leaves_maps same stopped gone (Ok x) = same || stopped
leaves_maps same stopped gone (Err e) = (same || stopped) || not gone

-- a plex that is ACTIVE, of which an attach copies the map: this one is not, logs go on, and the plexes of the volume are not alike
pub record MapSource (c : Config) (alike : List Bool) (stopped : Bool) (v p q : ℕ) : Type 0 where
  pub on : IsTrue (active c v q)
  pub off : active c v p ≡ false
  pub going : stopped ≡ false
  pub apart : is_alike alike v ≡ false

-- what an attach writes of plexes and logs: blocks of the plex in regions that it has missed, and else of the maps of its volume
abbrev pub OnAttached : Bool → Config → ℕ → ℕ → Option Missed → Values
OnAttached true c v p f = OnMissed c v p f
OnAttached false c v p f = Or (OnMissed c v p f) (OnMaps c v)

-- As an attach of a group without logs: each volume reads as before, at every moment and in every image; only such blocks were written beside those of the
-- configuration, and no other plex changed its state.
pub record LoggedAttaches (leaves : Bool) (v p : ℕ) (f : Option Missed) (c d : GroupCore) (old new : Meaning) : Type 0 where
  pub goes : Goes Nothing (inner_meaning (wide c) old) (inner_meaning (wide d) new)
  pub acts : Acts (OnAttached leaves c.inner.config v p f) AnyImage old new
  pub shape : SameShape d.inner.config c.inner.config
  pub others : (w q : ℕ) → (w ≡ v → q ≡ p → ⊥) → active d.inner.config w q ≡ active c.inner.config w q
  pub parts : SameParts c.inner.config d.inner.config
  pub faults : d.inner.faults ≡ c.inner.faults
  pub unsure : d.inner.unsure ≡ c.inner.unsure

-- In the maps of volume v that of one plex has the regions that another one's had, and no others; the other maps and logs are as they were.
pub record VolumeTakes (v to from : ℕ) (old new : List Logs) : Type 0 where
  pub many : length new ≡ length old
  pub here : (l k : Logs) → slice_get old v ≡ Some l → slice_get new v ≡ Some k → MapsTake to from l k
  pub drl : (w : ℕ) (l k : Logs) → slice_get old w ≡ Some l → slice_get new w ≡ Some k → k.drl ≡ l.drl
  pub others : (w : ℕ) → (w ≡ v → ⊥) → slice_get new w ≡ slice_get old w

-- so it is of a plex that was ACTIVE
pub record TakesActive (c : Config) (v to : ℕ) (old new : List Logs) : Type 0 where
  pub from : ℕ
  pub is_on : IsTrue (active c v from)
  pub takes : VolumeTakes v to from old new

-- The same, but that maps are in memory no more of which the disk is held as failed.
pub record MapsFollow (c : Config) (v to : ℕ) (old new : List Logs) : Type 0 where
  pub many : length new ≡ length old
  pub from : ℕ
  pub is_on : IsTrue (active c v from)
  pub here : on_failed_disk c v Fmr ≡ false → (l k : Logs) → slice_get old v ≡ Some l → slice_get new v ≡ Some k → MapsTake to from l k
  pub same : (w : ℕ) → (w ≡ v → ⊥) → on_failed_disk c w Fmr ≡ false → slice_get new w ≡ slice_get old w
  pub gone : (w : ℕ) → on_failed_disk c w Fmr ≡ true → fmr_at new w ≡ None
  pub drl : (w : ℕ) (l k : Logs) → slice_get old w ≡ Some l → slice_get new w ≡ Some k → k.drl ≡ l.drl
