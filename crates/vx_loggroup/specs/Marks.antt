-- Which regions the dirty region logs of a group have, call by call.
use Rattle.std.specs.Prelude.{◌≡◌, ℕ, ◌<◌, Bool, true, Some, List, slice_get}
use Rattle.vx_config.specs.declared.config.Config.{Config}
use Rattle.vx_fmr.specs.Missed.{Missed}
use Rattle.vx_grouplogs.specs.Marking.{MarksFewer, MarksOnly, NoMarks}
use Rattle.vx_logged.specs.Begun.{MapsOff, MapsOfRun, NotesBut}
use Rattle.vx_logged.specs.Holds.{TheseHold}
use Rattle.vx_logs.specs.declared.logs.Logs.{Logs}
use Rattle.vx_group.specs.Attaches.{region_count}
use Rattle.vx_loggroup.specs.LoggedVolumes.{is_alike}

-- only the log of volume v changed, and of its regions those from first to last alone have a mark that they had not
pub record MarksVolume (c : Config) (v first last : ℕ) (old new : List Logs) : Type 0 where
  pub here : (l k : Logs) → slice_get old v ≡ Some l → slice_get new v ≡ Some k → MarksOnly (region_count c v) first last l k
  pub others : (w : ℕ) → (w ≡ v → ⊥) → slice_get new w ≡ slice_get old w

-- only the log of volume v changed, and no region has a mark that it had not
pub record ClearsVolume (c : Config) (v : ℕ) (old new : List Logs) : Type 0 where
  pub here : (l k : Logs) → slice_get old v ≡ Some l → slice_get new v ≡ Some k → MarksFewer (region_count c v) l k
  pub others : (w : ℕ) → (w ≡ v → ⊥) → slice_get new w ≡ slice_get old w

-- The maps of volume v, where they were in memory and are, have what they had, but those of plexes that fell, and beside it regions from first to
-- last of those plexes alone.
pub record NotesMaps (fell those : ℕ → Bool) (v first last : ℕ) (old new : List Logs) : Type 0 where
  pub here : (l k : Logs) (f g : Missed) → slice_get old v ≡ Some l → slice_get new v ≡ Some k → l.fmr ≡ Some f → k.fmr ≡ Some g → NotesBut fell those first last f g

-- the maps of these plexes of volume v have regions from first to last alone
pub record RunsMaps (these : ℕ → Bool) (v first last : ℕ) (logs : List Logs) : Type 0 where
  pub here : (l : Logs) → slice_get logs v ≡ Some l → MapsOfRun these first last l

-- they have each of these regions
pub record HoldMaps (these : ℕ → Bool) (v first last : ℕ) (logs : List Logs) : Type 0 where
  pub here : (l : Logs) → slice_get logs v ≡ Some l → TheseHold these first last l

-- they have no region
pub record EmptyMaps (these : ℕ → Bool) (v : ℕ) (logs : List Logs) : Type 0 where
  pub here : (l : Logs) → slice_get logs v ≡ Some l → MapsOff these l

-- of the volumes below n whose plexes are said to be alike no log has a region
pub record MarksAreOff (c : Config) (alike : List Bool) (n : ℕ) (logs : List Logs) : Type 0 where
  pub each : (v : ℕ) (l : Logs) → v < n → is_alike alike v ≡ true → slice_get logs v ≡ Some l → NoMarks (region_count c v) l
