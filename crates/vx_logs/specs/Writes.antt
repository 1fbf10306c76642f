-- What marks and writes of a volume with logs do.
use Rattle.std.specs.Prelude.{◌≡◌, ◌⊎◌, ℕ, ◌+◌, ◌-◌, ◌/◌, ◌<◌, Bool, true, false, IsTrue, if◌then◌else◌, Option, Some, None, List, Result, Ok, Err}
use Rattle.vx_model.specs.declared.limits.TheConstants.{REGION}
use Rattle.vx_model.specs.declared.no.No.{No}
use Rattle.vx_model.specs.declared.no.No.TheVariants as refusal
use Rattle.vx_bitmap.specs.Bits.{AllAre}
use Rattle.vx_bitmap.specs.Maps.{MapOn, map_block_count, marks_with}
use Rattle.vx_config.specs.declared.config.Config.{Config}
use Rattle.vx_disk.specs.Blocks.{bit_at}
use Rattle.vx_disk.specs.Counts.{Rose}
use Rattle.vx_disk.specs.Moves.{Run}
use Rattle.vx_disk.specs.Shelf.{Goes, Meaning, Nothing, Or, Values}
use Rattle.vx_fmr.specs.Missed.{Missed, has_missed, missed_place}
use Rattle.vx_volume.specs.Plexes.{active}
use Rattle.vx_volume.specs.Volumes.{AllBut, AllPlexesFailed, LastPlexFailed, OnPlexes, PlexWrote}
use Rattle.vx_logs.specs.Dirtying.{DrlAt, DrlEnds}
use Rattle.vx_logs.specs.Held.{LogsStand, stale}
use Rattle.vx_logs.specs.Noting.{FmrAt, FmrEnds, MayBeNoted, SameFmr, is_one, noted_region}
use Rattle.vx_logs.specs.declared.logs.Logs.{Logs}
use Rattle.vx_logs.specs.declared.logs.Lost.{Lost}
use Rattle.vx_logs.specs.declared.writing.Stored.{Stored}
use Rattle.vx_logs.specs.declared.writing.Written.{Written}
use Rattle.vx_logs.specs.declared.writing.Written.TheVariants as outcome

-- the first and the last region of a run of so many blocks
abbrev pub first_region : ℕ → ℕ
first_region block = block / REGION

abbrev pub last_region : ℕ → ℕ → ℕ
last_region block n = (block + n - 1) / REGION

-- a value of a block of a log while regions are marked: as dirty, and as missed by the plexes that are STALE
abbrev pub MarkedAt : Config → ℕ → ℕ → ℕ → Logs → Meaning → Values
MarkedAt c v first last l m = Or (DrlAt first last true l.drl m) (FmrAt (stale c v) false first last l.fmr m)

-- each log has the marks, or is lost, where its disk's count rose; a log that stood stands; and the shelf is down only where it was
pub record MarkedLogs (c : Config) (v first last : ℕ) (lost : Lost) (l l' : Logs) (m m' : Meaning) : Type 0 where
  pub drl : DrlEnds first last lost.drl l.drl l'.drl m m'
  pub fmr : FmrEnds (stale c v) false first last lost.fmr l.fmr l'.fmr m m'
  pub up : IsTrue m'.down → IsTrue m.down

-- each plex that is STALE has noted the regions, where there is a log
abbrev pub StaleStill : Config → ℕ → ℕ → ℕ → Option Missed → Type 0
StaleStill c v first last None = Unit {0}
StaleStill c v first last (Some f) = (p : ℕ) → IsTrue (stale c v p) → AllAre first last true (has_missed f p)

-- what a mark in the logs answers
abbrev pub MarksLogs : Config → ℕ → ℕ → ℕ → Logs → Logs → Meaning → Meaning → Result Lost No → Type 0
MarksLogs c v first last l l' m m' (Ok lost) = MarkedLogs c v first last lost l l' m m'
MarksLogs c v first last l l' m m' (Err refusal.Down) = IsTrue m'.down
MarksLogs c v first last l l' m m' (Err other) = ⊥

-- a value of a block while plexes are written: one of theirs, or one of the maps of plexes that were ACTIVE
abbrev pub PutAt : Config → ℕ → ℕ → ℕ → List ℕ → Logs → Meaning → Values
PutAt c v block n bytes l m = Or (OnPlexes c v block n bytes) (FmrAt (active c v) true (first_region block) (last_region block n) l.fmr m)

-- a value of a block of the maps in a write: a plex that is STALE may note its regions, and the map of one that is ACTIVE may begin anew
pub record WroteMaps (c : Config) (v first last : ℕ) (f : Missed) (m : Meaning) (u b : ℕ) (x : List ℕ) : Type 0 where
  pub run : Run f.map.unit f.map.first (map_block_count f.map) u b
  pub so : MapOn f.map m → (p r : ℕ) → p < f.plexes → r < f.stride → MayBeNoted (stale c v) false first last p r (has_missed f p r) (marks_with f.map b x (missed_place f p r)) ⊎ MayBeNoted (active c v) true first last p r (has_missed f p r) (marks_with f.map b x (missed_place f p r))

-- the same, where there is a log
abbrev pub MapsAt : Config → ℕ → ℕ → ℕ → Option Missed → Meaning → Values
MapsAt c v first last None m = Nothing
MapsAt c v first last (Some f) m = WroteMaps c v first last f m

-- a plex took the write
abbrev pub Took : Config → ℕ → ℕ → ℕ → List ℕ → Meaning → Meaning → ℕ → Type 0
Took c v block n bytes m m' p = PlexWrote c v p block n block n bytes m m'

-- the plexes have the bytes but those that failed, whose maps have the regions of the write alone, or their log is lost
pub record IsPlexPut (c : Config) (v block n : ℕ) (bytes : List ℕ) (put : Stored) (l l' : Logs) (m m' : Meaning) : Type 0 where
  pub plexes : AllBut c v (bit_at put.failed.set) (Took c v block n bytes m m') m m'
  pub disk : LastPlexFailed put.failed m m'
  pub drl : l'.drl ≡ l.drl
  pub fmr : FmrEnds (is_one put.failed.set) true (first_region block) (last_region block n) put.lost l.fmr l'.fmr m m'
  pub stands : LogsStand l m → LogsStand l' m'

-- each plex failed, and the logs are as they were
pub record NonePut (c : Config) (v block n : ℕ) (bytes : List ℕ) (disk : ℕ) (l l' : Logs) (m m' : Meaning) : Type 0 where
  pub plexes : AllPlexesFailed c v disk m m'
  pub drl : l'.drl ≡ l.drl
  pub fmr : l'.fmr ≡ l.fmr
  pub writes : Goes (OnPlexes c v block n bytes) m m'

-- what a write of the plexes answers
abbrev pub PutsPlexes : Config → ℕ → ℕ → ℕ → List ℕ → Logs → Logs → Meaning → Meaning → Result Stored No → Type 0
PutsPlexes c v block n bytes l l' m m' (Ok put) = IsPlexPut c v block n bytes put l l' m m'
PutsPlexes c v block n bytes l l' m m' (Err (refusal.Device disk)) = NonePut c v block n bytes disk l l' m m'
PutsPlexes c v block n bytes l l' m m' (Err refusal.Down) = IsTrue m'.down
PutsPlexes c v block n bytes l l' m m' (Err other) = ⊥

-- Whether a region is noted behind a write: in the map of a plex that failed where it is one of the write; in that of one that was STALE
-- besides where it was; and in any other where it was.
abbrev pub missed_after : (stales failed : Bool) → ℕ → ℕ → ℕ → Bool → Bool
missed_after stales failed first last r was = if failed then noted_region true first last r was else (if stales then noted_region false first last r was else was)

-- the maps behind a write
pub record FmrWrote (c : Config) (v failed first last : ℕ) (f g : Missed) : Type 0 where
  pub same : SameFmr f g
  pub each : (p r : ℕ) → p < f.plexes → r < f.stride → has_missed g p r ≡ missed_after (stale c v p) (is_one failed p) first last r (has_missed f p r)

-- the same, where there is a log, or it is lost, where its disk's count rose
abbrev pub FmrAfter : Config → ℕ → ℕ → ℕ → ℕ → Bool → Option Missed → Option Missed → Meaning → Meaning → Type 0
FmrAfter c v failed first last lost None None m m' = lost ≡ false
FmrAfter c v failed first last lost None (Some g) m m' = ⊥
FmrAfter c v failed first last lost (Some f) None m m' = (lost ≡ true) × Rose (m.faults f.map.unit) (m'.faults f.map.unit)
FmrAfter c v failed first last lost (Some f) (Some g) m m' = (lost ≡ false) × FmrWrote c v failed first last f g

-- both logs are kept
abbrev pub none_lost : Lost
none_lost = record { drl = false; fmr = false }

-- No plex was written, since a mark could not be made: a log is lost.
pub record WasLost (c : Config) (v first last : ℕ) (lost : Lost) (l l' : Logs) (m m' : Meaning) : Type 0 where
  pub some : (lost.drl ≡ true) ⊎ (lost.fmr ≡ true)
  pub marked : MarkedLogs c v first last lost l l' m m'
  pub goes : Goes (MarkedAt c v first last l m) m m'

-- The regions were marked, and then the plexes got the bytes.
pub record WasPut (c : Config) (v block n : ℕ) (bytes : List ℕ) (put : Stored) (l l' : Logs) (m m' : Meaning) : Type 0 where
  pub plexes : AllBut c v (bit_at put.failed.set) (Took c v block n bytes m m') m m'
  pub disk : LastPlexFailed put.failed m m'
  pub drl : DrlEnds (first_region block) (last_region block n) false l.drl l'.drl m m'
  pub fmr : FmrAfter c v put.failed.set (first_region block) (last_region block n) put.lost l.fmr l'.fmr m m'
  pub stands : LogsStand l m → LogsStand l' m'

-- The regions were marked, and then each plex failed.
pub record NoneTook (c : Config) (v block n disk : ℕ) (l l' : Logs) (m m' : Meaning) : Type 0 where
  pub plexes : AllPlexesFailed c v disk m m'
  pub marked : MarkedLogs c v (first_region block) (last_region block n) none_lost l l' m m'

-- what a write answers
abbrev pub WritesMarked : Config → ℕ → ℕ → ℕ → List ℕ → Logs → Logs → Meaning → Meaning → Result Written No → Type 0
WritesMarked c v block n bytes l l' m m' (Ok (outcome.Stored put)) = WasPut c v block n bytes put l l' m m'
WritesMarked c v block n bytes l l' m m' (Ok (outcome.Lost lost)) = WasLost c v (first_region block) (last_region block n) lost l l' m m'
WritesMarked c v block n bytes l l' m m' (Err (refusal.Device disk)) = NoneTook c v block n disk l l' m m'
WritesMarked c v block n bytes l l' m m' (Err refusal.Down) = IsTrue m'.down
WritesMarked c v block n bytes l l' m m' (Err other) = ⊥

-- a value of a block in a write: one of the plexes, of the dirty region log, or of the maps
pub record WritesPlexes (c : Config) (v block n : ℕ) (bytes : List ℕ) (l : Logs) (m : Meaning) (u b : ℕ) (x : List ℕ) : Type 0 where
  pub here : OnPlexes c v block n bytes u b x ⊎ DrlAt (first_region block) (last_region block n) true l.drl m u b x ⊎ MapsAt c v (first_region block) (last_region block n) l.fmr m u b x
