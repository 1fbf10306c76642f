-- What a call makes of the maps of missed regions in memory, plex by plex.
use Rattle.std.specs.Prelude.{◌≡◌, ◌⊎◌, ◌+◌, ◌*◌, ◌<◌, ◌≤◌, ◌==◌, ℕ, Bool, true, false, not, ◌&&◌, IsTrue, is_some, Option, Some, None, List, Result, Ok, Err, slice_get}
use Rattle.vx_bitmap.specs.Bits.{is_among}
use Rattle.vx_bitmap.specs.Maps.{MapOn}
use Rattle.vx_config.specs.Checks.{plexes_of}
use Rattle.vx_config.specs.Table.{greatest}
use Rattle.vx_config.specs.declared.config.Config.{Config}
use Rattle.vx_config.specs.declared.entry.LogEntry.{LogEntry}
use Rattle.vx_config.specs.declared.entry.VolumeLog.TheVariants.{Drl, Fmr}
use Rattle.vx_copies.specs.Marks.{failed_at}
use Rattle.vx_disk.specs.Counts.{Rose}
use Rattle.vx_disk.specs.Shelf.{Each, Image, Meaning}
use Rattle.vx_fmr.specs.Missed.{Missed, has_missed}
use Rattle.vx_groupmaps.specs.Loading.{on_failed_disk}
use Rattle.vx_copyfmt.specs.Imports.{Found}
use Rattle.vx_kept.specs.Groups.{found}
use Rattle.vx_kept.specs.LogRuns.{log_trusted}
use Rattle.vx_logimport.specs.Rests.{rests}
use Rattle.vx_logimport.specs.declared.rested.Rested.{Rested}
use Rattle.vx_logs.specs.Held.{InUse, logged_in}
use Rattle.vx_logs.specs.Marks.{stride_of}
use Rattle.vx_logs.specs.declared.logs.Logs.{Logs}
use Rattle.vx_maplog.specs.Logs.{log_of}
use Rattle.vx_model.specs.declared.errors.Stop.{Stop}
use Rattle.vx_model.specs.declared.limits.TheConstants.{COMMIT_SERIALS}
use Rattle.vx_volume.specs.Plexes.{active}
use Rattle.vx_group.specs.Attaches.{region_count}
use Rattle.vx_logged.specs.Holds.{HoldsRun}
use Rattle.vx_loggroup.specs.Attaching.{fmr_at}
use Rattle.vx_loggroup.specs.LoggedVolumes.{is_alike}

-- whether attaches of the plexes of a volume go by its maps in memory
abbrev pub goes_by : List Logs → Config → Bool → ℕ → Bool
goes_by logs c stopped v = not stopped && (not (on_failed_disk c v Fmr) && is_some (fmr_at logs v))

abbrev pub missed_by : Option Missed → Bool → ℕ → ℕ → Bool
missed_by None on p r = not on
missed_by (Some f) on p r = has_missed f p r

-- What a plex has missed by the maps in memory. Where there are none, it is as they begin: nothing of a plex that is ACTIVE, and all of each other one.
abbrev pub missed_in : List Logs → Config → ℕ → ℕ → ℕ → Bool
missed_in logs c v p r = missed_by (fmr_at logs v) (active c v p) p r

-- the regions of a run of one volume
abbrev pub in_run : (vol first last : ℕ) → ℕ → ℕ → Bool
in_run vol first last v r = (v == vol) && is_among first last r

-- a plex and a region of a volume
pub record IsThere (c : Config) (v p r : ℕ) : Type 0 where
  pub plex : p < plexes_of c v
  pub region : r < region_count c v

-- A call in which those regions were written, from configuration c to d. A plex that takes no part behind it has noted them; one that took none before has what
-- it had. What a map has besides it had before, and nothing of that where it begins anew: those say of a plex that goes off whether its map does.
pub record MapsMove (c d : Config) (these : ℕ → ℕ → Bool) (anew : ℕ → ℕ → Bool) (l k : List Logs) : Type 0 where
  pub most : (v p r : ℕ) (g : Missed) → fmr_at k v ≡ Some g → IsThere c v p r → has_missed g p r ≡ true
      → ((active d v p ≡ false) × (these v r ≡ true)) ⊎ ((active c v p ≡ true → active d v p ≡ false → anew v p ≡ false) × (missed_in l c v p r ≡ true))
  pub least : (v p r : ℕ) (g : Missed) → fmr_at k v ≡ Some g → IsThere c v p r → active d v p ≡ false → these v r ≡ true → has_missed g p r ≡ true
  pub stay : (v p r : ℕ) (g : Missed) → fmr_at k v ≡ Some g → IsThere c v p r → active c v p ≡ false → active d v p ≡ false → missed_in l c v p r ≡ true → has_missed g p r ≡ true

-- A write of those regions that was refused: each plex may have noted them, and one that took no part before it has what it had.
pub record MapsDoubt (c d : Config) (these : ℕ → ℕ → Bool) (l k : List Logs) : Type 0 where
  pub most : (v p r : ℕ) (g : Missed) → fmr_at k v ≡ Some g → IsThere c v p r → has_missed g p r ≡ true → (these v r ≡ true) ⊎ (missed_in l c v p r ≡ true)
  pub stay : (v p r : ℕ) (g : Missed) → fmr_at k v ≡ Some g → IsThere c v p r → active c v p ≡ false → active d v p ≡ false → missed_in l c v p r ≡ true → has_missed g p r ≡ true

-- A flush behind a write of those regions: the same, but that only a plex that falls out of use in it has noted them.
pub record MapsFlushed (c d : Config) (these : ℕ → ℕ → Bool) (anew : ℕ → ℕ → Bool) (l k : List Logs) : Type 0 where
  pub most : (v p r : ℕ) (g : Missed) → fmr_at k v ≡ Some g → IsThere c v p r → has_missed g p r ≡ true
      → ((active d v p ≡ false) × (these v r ≡ true)) ⊎ ((active c v p ≡ true → active d v p ≡ false → anew v p ≡ false) × (missed_in l c v p r ≡ true))
  pub least : (v p r : ℕ) (g : Missed) → fmr_at k v ≡ Some g → IsThere c v p r → active c v p ≡ true → active d v p ≡ false → these v r ≡ true → has_missed g p r ≡ true
  pub stay : (v p r : ℕ) (g : Missed) → fmr_at k v ≡ Some g → IsThere c v p r → active c v p ≡ false → active d v p ≡ false → missed_in l c v p r ≡ true → has_missed g p r ≡ true

-- the plexes of one volume, where it is sure that they were alike
abbrev pub all_anew : (vol : ℕ) → Bool → ℕ → ℕ → Bool
all_anew vol sure v p = (v == vol) && sure

-- this plex of it
abbrev pub this_anew : (vol plex : ℕ) → Bool → ℕ → ℕ → Bool
this_anew vol plex sure v p = (v == vol) && ((p == plex) && sure)

-- one volume, and none
abbrev pub only_volume : ℕ → ℕ → Bool
only_volume vol v = v == vol

abbrev pub no_volume : ℕ → Bool
no_volume v = false

-- no region, and no plex
abbrev pub in_none : ℕ → ℕ → Bool
in_none v r = false

-- what a write of a run of one volume makes of the maps
abbrev pub MovesRun : {T E : Type 0} → Config → Config → (vol first last : ℕ) → Bool → List Logs → List Logs → Result T E → Type 0
MovesRun c d vol first last sure l k (Ok x) = MapsMove c d (in_run vol first last) (all_anew vol sure) l k
MovesRun c d vol first last sure l k (Err e) = MapsDoubt c d (in_run vol first last) l k

-- and the flush behind it
abbrev pub FollowsRun : {T E : Type 0} → Config → Config → (vol first last : ℕ) → Bool → List Logs → List Logs → Result T E → Type 0
FollowsRun c d vol first last sure l k (Ok x) = MapsFlushed c d (in_run vol first last) (all_anew vol sure) l k
FollowsRun c d vol first last sure l k (Err e) = MapsDoubt c d (in_run vol first last) l k

-- what the detach of a plex makes of them
abbrev pub MovesDet : {T E : Type 0} → Config → Config → (vol plex : ℕ) → Bool → List Logs → List Logs → Result T E → Type 0
MovesDet c d vol plex sure l k (Ok x) = MapsMove c d in_none (this_anew vol plex sure) l k
MovesDet c d vol plex sure l k (Err e) = MapsMove c d in_none in_none l k

-- An attach by which the map of its plex becomes that of one that was ACTIVE: a map has what it had, or that of the plex what the other one had; one that takes
-- no part has what it had.
pub record MapsAttach (c d : Config) (vol plex : ℕ) (l k : List Logs) : Type 0 where
  pub from : ℕ
  pub is_on : IsTrue (active c vol from)
  pub most : (v p r : ℕ) (g : Missed) → fmr_at k v ≡ Some g → IsThere c v p r → has_missed g p r ≡ true → (missed_in l c v p r ≡ true) ⊎ ((v ≡ vol) × (p ≡ plex) × (missed_in l c vol from r ≡ true))
  pub stay : (v p r : ℕ) (g : Missed) → fmr_at k v ≡ Some g → IsThere c v p r → active c v p ≡ false → active d v p ≡ false → missed_in l c v p r ≡ true → has_missed g p r ≡ true

-- what an attach that is done makes of the maps, by whether it leaves them as they are
abbrev pub MovesBy : Bool → Config → Config → (vol plex : ℕ) → List Logs → List Logs → Type 0
MovesBy true c d vol plex l k = MapsMove c d in_none in_none l k
MovesBy false c d vol plex l k = MapsAttach c d vol plex l k

-- and one that is refused: no map in memory changes
abbrev pub MovesAtt : {T E : Type 0} → Bool → Config → Config → (vol plex : ℕ) → List Logs → List Logs → Result T E → Type 0
MovesAtt leaves c d vol plex l k (Ok x) = MovesBy leaves c d vol plex l k
MovesAtt leaves c d vol plex l k (Err e) = MapsMove c d in_none in_none l k

-- the maps of a volume, where they are in memory, have a run of each plex that is not ACTIVE
pub record RunHolds (c : Config) (v first last : ℕ) (logs : List Logs) : Type 0 where
  pub here : (l : Logs) → slice_get logs v ≡ Some l → HoldsRun c v first last l

-- Maps come to memory in a call of one volume alone; where they were there and are gone by no more, they are.
pub record MapsBeginIn (may : ℕ → Bool) (c d : Config) (s t : Bool) (l k : List Logs) : Type 0 where
  pub so : (v : ℕ) → goes_by l c s v ≡ false → goes_by k d t v ≡ true → (may v ≡ true) × (fmr_at l v ≡ None)

-- Why the maps of a volume are gone by no more: the count of their disk rose; or the log was held as lost, though it was in memory; the shelf is down; or no
-- serial is left to commit that a log is lost. The serial does not fall.
pub record MapsEnd (c d : Config) (s t : Bool) (l k : List Logs) (old new : Meaning) : Type 0 where
  pub so : (v : ℕ) → goes_by l c s v ≡ true → goes_by k d t v ≡ false
      → ((e : LogEntry) × (log_of c v Fmr ≡ Some e) × Rose (old.faults e.disk) (new.faults e.disk)) ⊎ (log_trusted c v Fmr ≡ false) ⊎ IsTrue new.down
      ⊎ (greatest ≤ c.serial + 6 * COMMIT_SERIALS) ⊎ (greatest ≤ d.serial + COMMIT_SERIALS)
  pub later : c.serial ≤ d.serial

-- The map that an import took up is that of an image: its log is in use there by the configuration x, on a disk that this holds as good.
pub record MapTaken (x d : Config) (v : ℕ) (f : Missed) (i : Image) : Type 0 where
  pub entry : LogEntry
  pub used : InUse x v Fmr entry
  pub good : failed_at x.disks entry.disk ≡ false
  pub same : (p r : ℕ) → IsThere d v p r → has_missed f p r ≡ logged_in entry i (p * stride_of d v + r)

-- so it is of each volume, and of whatever image was on the disks
pub record MapsTaken (old : Meaning) (d : Config) (logs : List Logs) : Type 0 where
  pub each : (v : ℕ) (f : Missed) (i : Image) (x : Config) → fmr_at logs v ≡ Some f → Each old.leaves i → found old i ≡ Found x → MapTaken x d v f i

-- What the disks have of the maps that were in memory as a group was deported, whatever a crash leaves.
pub record MapsStand (logs : List Logs) (m : Meaning) : Type 0 where
  pub each : (v : ℕ) (f : Missed) → fmr_at logs v ≡ Some f → MapOn f.map m

-- What a deport answers, while logs go on: volumes whose maps are in memory rest, and no others of which the log is not held as lost; and those whose
-- plexes are alike. A dirty region log may be read, unless it is in memory no more and not held as lost.
pub record RestsMaps (c : Config) (s : Bool) (logs : List Logs) (alike : List Bool) (r : Rested) : Type 0 where
  pub going : s ≡ false
  pub maps : (v : ℕ) (f : Missed) → fmr_at logs v ≡ Some f → rests r.maps v ≡ true
  pub there : (v : ℕ) (l : Logs) → slice_get logs v ≡ Some l → rests r.maps v ≡ true → log_trusted c v Fmr ≡ true → l.fmr ≡ None → ⊥
  pub same : (v : ℕ) → is_alike alike v ≡ true → rests r.alike v ≡ true
  pub lacks : (v : ℕ) (l : Logs) → slice_get logs v ≡ Some l → rests r.drls v ≡ false → (log_trusted c v Drl ≡ true) × (l.drl ≡ None)

-- it answers nothing only where logs are stopped
abbrev pub RestsOr : Config → Bool → List Logs → List Bool → Option Rested → Type 0
RestsOr c s logs alike None = s ≡ true
RestsOr c s logs alike (Some r) = RestsMaps c s logs alike r

-- of a group that is handed out
abbrev pub DeportMaps : {S G : Type 0} → Config → Bool → (S → Meaning) → List Logs → List Bool → Result (S × Option Rested) (G × Stop) → Type 0
DeportMaps c stopped meaning logs alike (Ok x) = (stopped ≡ false → MapsStand logs (meaning x.0)) × RestsOr c stopped logs alike x.1
DeportMaps c stopped meaning logs alike (Err e) = Unit {0}

-- A group that a refused deport gives back has the logs that it had, and its maps are gone by no more for the same reasons as behind any call.
pub record MapsBackIn (c d : Config) (s t : Bool) (l k : List Logs) (a b : List Bool) (old new : Meaning) : Type 0 where
  pub logs : k ≡ l
  pub alike : b ≡ a
  pub stopped : t ≡ s
  pub comes : MapsBeginIn no_volume c d s t l k
  pub ends : MapsEnd c d s t l k old new

-- where a deport is refused
abbrev pub DeportKeeps : {S G : Type 0} → Config → Bool → List Logs → List Bool → Meaning → (G → Config) → (G → Bool) → (G → List Logs) → (G → List Bool) → (G → Meaning) → Result (S × Option Rested) (G × Stop) → Type 0
DeportKeeps c s l a old config stopped logs alike meaning (Ok x) = Unit {0}
DeportKeeps c s l a old config stopped logs alike meaning (Err (g, stop)) = MapsBackIn c (config g) s (stopped g) l (logs g) a (alike g) old (meaning g)
