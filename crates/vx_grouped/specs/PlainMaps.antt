-- What calls of a group make of the regions that plexes missed, as its site notes them, by the parts of the group before and behind them.
use Rattle.std.specs.Prelude.{◌≡◌, ℕ, Bool, false, IsTrue, List, Option, Some, Result, Ok, Err}
use Rattle.vx_config.specs.declared.config.Config.{Config}
use Rattle.vx_disk.specs.Racks.{IsRack}
use Rattle.vx_disk.specs.Shelf.{Meaning}
use Rattle.vx_disk.specs.declared.shelf.Shelf.{Ghosts}
use Rattle.vx_history.specs.Groups.{MissedNote}
use Rattle.vx_logimport.specs.Rests.{RestsNone}
use Rattle.vx_logimport.specs.declared.rested.Rested.{Rested}
use Rattle.vx_logs.specs.declared.logs.Logs.{Logs}
use Rattle.vx_model.specs.Content.{Write}
use Rattle.vx_model.specs.declared.errors.Stop.{Stop}
use Rattle.vx_model.specs.declared.no.No.{No}
use Rattle.vx_volume.specs.Plexes.{active}
use Rattle.vx_kept.specs.Commits.{IsCommitted}
use Rattle.vx_grouped.specs.MapsNoted.{CopiesNoted, MapsNoted}
use Rattle.vx_grouped.specs.declared.laid.Laid.{Laid}
use Rattle.vx_grouped.specs.SiteMaps.{AddMaps, AttMaps, BackMaps, DetMapsDone, DetMapsFailed, DoubtMaps, IdleMaps, MapsLike, RisenMaps, WriteMaps, MapsQuiet}

-- what a group has beside its disks: its configuration, the logs of its volumes, which of them are alike, and whether logs are stopped
pub record MapParts : Type 0 where
  pub config : Config
  pub logs : List Logs
  pub flags : List Bool
  pub stopped : Bool

abbrev pub map_parts : Config → List Logs → List Bool → Bool → MapParts
map_parts config logs flags stopped = record { config = config; logs = logs; flags = flags; stopped = stopped }

abbrev pub laid_parts : {R : Type 0} {g : Ghosts R} → Laid R g → MapParts
laid_parts group = map_parts group.core.inner.config group.logs.items group.alike group.stopped

abbrev pub PartsNoted : MissedNote → MapParts → Type 0
PartsNoted w x = MapsNoted w x.config x.logs x.flags x.stopped

-- Whatever was noted of the maps, the note goes on so by a call behind which the disks are not down.
pub record PartsMoved (By : Config → Config → MissedNote → MissedNote → Type 0) (x y : MapParts) (new : Meaning) : Type 0 where
  pub so : (w : MissedNote) → (IsTrue new.down → ⊥) → PartsNoted w x → (next : MissedNote) × By x.config y.config w next × PartsNoted next y

-- What was noted is so still.
pub record PartsStay (x y : MapParts) : Type 0 where
  pub config : y.config ≡ x.config
  pub so : (w : MissedNote) → PartsNoted w x → PartsNoted w y

-- ---- calls, by their answers

-- a refusal
abbrev pub RefusedMaps : (Config → Config → MissedNote → MissedNote → Type 0) → Stop → MapParts → MapParts → Meaning → Type 0
RefusedMaps By stop x y m' = PartsMoved By x y m' × MapsQuiet stop (PartsStay x y)

abbrev pub WritesMaps : Write → MapParts → Meaning → MapParts → Meaning → Result (Unit {0}) No → Type 0
WritesMaps own x m y m' (Ok done) = PartsMoved (WriteMaps own m m') x y m'
WritesMaps own x m y m' (Err why) = PartsMoved (DoubtMaps own m m') x y m'

abbrev pub DetsMaps : (vol plex : ℕ) → MapParts → Meaning → MapParts → Meaning → Result (Unit {0}) Stop → Type 0
DetsMaps vol plex x m y m' (Ok done) = PartsMoved (DetMapsDone vol plex m m') x y m'
DetsMaps vol plex x m y m' (Err stop) = RefusedMaps (DetMapsFailed vol plex m m') stop x y m'

-- an attach: so many regions are copied
abbrev pub AttsMaps : (vol plex : ℕ) → MapParts → Meaning → MapParts → Meaning → Result ℕ Stop → Type 0
AttsMaps vol plex x m y m' (Ok count) = PartsMoved (AttMaps vol plex m m') x y m' × ((w : MissedNote) → PartsNoted w x → active x.config vol plex ≡ false → CopiesNoted w x.config vol plex count)
AttsMaps vol plex x m y m' (Err stop) = RefusedMaps (MapsLike m m') stop x y m'

abbrev pub AddsMaps : MapParts → Meaning → MapParts → Meaning → Result ℕ Stop → Type 0
AddsMaps x m y m' (Ok vol) = PartsMoved (AddMaps m m') x y m'
AddsMaps x m y m' (Err stop) = RefusedMaps (MapsLike m m') stop x y m'

-- A deport: whatever was noted of the maps, the disks have it, by the configuration that each image has.
pub record PartsLeft (x : MapParts) (rested : Option Rested) (old new : Meaning) : Type 0 where
  pub so : (w : MissedNote) (d : Config) → PartsNoted w x → IsCommitted d new → (next : MissedNote) × MapsLike old new x.config d w next × IdleMaps next d rested new

-- or it is refused, and the group is given back
abbrev pub LeavesMaps : {S G : Type 0} → MapParts → Meaning → (S → Meaning) → (G → MapParts) → (G → Meaning) → Result (S × Option Rested) (G × Stop) → Type 0
LeavesMaps x m meaning parts back (Ok s) = PartsLeft x s.1 m (meaning s.0)
LeavesMaps x m meaning parts back (Err (g, stop)) = IsRack m → IsRack (back g) → RefusedMaps (MapsLike m (back g)) stop x (parts g) (back g)

-- An import: of disks that have what was noted, and of others; and of disks of which a value says that no volume rests.
pub record PartsBack (r : Rested) (old : Meaning) (y : MapParts) (new : Meaning) : Type 0 where
  pub so : (w : MissedNote) (c : Config) → IsTrue new.tells → IdleMaps w c (Some r) old → (next : MissedNote) × BackMaps old new c y.config w next × PartsNoted next y
  pub some : (w : MissedNote) × PartsNoted w y
  pub none : RestsNone r → (next : MissedNote) × RisenMaps old new next × PartsNoted next y

abbrev pub ComesMaps : {S G : Type 0} → Rested → Meaning → (G → MapParts) → (G → Meaning) → Result G (S × Stop) → Type 0
ComesMaps r old parts new (Ok g) = PartsBack r old (parts g) (new g)
ComesMaps r old parts new (Err e) = Unit {0}
