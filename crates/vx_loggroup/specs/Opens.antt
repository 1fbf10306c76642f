-- A group with logs that is imported.
use Rattle.std.specs.Prelude.{◌≡◌, ℕ, ◌<◌, ◌≤◌, IsTrue, true, false, List, Bool, Some, None, Option, length, Result, Ok, Err}
use Rattle.vx_disk.specs.Shelf.{Goes, Meaning, Nothing}
use Rattle.vx_model.specs.declared.errors.Stop.{Stop}
use Rattle.vx_kept.specs.Finds.{AllAtOnce}
use Rattle.vx_group.specs.Finds.{MissesOpenly}
use Rattle.vx_group.specs.Creates.{SameUnits}
use Rattle.vx_group.specs.Dets.{DetStops}
use Rattle.vx_group.specs.Holding.{wide}
use Rattle.vx_group.specs.Imports.{ImportStops}
use Rattle.vx_group.specs.Loses.{LosesPlexes}
use Rattle.vx_group.specs.Resumes.{stopped}
use Rattle.vx_group.specs.Stands.{inner_meaning}
use Rattle.vx_group.specs.declared.group_core.GroupCore.{GroupCore}
use Rattle.vx_logimport.specs.Marked.{ResumedBy}
use Rattle.vx_logimport.specs.Rests.{LogsTell, rests}
use Rattle.vx_logimport.specs.declared.importing.Marked.{Marked}
use Rattle.vx_logimport.specs.declared.rested.Rested.{Rested}
use Rattle.vx_logs.specs.declared.logs.Logs.{Logs}
use Rattle.vx_loggroup.specs.Fresh.{FreshStands}
use Rattle.vx_loggroup.specs.LoggedVolumes.{LoggedStands, is_alike}
use Rattle.vx_loggroup.specs.Marks.{MarksAreOff}
use Rattle.vx_loggroup.specs.Moving.{MapsTaken}
use Rattle.vx_loggroup.specs.Taking.{LogsSettle, MapsShrink, MapsWhy}
use Rattle.vx_loggroup.specs.declared.opening.Opened.{Opened}
use Rattle.vx_loggroup.specs.Settled.{SureFlags}

-- Of the volumes whose plexes are alike no log has a region, unless logs are stopped. Since then only logs were written, and logs were lost by commits;
-- each log stands, none of missed regions is in memory that was not, and the newest configuration is committed where the one before was.
pub record AreSettled (c : GroupCore) (logs : List Logs) (alike : List Bool) (old : Meaning) (o : Opened) (new : Meaning) : Type 0 where
  pub settles : LogsSettle c o.core old new
  pub trust : c.inner.committed ≡ true → o.core.inner.committed ≡ true
  pub same : o.alike ≡ alike
  pub shrink : MapsShrink logs o.logs.items
  pub up : IsTrue new.down → ⊥
  pub off : o.stopped ≡ false → MarksAreOff (wide c).config alike (length o.logs.items) o.logs.items
  pub stands : LoggedStands o.core o.logs.items o.alike o.stopped new
  pub begins : FreshStands o.core o.fresh new
  pub sure : SureFlags (length o.core.inner.config.volumes) o.core.inner.unsure o.alike

-- refused, a group stands as it did, but for logs that are lost, and imports agree where the newest configuration was committed
pub record NotSettled (c : GroupCore) (old new : Meaning) (stop : Stop) : Type 0 where
  pub core : GroupCore
  pub logs : List Logs
  pub flags : List Bool
  pub ended : Bool
  pub settles : LogsSettle c core old new
  pub stands : LoggedStands core logs flags ended new
  pub agreed : c.inner.committed ≡ true → core.inner.agreed ≡ true
  pub cause : DetStops {T = Unit {0}} old new (Err stop)

abbrev pub SettlesLogs : GroupCore → List Logs → List Bool → Meaning → Meaning → Result Opened Stop → Type 0
SettlesLogs c logs alike old new (Ok o) = AreSettled c logs alike old o new
SettlesLogs c logs alike old new (Err stop) = NotSettled c old new stop

-- There was a moment at which the group was one that was imported by its logs; since then its volumes read as then, and only logs were written, and lost
-- by commits. Of the volumes that stopped uncleanly, and of those of which the disks told that they are alike, no log has a region, unless logs are stopped.
-- A log of missed regions is in memory only of a volume that stopped cleanly, where it was not held as lost, nor its disk as failed; and it has what the
-- disks had of it.
pub record IsOpened {S : Type 0} (meaning : S → Meaning) (rested : Rested) (old : Meaning) (core : GroupCore) (logs : List Logs) (flags : List Bool) (ended : Bool) (new : Meaning) : Type 0 where
  pub moment : S
  pub marked : Marked
  pub resumed : ResumedBy rested.drls old marked (meaning moment)
  pub goes : Goes Nothing (inner_meaning marked.core (meaning moment)) (inner_meaning (wide core) new)
  pub committed : core.inner.committed ≡ true
  pub newest : AllAtOnce core.inner.config new
  pub free : core.held ≡ None
  pub openly : MissesOpenly core.inner
  pub up : IsTrue new.down → ⊥
  pub same : SameUnits (meaning moment) new
  pub counts : (u : ℕ) → (meaning moment).faults u ≤ new.faults u
  pub loses : LosesPlexes marked.core.config core.inner.config (meaning moment) new
  pub mended : (v : ℕ) → v < length marked.core.config.volumes → stopped resumed.config v ≡ true → is_alike flags v ≡ true
  pub resting : (v : ℕ) → v < length marked.core.config.volumes → rests rested.alike v ≡ true → is_alike flags v ≡ true
  pub off : ended ≡ false → MarksAreOff marked.core.config flags (length logs) logs
  pub maps : MapsWhy marked.good marked.core.config marked.stopped rested logs
  pub took : MapsTaken old core.inner.config logs
  pub sure : SureFlags (length core.inner.config.volumes) core.inner.unsure flags

-- how it ends, with each log standing
abbrev pub OpensLogged : {S : Type 0} → (S → Meaning) → Rested → Meaning → Meaning → Result Opened Stop → Type 0
OpensLogged meaning rested old new (Ok o) = IsOpened meaning rested old o.core o.logs.items o.alike o.stopped new × LoggedStands o.core o.logs.items o.alike o.stopped new × FreshStands o.core o.fresh new
OpensLogged meaning rested old new (Err stop) = ImportStops old new stop

-- the same of a group; else the shelf is handed back
abbrev pub LoggedImported : {S G : Type 0} → (S → Meaning) → Rested → Meaning → (G → GroupCore) → (G → List Logs) → (G → List Bool) → (G → Bool) → (G → S) → Result G (S × Stop) → Type 0
LoggedImported meaning rested old core logs alike stopped shelf (Ok g) = IsOpened meaning rested old (core g) (logs g) (alike g) (stopped g) (meaning (shelf g))
LoggedImported meaning rested old core logs alike stopped shelf (Err (s, stop)) = ImportStops old (meaning s) stop

-- what the disks tell behind a deport, where a value says which volumes rest
abbrev pub RestTells : Option Rested → Meaning → Type 0
RestTells None m = Unit {0}
RestTells (Some r) m = LogsTell r m

abbrev pub DeportTells : {S G : Type 0} → (S → Meaning) → Result (S × Option Rested) (G × Stop) → Type 0
DeportTells meaning (Ok x) = RestTells x.1 (meaning x.0)
DeportTells meaning (Err e) = Unit {0}
