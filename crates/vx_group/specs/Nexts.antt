-- The configuration with a volume more.
use Rattle.std.specs.Prelude.{◌≡◌, ℕ, ◌<◌, ◌≤◌, ◌^◌, true, false, IsTrue, Result, Ok, Err, List, length, slice_get}
use Rattle.vx_disk.specs.Shelf.{Meaning}
use Rattle.vx_model.specs.declared.errors.Stop.{Stop}
use Rattle.vx_model.specs.declared.errors.Stop.TheVariants.{No as Refused, OutOfMemory}
use Rattle.vx_model.specs.declared.limits.TheConstants.{MOST_SUBDISKS, MOST_VOLUMES}
use Rattle.vx_model.specs.declared.no.Counted.TheVariants.{Subdisks}
use Rattle.vx_model.specs.declared.no.No.TheVariants as refusal
use Rattle.vx_config.specs.Checks.{is_sound}
use Rattle.vx_config.specs.declared.config.Config.{Config}
use Rattle.vx_config.specs.declared.entry.VolumeEntry.{VolumeEntry}
use Rattle.vx_config.specs.declared.entry.VolumeLog.{VolumeLog}
use Rattle.vx_layout.specs.Made.{with_volume}
use Rattle.vx_layout.specs.Space.{IsFound, IsSpaceShort}
use Rattle.vx_layout.specs.declared.shape.Found.{Found}
use Rattle.vx_layout.specs.declared.shape.Shape.{Shape}
use Rattle.vx_volume.specs.Plexes.{active_or}
use Rattle.vx_kept.specs.Choice.{live_or}
use Rattle.vx_maplog.specs.Logs.{log_in, used_or}
use Rattle.vx_group.specs.Makes.{AreZero, HasMany, IsVolume}
use Rattle.vx_group.specs.declared.inner.Inner.{Inner}

-- it is checked, or refused where it would not be
abbrev pub LongerEnds : Config → VolumeEntry → Result Config Stop → Type 0
LongerEnds c v (Ok next) = (next ≡ with_volume c v) × (is_sound next ≡ true)
LongerEnds c v (Err (Refused why)) = (why ≡ refusal.Limit Subdisks MOST_SUBDISKS) × (is_sound (with_volume c v) ≡ false)
LongerEnds c v (Err OutOfMemory) = Unit {0}

-- a volume of this shape behind the others
pub record IsPlanned (c : Config) (name : List ℕ) (want : Shape) (next : Config) : Type 0 where
  pub found : Found
  pub space : IsFound c want found
  pub volume : VolumeEntry
  pub is_volume : IsVolume name want found volume
  pub is : next ≡ with_volume c volume
  pub sound : is_sound next ≡ true

abbrev pub PlanEnds : Config → List ℕ → Shape → Result Config Stop → Type 0
PlanEnds c name want (Ok next) = IsPlanned c name want next
PlanEnds c name want (Err (Refused (refusal.Space need have))) = IsSpaceShort c want need have
PlanEnds c name want (Err (Refused (refusal.Limit Subdisks most))) = HasMany c name want × (most ≡ MOST_SUBDISKS)
PlanEnds c name want (Err (Refused other)) = ⊥
PlanEnds c name want (Err OutOfMemory) = Unit {0}

-- a checked configuration with a volume more, of which each plex that takes part is ACTIVE and each log is held as lost
pub record IsNextConfig (c next : Config) : Type 0 where
  pub volume : VolumeEntry
  pub is : next ≡ with_volume c volume
  pub sound : is_sound next ≡ true
  pub few : length next.volumes ≤ MOST_VOLUMES
  pub small : volume.blocks < 2 ^ 64
  pub on : (p : ℕ) → IsTrue (live_or (slice_get volume.plexes p)) → IsTrue (active_or (slice_get volume.plexes p))
  pub lost : (log : VolumeLog) → used_or (log_in log volume) ≡ false

-- the volume was added, and begins as zeros
pub record Added (c d : Inner) (next : Config) (new : Meaning) : Type 0 where
  pub volumes : d.config.volumes ≡ next.volumes
  pub begins : AreZero d.config (length c.config.volumes) new

abbrev pub Adds : {T E : Type 0} → Inner → Inner → Config → Meaning → Result T E → Type 0
Adds c d next new (Ok x) = Added c d next new
Adds c d next new (Err e) = d.config.volumes ≡ c.config.volumes
