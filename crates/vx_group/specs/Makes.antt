-- A volume that is made.
use Rattle.std.specs.Prelude.{◌≡◌, ◌⊎◌, ℕ, ◌+◌, ◌-◌, ◌<◌, ◌≤◌, Bool, true, false, not, ◌&&◌, ◌||◌, ◌==◌, nat_le, nat_lt, if◌then◌else◌, IsTrue, Option, Some, None, Result, Ok, Err, List, [], ◌∷◌, ◌++◌, length}
use Rattle.std.specs.List.{list_all, list_any}
use Rattle.std.specs.Str.{bytes_eq}
use Rattle.vx_disk.specs.Causes.{DeviceCause}
use Rattle.vx_disk.specs.Moves.{Anything}
use Rattle.vx_disk.specs.Shelf.{Goes, Meaning, Nothing}
use Rattle.vx_wire.specs.Fields.{zero_bytes}
use Rattle.vx_model.specs.declared.errors.Stop.{Stop}
use Rattle.vx_model.specs.declared.errors.Stop.TheVariants.{No as Refused, OutOfMemory}
use Rattle.vx_model.specs.declared.limits.TheConstants.{BLOCK, MOST_COLUMNS, MOST_PLEXES, MOST_SUBDISKS, MOST_VOLUMES, MOST_VOLUME_BLOCKS}
use Rattle.vx_model.specs.declared.no.Counted.TheVariants.{Number, Plexes, Subdisks, Volumes}
use Rattle.vx_model.specs.declared.no.No.{No}
use Rattle.vx_model.specs.declared.no.No.TheVariants as refusal
use Rattle.vx_config.specs.Checks.{is_sound}
use Rattle.vx_config.specs.Configs.{subdisk_count}
use Rattle.vx_config.specs.Table.{greatest}
use Rattle.vx_config.specs.declared.config.Config.{Config}
use Rattle.vx_config.specs.declared.entry.LogEntry.{LogEntry}
use Rattle.vx_config.specs.declared.entry.Subdisk.{Subdisk}
use Rattle.vx_config.specs.declared.entry.VolumeEntry.{VolumeEntry}
use Rattle.vx_config.specs.declared.entry.VolumeLog.{VolumeLog}
use Rattle.vx_layout.specs.Made.{IsVolumeMade, with_volume}
use Rattle.vx_layout.specs.Places.{place}
use Rattle.vx_layout.specs.Space.{IsFound, IsSpaceShort}
use Rattle.vx_layout.specs.declared.shape.Found.{Found}
use Rattle.vx_layout.specs.declared.shape.Shape.{Shape}
use Rattle.vx_volume.specs.Plexes.{Inside, active}
use Rattle.vx_kept.specs.Groups.{group_meaning}
use Rattle.vx_kept.specs.Keeping.{Acts, Extends}
use Rattle.vx_maplog.specs.Logs.{log_in, used_or}
use Rattle.vx_group.specs.Dets.{margin}
use Rattle.vx_group.specs.Stands.{volume_faults, inner_meaning}
use Rattle.vx_group.specs.declared.inner.Inner.{Inner}

-- ---- refusals

abbrev pub has_name : List ℕ → VolumeEntry → Bool
has_name name v = bytes_eq v.name name

-- 1 to 2^40 blocks, at least one plex, and 1 to 8 columns, of which there is one where the plexes are concatenated
abbrev pub is_shape : Shape → Bool
is_shape want = nat_le 1 want.blocks && nat_le want.blocks MOST_VOLUME_BLOCKS && nat_le 1 want.mirrors && nat_le 1 want.ncol && nat_le want.ncol MOST_COLUMNS && (not (want.width == 0) || want.ncol == 1)

-- The first refusal that holds before the search for space: the name is taken, there are too many volumes, plexes or serials, it is no shape.
abbrev pub make_refusal : Config → List ℕ → Shape → Option No
make_refusal c name want =
    if list_any (has_name name) c.volumes then Some (refusal.Exists name) else
    (if nat_le MOST_VOLUMES (length c.volumes) then Some (refusal.Limit Volumes MOST_VOLUMES) else
    (if nat_lt MOST_PLEXES want.mirrors then Some (refusal.Limit Plexes MOST_PLEXES) else
    (if nat_lt (greatest - margin) c.serial then Some (refusal.Limit Number greatest) else
    (if not (is_shape want) then Some refusal.Size else None))))

-- ---- the volume

-- so many logs are wanted
abbrev pub log_count : Shape → ℕ
log_count want = (if want.drl then 1 else 0) + (if want.fmr then 1 else 0)

-- a log of which the maps are not kept yet
abbrev pub lost_log : Option Subdisk → Option LogEntry
lost_log None = None
lost_log (Some s) = Some (record { lost = true; disk = s.disk; start = s.start; blocks = s.blocks })

-- a plex of more runs has no spelling
abbrev pub is_few : List Subdisk → Bool
is_few ss = nat_le (length ss) 255

-- this volume has the space that was found, and its name; its logs are held as lost
pub record IsVolume (name : List ℕ) (want : Shape) (found : Found) (v : VolumeEntry) : Type 0 where
  pub made : IsVolumeMade want found v
  pub named : v.name ≡ name
  pub lost : (log : VolumeLog) → used_or (log_in log v) ≡ false

-- the space that was found has too many runs
pub record HasMany (c : Config) (name : List ℕ) (want : Shape) : Type 0 where
  pub found : Found
  pub space : IsFound c want found
  pub many : (list_all is_few found.plexes.items ≡ false) ⊎ ((v : VolumeEntry) × IsVolume name want found v × (MOST_SUBDISKS < subdisk_count (with_volume c v)))

-- ---- zeros

-- a block of zeros at a place of the volume's plexes that are ACTIVE
pub record ZerosOn (c : Config) (v u b : ℕ) (x : List ℕ) : Type 0 where
  pub plex : ℕ
  pub number : ℕ
  pub is_on : IsTrue (active c v plex)
  pub inside : Inside c v number
  pub at : place c v plex number ≡ (u, b)
  pub value : x ≡ zero_bytes BLOCK

-- a part of the run was written, and elsewhere each plex reads what it read
pub record ZeroRun (c : Config) (v first count : ℕ) (old new : Meaning) : Type 0 where
  pub each : (p k : ℕ) (x : List ℕ) → IsTrue (active c v p) → Inside c v k → new.reads (place c v p k).0 (place c v p k).1 x
      → ((first ≤ k) × (k < first + count) × (x ≡ zero_bytes BLOCK)) ⊎ ((first ≤ k → k < first + count → ⊥) × old.reads (place c v p k).0 (place c v p k).1 x)

-- the blocks below this one read as zeros
pub record ZeroBelow (c : Config) (v count : ℕ) (m : Meaning) : Type 0 where
  pub each : (p k : ℕ) (x : List ℕ) → IsTrue (active c v p) → Inside c v k → k < count → m.reads (place c v p k).0 (place c v p k).1 x → x ≡ zero_bytes BLOCK

-- so it is behind the first calls
pub record ZeroLoop (c : Config) (v count blocks : ℕ) (old m : Meaning) : Type 0 where
  pub up : IsTrue m.down → ⊥
  pub few : count ≤ blocks
  pub goes : Goes (ZerosOn c v) old m
  pub below : ZeroBelow c v count m

-- a crash leaves zeros in each block of each plex
pub record AreZero (c : Config) (v : ℕ) (m : Meaning) : Type 0 where
  pub each : (p k : ℕ) (x : List ℕ) → IsTrue (active c v p) → Inside c v k → m.leaves (place c v p k).0 (place c v p k).1 x → x ≡ zero_bytes BLOCK

-- ---- what is left alone

-- The volumes that stood read as before, and their images are those of before; so are their plexes, and what is counted of them.
pub record StayAsWere (c d : Inner) (old new : Meaning) : Type 0 where
  pub goes : Goes Nothing (inner_meaning c old) (group_meaning c.config (volume_faults d.faults) new)
  pub shape : Extends d.config c.config
  pub on : (v p : ℕ) → v < length c.config.volumes → active d.config v p ≡ active c.config v p
  pub faults : d.faults ≡ c.faults
  pub unsure : d.unsure ≡ c.unsure

-- A volume more was begun behind those of a configuration: beside the configuration areas only zeros on its plexes were written.
pub record BeginsVolume (c : Config) (old new : Meaning) : Type 0 where
  pub next : Config
  pub volume : VolumeEntry
  pub is : next.volumes ≡ c.volumes ++ (volume ∷ [])
  pub sound : is_sound next ≡ true
  pub acts : Acts (ZerosOn next (length c.volumes)) Anything old new

-- beside the configuration areas nothing was written, or a volume more was begun
abbrev pub MakesBeside : Config → Meaning → Meaning → Type 0
MakesBeside c old new = Acts Nothing Anything old new ⊎ BeginsVolume c old new

-- a volume was made, which begins as zeros
pub record VolumeMade (name : List ℕ) (want : Shape) (vol : ℕ) (c d : Inner) (new : Meaning) : Type 0 where
  pub number : vol ≡ length c.config.volumes
  pub found : Found
  pub space : IsFound c.config want found
  pub volume : VolumeEntry
  pub is_volume : IsVolume name want found volume
  pub volumes : d.config.volumes ≡ c.config.volumes ++ (volume ∷ [])
  pub begins : AreZero d.config vol new

-- why none was made
abbrev pub MakeStops : Config → List ℕ → Shape → Meaning → Meaning → No → Type 0
MakeStops c name want old new (refusal.Space need have) = IsSpaceShort c want need have
MakeStops c name want old new (refusal.Limit Subdisks most) = HasMany c name want × (most ≡ MOST_SUBDISKS)
MakeStops c name want old new other = DeviceCause old new other

-- how the making of a volume ends
abbrev pub MakeEnds : List ℕ → Shape → Inner → Inner → Meaning → Meaning → Result ℕ Stop → Type 0
MakeEnds name want c d old new (Ok vol) = VolumeMade name want vol c d new
MakeEnds name want c d old new (Err (Refused why)) = (d.config.volumes ≡ c.config.volumes) × MakeStops c.config name want old new why
MakeEnds name want c d old new (Err OutOfMemory) = d.config.volumes ≡ c.config.volumes

-- where no device call failed nothing has changed
abbrev pub Unmoved : {T : Type 0} → Result T Stop → Type 0 → Type 0
Unmoved (Ok x) same = Unit {0}
Unmoved (Err (Refused (refusal.Device disk))) same = Unit {0}
Unmoved (Err (Refused refusal.Down)) same = Unit {0}
Unmoved (Err stop) same = same
