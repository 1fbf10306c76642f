-- A map of regions in a run of blocks.
use Rattle.std.specs.Prelude.{◌≡◌, ℕ, ◌+◌, ◌*◌, ◌/◌, ◌%◌, ◌==◌, ◌<◌, ◌≤◌, Bool, IsTrue, if◌then◌else◌, List, length, Result, Ok, Err}
use Rattle.std.specs.Int.{div_ceil}
use Rattle.vx_model.specs.declared.errors.Stop.{Stop}
use Rattle.vx_model.specs.declared.errors.Stop.TheVariants.{No as Refused, OutOfMemory}
use Rattle.vx_model.specs.declared.limits.TheConstants.{BLOCK, MAP_REGIONS}
use Rattle.vx_model.specs.declared.no.No.{No}
use Rattle.vx_model.specs.declared.no.No.TheVariants.{Device}
use Rattle.vx_disk.specs.Causes.{DeviceCause}
use Rattle.vx_disk.specs.Counts.{Rose}
use Rattle.vx_model.specs.Content.{block_of}
use Rattle.vx_disk.specs.Moves.{Run}
use Rattle.vx_disk.specs.Shelf.{Meaning, Image, Keeps}
use Rattle.vx_disk.specs.declared.shelf.ShelfError.{ShelfError}
use Rattle.vx_disk.specs.declared.shelf.ShelfError.TheVariants.{Fault}
use Rattle.vx_bitmap.specs.Bits.{Between, is_marked}

-- where a map stands, and its bytes
pub record Map : Type 0 where
  pub unit : ℕ
  pub first : ℕ
  pub bytes : List ℕ

-- how many blocks it has, and how many regions these have bits for
abbrev pub map_block_count : Map → ℕ
map_block_count map = length map.bytes / BLOCK

abbrev pub regions_mapped : Map → ℕ
regions_mapped map = 8 * length map.bytes

-- its blocks are there
pub record Lies (map : Map) (m : Meaning) : Type 0 where
  pub exists : map.unit < m.units
  pub within : map.first + map_block_count map ≤ m.size map.unit

-- whatever a crash leaves, its blocks hold it
pub record MapOn (map : Map) (m : Meaning) : Type 0 where
  pub each : (k : ℕ) → k < map_block_count map → Keeps m map.unit (map.first + k) (block_of map.bytes k)

-- whether an image has a region marked
abbrev pub is_marked_in : Map → Image → ℕ → Bool
is_marked_in map i r = is_marked (i map.unit (map.first + r / MAP_REGIONS)) (r % MAP_REGIONS)

-- an image in a change of a run of regions: each of them is as it was or changed, and the others are as they were
pub record Changing (map : Map) (start end : ℕ) (value : Bool) (m : Meaning) (i : Image) : Type 0 where
  pub each : MapOn map m → Between start end value (regions_mapped map) (is_marked map.bytes) (is_marked_in map i)

-- the marks of a map of which this block has another value
abbrev pub marks_with : Map → ℕ → List ℕ → ℕ → Bool
marks_with map b x r = if map.first + r / MAP_REGIONS == b then is_marked x (r % MAP_REGIONS) else is_marked map.bytes r

-- a value of a block of a map in such a change: each region of the run in this block is as it was or changed, and the others are as they were
pub record ChangedAt (map : Map) (start end : ℕ) (value : Bool) (m : Meaning) (u b : ℕ) (x : List ℕ) : Type 0 where
  pub run : Run map.unit map.first (map_block_count map) u b
  pub so : MapOn map m → Between start end value (regions_mapped map) (is_marked map.bytes) (marks_with map b x)

-- the map of so many regions, from this block on
pub record Loaded (unit first regions : ℕ) (map : Map) : Type 0 where
  pub there : map.unit ≡ unit
  pub begins : map.first ≡ first
  pub long : length map.bytes ≡ BLOCK * div_ceil regions MAP_REGIONS

-- the same of a map of so many bytes
pub record LoadedIn (unit first count : ℕ) (map : Map) : Type 0 where
  pub there : map.unit ≡ unit
  pub begins : map.first ≡ first
  pub long : length map.bytes ≡ count

-- each block of it is one that a read may give
pub record IsRead (map : Map) (m : Meaning) : Type 0 where
  pub each : IsTrue m.tells → (k : ℕ) → k < map_block_count map → m.reads map.unit (map.first + k) (block_of map.bytes k)

-- it stands where it stood, with as many blocks
pub record SamePlace (old new : Map) : Type 0 where
  pub unit : new.unit ≡ old.unit
  pub first : new.first ≡ old.first
  pub long : length new.bytes ≡ length old.bytes

-- a map was not read: a disk failed, or memory ran out
abbrev pub LoadCause : Meaning → Meaning → Stop → Type 0
LoadCause old new (Refused (Device disk)) = DeviceCause old new (Device disk)
LoadCause old new (Refused other) = ⊥
LoadCause old new OutOfMemory = Unit {0}

-- A change of a map leaves the shelf up, but behind refusal 6; refusal 7 comes only where the count of the map's unit rose.
abbrev pub UnitCause : {T : Type 0} → ℕ → Meaning → Meaning → Result T No → Type 0
UnitCause unit old new (Ok x) = IsTrue new.down → IsTrue old.down
UnitCause unit old new (Err (Device disk)) = Rose (old.faults unit) (new.faults unit) × (IsTrue new.down → ⊥)
UnitCause unit old new (Err other) = Unit {0}

-- the same of the device calls below it
abbrev pub ShelfCause : {T : Type 0} → ℕ → Meaning → Meaning → Result T ShelfError → Type 0
ShelfCause unit old new (Ok x) = IsTrue new.down → IsTrue old.down
ShelfCause unit old new (Err (Fault disk)) = Rose (old.faults unit) (new.faults unit) × (IsTrue new.down → ⊥)
ShelfCause unit old new (Err other) = Unit {0}
