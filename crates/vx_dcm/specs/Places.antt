-- Where the map of each place of a link and each volume lies.
use Rattle.std.specs.Prelude.{◌≡◌, ◌⊎◌, ℕ, ◌+◌, ◌-◌, ◌*◌, ◌/◌, ◌%◌, ◌<◌, ◌≤◌, Bool, true, List, length, map, take, slice_index}
use Rattle.std.specs.List.{sum_by}
use Rattle.vx_disk.specs.Maps.{maps_of}
use Rattle.vx_model.specs.Sizes.{map_blocks, regions_of}
use Rattle.vx_model.specs.declared.limits.TheConstants.{BLOCK, LINK_PLACES, MAP_REGIONS, MOST_DATA_VOLUMES, MOST_MAP_BLOCKS}
use Rattle.vx_model.specs.declared.units.Units.{Units}
use Rattle.vx_disk.specs.Shelf.{Image, Meaning}
use Rattle.vx_bitmap.specs.Bits.{AllAre, bit, is_marked}
use Rattle.vx_bitmap.specs.Maps.{Map, MapOn, is_marked_in, regions_mapped}

-- the maps of all places of a link, one after another, and how many blocks each volume has
pub record Maps : Type 0 where
  pub map : Map
  pub sizes : List ℕ

-- how many blocks the maps of volumes of these sizes take
abbrev pub maps_in : List ℕ → ℕ
maps_in sizes = sum_by (λ n. map_blocks n) sizes

-- the blocks of a volume
abbrev pub mapped_size : Maps → ℕ → ℕ
mapped_size d v = slice_index d.sizes v

-- the first block of a map: behind the maps of the places before, and of the volumes before
abbrev pub map_first : List ℕ → ℕ → ℕ → ℕ
map_first sizes slot v = slot * maps_in sizes + maps_in (take v sizes)

-- the place of a region of a map among the regions of all maps
abbrev pub region_place : Maps → ℕ → ℕ → ℕ → ℕ
region_place d slot v r = MAP_REGIONS * map_first d.sizes slot v + r

-- whether a region of a volume is marked for a place of a link
abbrev pub has_mark : Maps → ℕ → ℕ → ℕ → Bool
has_mark d slot v r = is_marked d.map.bytes (region_place d slot v r)

-- there is such a place and volume
pub record HasMap (d : Maps) (slot v : ℕ) : Type 0 where
  pub place : slot < LINK_PLACES
  pub volume : v < length d.sizes

-- and the volume has such a region
pub record HasRegion (d : Maps) (slot v r : ℕ) : Type 0 where
  pub map : HasMap d slot v
  pub region : r < regions_of (mapped_size d v)

-- the places of the regions of all maps of a place of a link, from the first one to the last one
abbrev pub slot_first : Maps → ℕ → ℕ
slot_first d slot = MAP_REGIONS * (slot * maps_in d.sizes)

abbrev pub slot_last : Maps → ℕ → ℕ
slot_last d slot = slot_first d slot + (MAP_REGIONS * maps_in d.sizes - 1)

-- a place of a run, the first and the last included
pub record IsPlaceAmong (first last r : ℕ) : Type 0 where
  pub low : first ≤ r
  pub high : r ≤ last

-- of the regions below a number some of these may have this value, and the others are as they were
pub record SomeChanged (mine : ℕ → Type 0) (value : Bool) (regions : ℕ) (old new : ℕ → Bool) : Type 0 where
  pub each : (r : ℕ) → r < regions → (new r ≡ old r) ⊎ (mine r × (new r ≡ value))

-- an image in a change of the regions of some places: each of them is as it was or changed, and the others are as they were
pub record MapChanging (map : Map) (mine : ℕ → Type 0) (value : Bool) (m : Meaning) (i : Image) : Type 0 where
  pub each : MapOn map m → SomeChanged mine value (regions_mapped map) (is_marked map.bytes) (is_marked_in map i)

-- the place of each region of each map is one of its bits
pub record AllPlaced (d : Maps) : Type 0 where
  pub each : (k w q : ℕ) → HasRegion d k w q → region_place d k w q < regions_mapped d.map

-- a region of a run of a volume, the first and the last included, in the map of a place of a link
pub record IsOfRun (slot v first last k w q : ℕ) : Type 0 where
  pub place : k ≡ slot
  pub volume : w ≡ v
  pub low : first ≤ q
  pub high : q ≤ last

-- a region of a run of a volume in the map of a place of a link that these marks name, place k by bit k
pub record IsOfSlots (marks v first last k w q : ℕ) : Type 0 where
  pub named : bit marks k ≡ true
  pub run : IsOfRun k v first last k w q

-- the same of its place among those of all maps
pub record IsPlaceOfSlots (d : Maps) (marks v first last r : ℕ) : Type 0 where
  pub slot : ℕ
  pub exists : slot < LINK_PLACES
  pub named : bit marks slot ≡ true
  pub among : IsPlaceAmong (region_place d slot v first) (region_place d slot v last) r

-- each of these regions is marked
pub record SlotsMarked (marks v first last : ℕ) (d : Maps) : Type 0 where
  pub each : (k : ℕ) → k < LINK_PLACES → bit marks k ≡ true → AllAre first last true (has_mark d k v)

-- each region of each map is as it was, or it is one of these and has this value
pub record MapsBetween (mine : ℕ → ℕ → ℕ → Type 0) (value : Bool) (old new : Maps) : Type 0 where
  pub each : (k w q : ℕ) → HasRegion old k w q → (has_mark new k w q ≡ has_mark old k w q) ⊎ (mine k w q × (has_mark new k w q ≡ value))

-- each region of each volume has this value in the map of a place of a link
pub record AllOfSlot (slot : ℕ) (value : Bool) (d : Maps) : Type 0 where
  pub each : (w q : ℕ) → HasRegion d slot w q → has_mark d slot w q ≡ value

-- each other region of each map is as it was
pub record OtherMapsSame (slot v r : ℕ) (old new : Maps) : Type 0 where
  pub each : (k w q : ℕ) → HasRegion old k w q → ((k ≡ slot) × (w ≡ v) × (q ≡ r) → ⊥) → has_mark new k w q ≡ has_mark old k w q

-- for each place of a link there is a map of each volume, and the maps are not too many
pub record AreMapsKept (map : Map) (sizes : List ℕ) (stride : ℕ) : Type 0 where
  pub stride_is : stride ≡ maps_in sizes
  pub long : length map.bytes ≡ BLOCK * (LINK_PLACES * stride)
  pub few : LINK_PLACES * stride ≤ MOST_MAP_BLOCKS
  pub volumes : length sizes ≤ MOST_DATA_VOLUMES

-- the map unit and the volumes are units of the shelf, and the map unit has room for a map of each volume for each place of a link
pub record MapsFit (units : Units) (m : Meaning) : Type 0 where
  pub maps_exist : units.maps < m.units
  pub exist : (v : ℕ) → v < length units.vols → slice_index units.vols v < m.units
  pub fit : LINK_PLACES * maps_of units.vols m ≤ m.size units.maps

-- what was read of the map unit
pub record DcmLoaded (units : Units) (m : Meaning) (d : Maps) : Type 0 where
  pub unit : d.map.unit ≡ units.maps
  pub first : d.map.first ≡ 0
  pub long : length d.map.bytes ≡ BLOCK * (LINK_PLACES * maps_of units.vols m)
  pub sizes : d.sizes ≡ map m.size units.vols

-- memory for maps of so many blocks, as callers see it
pub record MapRoom : Type 0 where
  pub blocks : ℕ

-- whole blocks, and not too many
pub record IsMapRoom (bytes : List ℕ) : Type 0 where
  pub whole : length bytes % BLOCK ≡ 0
  pub few : length bytes / BLOCK ≤ MOST_MAP_BLOCKS
