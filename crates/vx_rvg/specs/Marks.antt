-- What marks in the change maps make of a group.
use Rattle.std.specs.Prelude.{◌≡◌, ◌⊎◌, ℕ, zero, suc, ◌+◌, ◌-◌, ◌/◌, ◌%◌, ◌<◌, ◌≤◌, Bool, true, ltb, if◌then◌else◌, List, [], ◌∷◌, length, get_or, Option, Some, None, Result, Ok, Err, IsTrue}
use Rattle.vx_model.specs.Content.{Write, block_of}
use Rattle.vx_model.specs.declared.limits.TheConstants.{MAP_REGIONS, REGION}
use Rattle.vx_model.specs.declared.no.No.{No}
use Rattle.vx_disk.specs.Causes.{BlamesUnit, DeviceCause}
use Rattle.vx_disk.specs.Disks.{Disks}
use Rattle.vx_disk.specs.Moves.{Blocks, Run}
use Rattle.vx_disk.specs.Shelf.{Image, Meaning}
use Rattle.vx_bitmap.specs.Bits.{is_marked}
use Rattle.vx_bitmap.specs.Maps.{map_block_count, regions_mapped}
use Rattle.vx_dcm.specs.Places.{IsPlaceOfSlots, Maps, SlotsMarked, SomeChanged}
use Rattle.vx_rvg.specs.Groups.{core_halted}
use Rattle.vx_rvg.specs.Holdings.{Holding, with_writes}
use Rattle.vx_rvg.specs.Stands.{FoundAs, Stands}
use Rattle.vx_rvg.specs.Views.{Core}

-- the blocks of the map unit that the change maps take
abbrev pub map_run : Core → Blocks
map_run c = Run c.units.maps 0 (map_block_count c.maps.map)

-- whether a region is marked in blocks of maps, by its place among those of all maps
abbrev pub marked_in : List (List ℕ) → ℕ → Bool
marked_in maps r = is_marked (get_or maps (r / MAP_REGIONS) []) (r % MAP_REGIONS)

-- these blocks, of which the first one has this number, with those of a map below its end
abbrev pub blocks_over : (bytes : List ℕ) (count : ℕ) → ℕ → List (List ℕ) → List (List ℕ)
blocks_over bytes count k [] = []
blocks_over bytes count k (x ∷ xs) = (if ltb k count then block_of bytes k else x) ∷ blocks_over bytes count (suc k) xs

-- each block of these change maps is among those that are known
abbrev pub HasAllMaps : Maps → List (List ℕ) → Type 0
HasAllMaps d maps = map_block_count d.map ≤ length maps

-- what a group holds, with other blocks of the map unit
abbrev pub with_blocks_of_maps : List (List ℕ) → Holding → Holding
with_blocks_of_maps maps h = record { low = h.low; writes = h.writes; place = h.place; content = h.content; maps = maps }

-- the same with those of these change maps
abbrev pub with_marks : Maps → Holding → Holding
with_marks d h = with_blocks_of_maps (blocks_over d.map.bytes (map_block_count d.map) 0 h.maps) h

-- Blocks of a map unit with some of the marks of these places changed: each of them is as it was or has this value, each other one is as it
-- was, and so is each block behind the change maps.
pub record MarksBetween (d : Maps) (mine : ℕ → Type 0) (value : Bool) (old new : List (List ℕ)) : Type 0 where
  pub long : length new ≡ length old
  pub rest : (b : ℕ) → map_block_count d.map ≤ b → get_or new b [] ≡ get_or old b []
  pub marks : SomeChanged mine value (regions_mapped d.map) (marked_in old) (marked_in new)

-- Of whatever the group held, with all of its maps: an image in the call has it, with some of the marks of these places changed.
pub record Marking (core : Core) (mine : ℕ → Type 0) (value : Bool) (m : Meaning) (i : Image) : Type 0 where
  pub each : (h : Holding) → Stands core h m → HasAllMaps core.maps h.maps → (maps : List (List ℕ)) × MarksBetween core.maps mine value h.maps maps × FoundAs core i (with_blocks_of_maps maps h)

-- behind the call the group holds what it held with all of its maps, with the marks that it has in memory
pub record Remarks (core after : Core) (old new : Meaning) : Type 0 where
  pub each : (h : Holding) → Stands core h old → HasAllMaps core.maps h.maps → Stands after (with_marks after.maps h) new

-- the marks were changed, or a device call failed
abbrev pub Marks : Core → Meaning → Meaning → Core → Result (Unit {0}) No → Type 0
Marks c old new c' (Ok done) = (c' ≡ record c { maps = c'.maps }) × (IsTrue new.down → ⊥)
Marks c old new c' (Err why) = (c' ≡ core_halted why (record c { maps = c'.maps })) × DeviceCause old new why

abbrev pub MarkIs : Option No → Core → Meaning → Meaning → Core → Result (Unit {0}) No → Type 0
MarkIs (Some why) c old new c' result = (result ≡ Err why) × (c' ≡ c)
MarkIs None c old new c' result = Marks c old new c' result

-- ---- a write whose regions are marked first

-- what is said of a write by whether marks name a place of a link: none, or some
abbrev pub ByMarks : ℕ → Type 0 → Type 0 → Type 0
ByMarks zero A B = A
ByMarks (suc n) A B = B

-- the first and the last region of a write
abbrev pub write_first : ℕ → ℕ
write_first start = start / REGION

abbrev pub write_last : (start count : ℕ) → ℕ
write_last start count = (start + count - 1) / REGION

-- the places of its regions in the maps of the places of a link that these marks name
abbrev pub write_places : Core → (marks vol start count : ℕ) → ℕ → Type 0
write_places c marks vol start count = IsPlaceOfSlots c.maps marks vol (write_first start) (write_last start count)

-- all of its regions are marked there
abbrev pub WriteMarked : Core → (marks vol start count : ℕ) → Type 0
WriteMarked c marks vol start count = SlotsMarked marks vol (write_first start) (write_last start count) c.maps

-- each of these places is marked in blocks of maps
pub record AllMarkedIn (d : Maps) (mine : ℕ → Type 0) (maps : List (List ℕ)) : Type 0 where
  pub each : (r : ℕ) → r < regions_mapped d.map → mine r → marked_in maps r ≡ true

-- Of whatever the group held, with all of its maps: an image in the call has it with some of these places marked. It has the write behind the others only where
-- all of them are.
pub record MarkedWriting (core : Core) (mine : ℕ → Type 0) (x : Write) (m : Meaning) (i : Image) : Type 0 where
  pub each : (h : Holding) → Stands core h m → HasAllMaps core.maps h.maps
      → (maps : List (List ℕ)) × MarksBetween core.maps mine true h.maps maps
      × (FoundAs core i (with_blocks_of_maps maps h) ⊎ (AllMarkedIn core.maps mine maps × FoundAs core i (with_writes (x ∷ []) (with_blocks_of_maps maps h))))

-- a refused call names the disk of the change maps or that of the log
abbrev pub BlamesMarkedWrite : Option Disks → Core → No → Type 0
BlamesMarkedWrite disks c why = BlamesUnit disks c.units.maps why ⊎ BlamesUnit disks c.log.unit why
