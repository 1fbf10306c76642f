-- Marks that come as the bytes of a map of one volume, and are joined to those of a place of a link.
use Rattle.std.specs.Prelude.{◌≡◌, ℕ, ◌<◌, true, List}
use Rattle.std.specs.Int.{div_ceil}
use Rattle.vx_model.specs.Sizes.{regions_of}
use Rattle.vx_bitmap.specs.Bits.{is_marked}
use Rattle.vx_dcm.specs.Places.{HasMap, Maps, has_mark, mapped_size, region_place}

-- a region that the bytes have, in the map of the volume for a place of a link
pub record IsInBytes (slot v : ℕ) (bytes : List ℕ) (k w q : ℕ) : Type 0 where
  pub place : k ≡ slot
  pub volume : w ≡ v
  pub has : is_marked bytes q ≡ true

-- its place among those of all maps
pub record IsPlaceInBytes (d : Maps) (slot v : ℕ) (bytes : List ℕ) (r : ℕ) : Type 0 where
  pub region : ℕ
  pub inside : region < regions_of (mapped_size d v)
  pub has : is_marked bytes region ≡ true
  pub is : r ≡ region_place d slot v region

-- each region of the volume that the bytes have is marked
pub record BytesMarked (slot v : ℕ) (bytes : List ℕ) (d : Maps) : Type 0 where
  pub each : (q : ℕ) → q < regions_of (mapped_size d v) → is_marked bytes q ≡ true → has_mark d slot v q ≡ true

-- there is such a map, and so many bytes have a bit for each region of its volume, with no byte more
pub record JoinFits (d : Maps) (slot v long : ℕ) : Type 0 where
  pub map : HasMap d slot v
  pub exact : long ≡ div_ceil (regions_of (mapped_size d v)) 8
