-- The header of a configuration area, as a block.
use Rattle.std.specs.Prelude.{◌≡◌, ℕ, ◌+◌, ◌<◌, ◌≤◌, Bool, ◌&&◌, nat_lt, ◌==◌, bytes_eq, if◌then◌else◌, Option, Some, None, List, [], ◌∷◌, ◌++◌, length}
use Rattle.vx_model.specs.declared.limits.TheConstants.{MOST_CONFIG_BYTES}
use Rattle.vx_model.specs.Numbers.{number_bound}
use Rattle.vx_wire.specs.declared.field.Field.{Field}
use Rattle.vx_wire.specs.declared.field.Field.TheVariants.{U32, U64}
use Rattle.vx_wire.specs.Fields.{spelled}
use Rattle.vx_wire.specs.Numbers.{number_at}
use Rattle.vx_wire.specs.Places.{cut}
use Rattle.vx_wire.specs.Seals.{sealed}
use Rattle.vx_copyfmt.specs.declared.area.AreaHeader.{AreaHeader}

-- the bytes "VXAREA01"
abbrev pub area_magic : ℕ
area_magic = 0x5658415245413031

-- the numbers of an area's header
unfoldable pub area_table : AreaHeader → List Field
area_table h = U64 area_magic ∷ U64 h.serial ∷ U32 h.length ∷ []

-- its fields
unfoldable pub area_fields : AreaHeader → List ℕ
area_fields h = spelled (area_table h) ++ h.digest

-- the one spelling of an area's header
unfoldable pub area_block : AreaHeader → List ℕ
area_block h = sealed (area_fields h)

-- a header that its form can spell
pub record CanSpellArea (h : AreaHeader) : Type 0 where
  pub serial : h.serial < number_bound
  pub some : 0 < h.length
  pub few : h.length ≤ MOST_CONFIG_BYTES

-- its digest is one
pub record IsTypedArea (h : AreaHeader) : Type 0 where
  pub digest : length h.digest ≡ 32

-- the block is the spelling of the header
pub record IsArea (block : List ℕ) (h : AreaHeader) : Type 0 where
  pub can : CanSpellArea h
  pub typed : IsTypedArea h
  pub is : block ≡ area_block h

-- what stands in the places of the fields, whether or not the block is a header
unfoldable pub area_in : List ℕ → AreaHeader
area_in block = record { serial = number_at 8 8 block; length = number_at 4 16 block; digest = cut 20 32 block }

-- the block is the spelling of the header that is read in it
unfoldable pub is_area : List ℕ → AreaHeader → Bool
is_area block h = bytes_eq block (area_block h) && (nat_lt h.serial number_bound && (nat_lt 0 h.length && (nat_lt h.length (MOST_CONFIG_BYTES + 1) && length h.digest == 32)))

-- the header that a block is
unfoldable pub header_of : List ℕ → Option AreaHeader
header_of block = if is_area block (area_in block) then Some (area_in block) else None
