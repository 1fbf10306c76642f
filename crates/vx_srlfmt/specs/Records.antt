-- The header of a record, as a block.
use Rattle.std.specs.Prelude.{◌≡◌, ℕ, ◌-◌, ◌<◌, ◌≤◌, ◌^◌, List, [], ◌∷◌, ◌++◌, length, take, drop}
use Rattle.vx_model.specs.declared.limits.TheConstants.{MOST_CALL_BLOCKS}
use Rattle.vx_model.specs.Numbers.{number_bound}
use Rattle.vx_wire.specs.declared.field.Field.{Field}
use Rattle.vx_wire.specs.declared.field.Field.TheVariants.{U32, U64}
use Rattle.vx_wire.specs.Fields.{spelled, zero_bytes}
use Rattle.vx_wire.specs.Numbers.{be_bytes}
use Rattle.vx_wire.specs.Seals.{sealed, digest_of, IsSealed}
use Rattle.vx_srlfmt.specs.declared.record.RecordHead.{RecordHead}
use Rattle.vx_srlfmt.specs.declared.record.Seen.{Seen}
use Rattle.vx_srlfmt.specs.declared.record.Seen.TheVariants as seen

-- the bytes "VXSRLR01"
abbrev pub record_magic : ℕ
record_magic = 0x565853524c523031

-- the numbers of a record header
unfoldable pub record_table : RecordHead → List Field
record_table r =
    U64 record_magic
    ∷ U64 r.incarnation
    ∷ U64 r.run
    ∷ U64 r.line.generation
    ∷ U32 r.line.origin
    ∷ U64 r.number
    ∷ U32 r.vol
    ∷ U64 r.block
    ∷ U32 r.count
    ∷ []

-- its fields
unfoldable pub record_fields : RecordHead → List ℕ
record_fields r = spelled (record_table r) ++ (r.digest ++ r.firsts)

-- the one spelling of a record header
unfoldable pub record_block : RecordHead → List ℕ
record_block r = sealed (record_fields r)

-- a record header that its form can spell
pub record CanSpellHead (r : RecordHead) : Type 0 where
  pub incarnation : r.incarnation < number_bound
  pub run : r.run < number_bound
  pub generation : r.line.generation < number_bound
  pub number : r.number < number_bound
  pub some : 0 < r.count
  pub few : r.count ≤ MOST_CALL_BLOCKS
  pub firsts : drop r.count r.firsts ≡ zero_bytes (MOST_CALL_BLOCKS - r.count)

-- its fields are of their types
pub record IsTypedHead (r : RecordHead) : Type 0 where
  pub origin : r.line.origin < 2 ^ 32
  pub vol : r.vol < 2 ^ 32
  pub block : r.block < 2 ^ 64
  pub digest : length r.digest ≡ 32
  pub firsts : length r.firsts ≡ MOST_CALL_BLOCKS

-- the block is the spelling of the record header
pub record IsRecord (block : List ℕ) (r : RecordHead) : Type 0 where
  pub can : CanSpellHead r
  pub typed : IsTypedHead r
  pub is : block ≡ record_block r

-- the block begins as a record header does, and its digest fails
pub record IsDamaged (block : List ℕ) : Type 0 where
  pub begins : take 8 block ≡ be_bytes 8 record_magic
  pub broken : IsSealed block → ⊥

-- both digests of a damaged block
pub record HasDigests (block found wanted : List ℕ) : Type 0 where
  pub damaged : IsDamaged block
  pub stored : found ≡ drop 480 block
  pub computed : wanted ≡ digest_of (take 480 block)

-- what a block is as a record header
abbrev pub IsSeen : List ℕ → Seen → Type 0
IsSeen block (seen.Record r) = IsRecord block r
IsSeen block (seen.Damaged stored computed) = HasDigests block stored computed
IsSeen block seen.Other = ((r : RecordHead) → IsRecord block r → ⊥) × (IsDamaged block → ⊥)
