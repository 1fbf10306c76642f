-- What a block of a log is, each block one thing.
use Rattle.std.specs.Prelude.{◌≡◌, ℕ, ◌^◌, Bool, ◌&&◌, not, nat_lt, ◌==◌, if◌then◌else◌, List, [], ◌∷◌, length, ◌-◌, take, drop, slice_index, bytes_eq}
use Rattle.std.specs.List.{list_all}
use Rattle.vx_model.specs.declared.limits.TheConstants.{MOST_CALL_BLOCKS}
use Rattle.vx_model.specs.Numbers.{number_bound}
use Rattle.vx_model.specs.declared.state.KeptLink.{KeptLink}
use Rattle.vx_wire.specs.Fields.{zero_bytes}
use Rattle.vx_wire.specs.Numbers.{be_bytes}
use Rattle.vx_wire.specs.Seals.{digest_of}
use Rattle.vx_srlfmt.specs.HeaderReading.{header_in}
use Rattle.vx_srlfmt.specs.Headers.{header_block, IsHeader}
use Rattle.vx_srlfmt.specs.RecordReading.{head_in}
use Rattle.vx_srlfmt.specs.Records.{record_magic, record_block, IsRecord, IsDamaged}
use Rattle.vx_srlfmt.specs.declared.header.Header.{Header}
use Rattle.vx_srlfmt.specs.declared.record.RecordHead.{RecordHead}

-- a header, the header of a record, a block of a record's body, a damaged header of a record, or none of these
pub data Kind : Type 0 where
  Top : Header → Kind
  Front : RecordHead → Kind
  Body : List ℕ → Kind
  Damaged : Kind
  Other : Kind

-- the first byte of a body block on disk
abbrev pub body_byte : ℕ
body_byte = 0x42

-- a block of a record's body
abbrev pub IsBody : List ℕ → Type 0
IsBody block = slice_index block 0 ≡ body_byte

-- each number is below the one beside it
abbrev pub all_below : List (ℕ × ℕ) → Bool
all_below pairs = list_all (λ p. nat_lt p.0 p.1) pairs

abbrev pub link_bounds : KeptLink → List (ℕ × ℕ)
link_bounds l = (l.site, 2 ^ 32) ∷ (l.stored, number_bound) ∷ (l.start, number_bound) ∷ []

abbrev pub header_bounds : Header → List (ℕ × ℕ)
header_bounds h =
    (h.stamp, number_bound)
    ∷ (h.state.line.generation, number_bound)
    ∷ (h.state.line.origin, 2 ^ 32)
    ∷ (h.state.top, number_bound)
    ∷ (h.incarnation, number_bound)
    ∷ (h.floor, number_bound)
    ∷ (h.run, number_bound)
    ∷ (h.low, number_bound)
    ∷ (h.place, 2 ^ 32)
    ∷ (h.applied, number_bound)
    ∷ (h.state.replay, number_bound)
    ∷ (h.state.end, number_bound)
    ∷ (h.state.other, 2 ^ 32)
    ∷ (h.state.parent.generation, number_bound)
    ∷ (h.state.parent.origin, 2 ^ 32)
    ∷ (h.state.fork, number_bound)
    ∷ []

abbrev pub head_bounds : RecordHead → List (ℕ × ℕ)
head_bounds r =
    (r.incarnation, number_bound)
    ∷ (r.run, number_bound)
    ∷ (r.line.generation, number_bound)
    ∷ (r.line.origin, 2 ^ 32)
    ∷ (r.number, number_bound)
    ∷ (r.vol, 2 ^ 32)
    ∷ (r.block, 2 ^ 64)
    ∷ (0, r.count)
    ∷ (r.count, 17)
    ∷ []

-- the block is the spelling of the header that is read in it
unfoldable pub is_header : List ℕ → Header → Bool
is_header block h = bytes_eq block (header_block h) && (all_below (header_bounds h) && list_all (λ l. all_below (link_bounds l)) h.state.links)

-- the block is the spelling of the record header that is read in it
unfoldable pub is_record : List ℕ → RecordHead → Bool
is_record block r = bytes_eq block (record_block r) && (all_below (head_bounds r) && (bytes_eq (drop r.count r.firsts) (zero_bytes (MOST_CALL_BLOCKS - r.count)) && (length r.digest == 32 && length r.firsts == MOST_CALL_BLOCKS)))

unfoldable pub is_sealed : List ℕ → Bool
is_sealed block = bytes_eq (drop 480 block) (digest_of (take 480 block))

unfoldable pub begins_record : List ℕ → Bool
begins_record block = bytes_eq (take 8 block) (be_bytes 8 record_magic)

-- what the block is
unfoldable pub kind_of : List ℕ → Kind
kind_of block =
    if is_header block (header_in block) then Top (header_in block)
    else if is_record block (head_in block) then Front (head_in block)
    else if begins_record block && not (is_sealed block) then Damaged
    else if slice_index block 0 == body_byte then Body block
    else Other

-- the block is of this kind
abbrev pub IsKind : List ℕ → Kind → Type 0
IsKind block (Top h) = IsHeader block h
IsKind block (Front r) = IsRecord block r
IsKind block (Body bytes) = IsBody block × (bytes ≡ block)
IsKind block Damaged = IsDamaged block
IsKind block Other =
    ((h : Header) → IsHeader block h → ⊥) × ((r : RecordHead) → IsRecord block r → ⊥) × (IsBody block → ⊥) × (IsDamaged block → ⊥)
