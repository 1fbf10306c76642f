-- The rows of the table.
use Rattle.std.proofs.Common.{◌≡◌, ◌≤◌, ℕ, true, ◌+◌, ◌^◌, ◌<◌, List, [], ◌∷◌, ◌++◌, length, refl, ap, sym, ◌∙◌, arith}
use Rattle.std.specs.Prelude.{nat_lt, IsTrue}
use Rattle.std.proofs.lemmas.List.{length-append}
use Rattle.std.proofs.lemmas.Bool.{lt-ltb}
use Rattle.vx_wire.specs.Fields.{spelled, field_bytes}
use Rattle.vx_wire.specs.declared.field.Field.{Field}
use Rattle.vx_wire.specs.declared.field.Field.TheVariants.{U8, U16, U32, U64}
use Rattle.vx_wire.proofs.NumberLemmas.{length-be_bytes}
use Rattle.vx_packet.specs.Messages.{row, payload_of, CanSpellMessage, IsTyped, Row}
use Rattle.vx_packet.specs.Packets.{fits_kind}
use Rattle.vx_packet.specs.Rows.{numbers_list, IsRow}
use Rattle.vx_packet.specs.declared.message.Message.{Message}
use Rattle.vx_packet.specs.declared.message.Message.TheVariants.{Hello, Update, NetAck, DataAck, ReplayStart, Region, RegionsDone, RegionAck, Fork, ForkMap, Handover, Trim}
use Rattle.vx_packet.specs.declared.row.Numbers.{Numbers}
use Rattle.vx_packet.specs.declared.row.Numbers.TheVariants as numbers
use Rattle.vx_packet.specs.declared.row.Row.{Row as RowValue}

length-field_bytes : (f : Field) → length (field_bytes f) ≤ 8
length-field_bytes (U8 n) = omega (arith, length-be_bytes 1 n)
length-field_bytes (U16 n) = omega (arith, length-be_bytes 2 n)
length-field_bytes (U32 n) = omega (arith, length-be_bytes 4 n)
length-field_bytes (U64 n) = omega (arith, length-be_bytes 8 n)

length-spelled : (f : Field) (fs : List Field) → length (spelled (f ∷ fs)) ≤ 8 + length (spelled fs)
unfolding spelled
length-spelled f fs = omega (arith, length-append (field_bytes f) (spelled fs), length-field_bytes f)

length-nothing : length (spelled []) ≡ 0
unfolding spelled
length-nothing = refl

-- three numbers are at most 24 bytes
pub length-numbers : (n : Numbers) → length (spelled (numbers_list n)) ≤ 24
length-numbers numbers.None = omega (arith, length-nothing)
length-numbers (numbers.One a) = omega (arith, length-spelled a [], length-nothing)
length-numbers (numbers.Two a b) = omega (arith, length-spelled a (b ∷ []), length-spelled b [], length-nothing)
length-numbers (numbers.Three a b c) = omega (arith, length-spelled a (b ∷ c ∷ []), length-spelled b (c ∷ []), length-spelled c [], length-nothing)

-- the two runs of a row are the payload
pub payload-row : (found : RowValue) (m : Message) (front : List ℕ) → IsRow found (row m) → front ≡ spelled (numbers_list found.numbers) → front ++ found.bytes.now ≡ payload_of m
unfolding payload_of
payload-row found m front is same =
    ap (λ (t : List ℕ). t ++ found.bytes.now) (same ∙ ap spelled is.numbers) ∙ ap (λ (t : List ℕ). spelled (row m).numbers ++ t) is.bytes

pub lt_true : (a b : ℕ) → a < b → nat_lt a b ≡ true
lt_true a b h = lt-ltb a b h

-- the fields of a message's header are those of its kind
pub fits-row : (m : Message) → CanSpellMessage m → IsTrue (fits_kind (row m).kind (row m).session (row m).number)
fits-row (Hello session number stored) can = rw (lt_true session (2 ^ 63) can.0, lt_true number (2 ^ 63) can.1) refl
fits-row (Update number vol block bytes) can = rw (lt_true number (2 ^ 63) can.0) refl
fits-row (NetAck session number) can = rw (lt_true session (2 ^ 63) can.0, lt_true number (2 ^ 63) can.1) refl
fits-row (DataAck number) can = rw (lt_true number (2 ^ 63) can) refl
fits-row (ReplayStart id start) can = rw (lt_true id (2 ^ 63) can.0) refl
fits-row (Region id vol region bytes) can = rw (lt_true id (2 ^ 63) can.0) refl
fits-row (RegionsDone id start end) can = rw (lt_true id (2 ^ 63) can.0) refl
fits-row (RegionAck id vol region kind) can = rw (lt_true id (2 ^ 63) can.0) refl
fits-row (Fork fork parent) can = rw (lt_true fork (2 ^ 63) can.0) refl
fits-row (ForkMap vol regions bytes) can = refl
fits-row (Handover head) can = rw (lt_true head (2 ^ 63) can) refl
fits-row (Trim number) can = rw (lt_true number (2 ^ 63) can) refl

-- and of their types
pub record IsTypedRow (r : Row) : Type 0 where
  pub kind : r.kind < 2 ^ 8
  pub session : r.session < 2 ^ 64
  pub number : r.number < 2 ^ 64

pub typed-row : (m : Message) → CanSpellMessage m → IsTyped m → IsTypedRow (row m)
typed-row (Hello session number stored) can typed = record { kind = omega arith; session = omega (arith, can.0); number = omega (arith, can.1) }
typed-row (Update number vol block bytes) can typed = record { kind = omega arith; session = omega arith; number = omega (arith, can.0) }
typed-row (NetAck session number) can typed = record { kind = omega arith; session = omega (arith, can.0); number = omega (arith, can.1) }
typed-row (DataAck number) can typed = record { kind = omega arith; session = omega arith; number = omega (arith, can) }
typed-row (ReplayStart id start) can typed = record { kind = omega arith; session = omega arith; number = omega (arith, can.0) }
typed-row (Region id vol region bytes) can typed = record { kind = omega arith; session = omega (arith, typed.0, typed.1); number = omega (arith, can.0) }
typed-row (RegionsDone id start end) can typed = record { kind = omega arith; session = omega arith; number = omega (arith, can.0) }
typed-row (RegionAck id vol region kind) can typed = record { kind = omega arith; session = omega (arith, typed.0, typed.1); number = omega (arith, can.0) }
typed-row (Fork fork parent) can typed = record { kind = omega arith; session = omega arith; number = omega (arith, can.0) }
typed-row (ForkMap vol regions bytes) can typed = record { kind = omega arith; session = omega arith; number = omega (arith, typed.0) }
typed-row (Handover head) can typed = record { kind = omega arith; session = omega arith; number = omega (arith, can) }
typed-row (Trim number) can typed = record { kind = omega arith; session = omega arith; number = omega (arith, can) }

-- how many bytes a payload has
pub length-payload : (found : RowValue) (m : Message) (n : ℕ) → IsRow found (row m) → n ≡ length (spelled (numbers_list found.numbers)) → n + length found.bytes.now ≡ length (payload_of m)
length-payload found m n is same =
    omega (arith, ap length (sym (payload-row found m (spelled (numbers_list found.numbers)) is refl)), length-append (spelled (numbers_list found.numbers)) found.bytes.now)
