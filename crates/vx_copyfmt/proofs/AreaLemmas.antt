-- An area's header that is spelled is read again.
use Rattle.std.proofs.Common.{◌≡◌, ◌≤◌, ℕ, ◌-◌, ◌^◌, ◌<◌, Bool, true, false, ◌&&◌, Some, None, List, [], ◌∷◌, ◌++◌, length, take, drop, refl, ap, sym, subst, append_assoc, ◌∙◌, arith}
use Rattle.std.specs.Prelude.{nat_lt, ◌==◌, bytes_eq, if◌then◌else◌}
use Rattle.std.proofs.lemmas.Bool.{and_parts, and_from, ltb-true, lt-ltb, eqb-true, eq-eqb, false_from_ne_true}
use Rattle.std.proofs.lemmas.List.{drop_at, take_at, length-append}
use Rattle.vx_wire.specs.Fields.{spelled, zero_bytes}
use Rattle.vx_wire.specs.Numbers.{be_bytes, number_at}
use Rattle.vx_wire.specs.Places.{cut}
use Rattle.vx_wire.specs.Seals.{sealed, filled, digest_of, IsSealed}
use Rattle.vx_wire.proofs.NumberLemmas.{reads_back}
use Rattle.vx_wire.proofs.SealLemmas.{take-sealed, IsSealed-sealed, length-sealed, alike, same_bytes}
use Rattle.vx_copyfmt.specs.Areas.{area_table, area_fields, area_block, CanSpellArea, IsTypedArea, IsArea, area_in, is_area, header_of}
use Rattle.vx_copyfmt.specs.declared.area.AreaHeader.{AreaHeader}

pub length-area_table : (h : AreaHeader) → length (spelled (area_table h)) ≡ 20
unfolding spelled be_bytes area_table
length-area_table h = refl

pub length-area_fields : (h : AreaHeader) → IsTypedArea h → length (area_fields h) ≡ 52
unfolding area_fields
length-area_fields h typed = omega (arith, length-append (spelled (area_table h)) h.digest, length-area_table h, typed.digest)

-- the numbers of a header
record HasNumbers (block : List ℕ) (h : AreaHeader) : Type 0 where
  serial : number_at 8 8 block ≡ h.serial
  len : number_at 4 16 block ≡ h.length

HasNumbers-table : (h : AreaHeader) (rest : List ℕ) → CanSpellArea h → HasNumbers (spelled (area_table h) ++ rest) h
unfolding number_at be_bytes spelled area_table
HasNumbers-table h rest can = record {
  serial = reads_back 8 h.serial (omega (arith, can.serial));
  len = reads_back 4 h.length (omega (arith, can.few));
}

area_in-has : (block : List ℕ) (h : AreaHeader) → HasNumbers block h → cut 20 32 block ≡ h.digest → area_in block ≡ h
unfolding area_in
area_in-has block h has digest = rw (has.serial, has.len, digest) refl

-- the parts of a header's block
split : (h : AreaHeader) → (tail : List ℕ) × (area_block h ≡ spelled (area_table h) ++ (h.digest ++ tail))
unfolding area_block area_fields sealed filled
split h =
    let table : List ℕ = spelled (area_table h) in
    let pad : List ℕ = zero_bytes (480 - length (table ++ h.digest)) in
    let seal : List ℕ = digest_of ((table ++ h.digest) ++ pad) in
    (pad ++ seal, append_assoc (table ++ h.digest) pad seal ∙ append_assoc table h.digest (pad ++ seal))

pub area_in-area_block : (h : AreaHeader) → CanSpellArea h → IsTypedArea h → area_in (area_block h) ≡ h
area_in-area_block h can typed =
    let tail : List ℕ = (split h).0 in
    let table : List ℕ = spelled (area_table h) in
    let behind : drop 20 (table ++ (h.digest ++ tail)) ≡ h.digest ++ tail = drop_at table (h.digest ++ tail) 20 (length-area_table h) in
    let digest : cut 20 32 (table ++ (h.digest ++ tail)) ≡ h.digest = ap (take 32) behind ∙ take_at h.digest tail 32 typed.digest in
    ap area_in (split h).1 ∙ area_in-has (table ++ (h.digest ++ tail)) h (HasNumbers-table h (h.digest ++ tail) can) digest

-- one block is the spelling of one header
pub area_in-is : (block : List ℕ) (h : AreaHeader) → IsArea block h → area_in block ≡ h
area_in-is block h is = ap area_in is.is ∙ area_in-area_block h is.can is.typed

-- a header's block has its fields and a good digest
pub front_area : (block : List ℕ) (h : AreaHeader) → IsArea block h → (take 480 block ≡ filled (area_fields h)) × IsSealed block
unfolding area_block
front_area block h is =
    let few : length (area_fields h) ≤ 480 = omega (arith, length-area_fields h is.typed) in
    (ap (take 480) is.is ∙ take-sealed (area_fields h) few, subst IsSealed (sym is.is) (IsSealed-sealed (area_fields h) few))

pub length-area_block : (h : AreaHeader) → IsTypedArea h → length (area_block h) ≡ 512
unfolding area_block
length-area_block h typed = length-sealed (area_fields h) (omega (arith, length-area_fields h typed))

-- ---- the test

area_from : (block : List ℕ) (h : AreaHeader) → is_area block h ≡ true → IsArea block h
unfolding is_area
area_from block h test =
    let parts = and_parts (bytes_eq block (area_block h)) (nat_lt h.serial (2 ^ 63) && (nat_lt 0 h.length && (nat_lt h.length 65025 && length h.digest == 32))) test in
    let rest = and_parts (nat_lt h.serial (2 ^ 63)) (nat_lt 0 h.length && (nat_lt h.length 65025 && length h.digest == 32)) parts.1 in
    let more = and_parts (nat_lt 0 h.length) (nat_lt h.length 65025 && length h.digest == 32) rest.1 in
    let last = and_parts (nat_lt h.length 65025) (length h.digest == 32) more.1 in
    let below : h.length < 65025 = ltb-true h.length 65025 last.0 in
    record {
      can = record { serial = ltb-true h.serial (2 ^ 63) rest.0; some = ltb-true 0 h.length more.0; few = omega (arith, below) };
      typed = record { digest = eqb-true (length h.digest) 32 last.1 };
      is = same_bytes block (area_block h) parts.0;
    }

from_area : (block : List ℕ) (h : AreaHeader) → IsArea block h → is_area block h ≡ true
unfolding is_area
from_area block h is =
    let below : h.length < 65025 = omega (arith, is.can.few) in
    and_from (bytes_eq block (area_block h)) (nat_lt h.serial (2 ^ 63) && (nat_lt 0 h.length && (nat_lt h.length 65025 && length h.digest == 32)))
    (alike block (area_block h) is.is)
    (and_from (nat_lt h.serial (2 ^ 63)) (nat_lt 0 h.length && (nat_lt h.length 65025 && length h.digest == 32)) (lt-ltb h.serial (2 ^ 63) is.can.serial)
    (and_from (nat_lt 0 h.length) (nat_lt h.length 65025 && length h.digest == 32) (lt-ltb 0 h.length is.can.some)
    (and_from (nat_lt h.length 65025) (length h.digest == 32) (lt-ltb h.length 65025 below) (eq-eqb (length h.digest) 32 is.typed.digest))))

-- the header that a block is
pub header_of-is : (block : List ℕ) (h : AreaHeader) → IsArea block h → header_of block ≡ Some h
unfolding header_of
header_of-is block h is =
    let test : is_area block (area_in block) ≡ true = ap (is_area block) (area_in-is block h is) ∙ from_area block h is in
    rw test (ap Some (area_in-is block h is))

found_is : (block : List ℕ) (h g : AreaHeader) (b : Bool) → is_area block g ≡ b → (if b then Some g else None) ≡ Some h → IsArea block h
found_is block h g true test is = subst (IsArea block) (cc) (area_from block g test)
found_is block h g false test is = absurd cc

pub header_of-only : (block : List ℕ) (h : AreaHeader) → header_of block ≡ Some h → IsArea block h
unfolding header_of
header_of-only block h is = found_is block h (area_in block) (is_area block (area_in block)) refl is

-- a header begins with its magic, and zeros do not
abbrev first_byte : List ℕ → ℕ
first_byte [] = 0
first_byte (x ∷ rest) = x

begins : (h : AreaHeader) (rest : List ℕ) → first_byte (spelled (area_table h) ++ rest) ≡ 86
unfolding spelled be_bytes area_table
begins h rest = refl

pub header_of-none : (block : List ℕ) → ((h : AreaHeader) → IsArea block h → ⊥) → header_of block ≡ None
unfolding header_of
header_of-none block none =
    let test : is_area block (area_in block) ≡ false = false_from_ne_true (is_area block (area_in block)) (λ is. none (area_in block) (area_from block (area_in block) is)) in
    rw test refl

pub header_of-zeros : header_of (zero_bytes 512) ≡ None
header_of-zeros = header_of-none (zero_bytes 512) (λ h is.
    let clash : 0 ≡ 86 = ap first_byte (is.is ∙ (split h).1) ∙ begins h (h.digest ++ (split h).0) in
    absurd (omega (arith, clash)))
