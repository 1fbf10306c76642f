-- A record header that is spelled is read again.
use Rattle.std.proofs.Common.{◌≡◌, ℕ, ◌-◌, List, ◌++◌, length, take, drop, refl, ap, sym, append_assoc, ◌∙◌, arith}
use Rattle.std.proofs.lemmas.List.{drop-drop, drop_at, take_at, length-append}
use Rattle.vx_wire.specs.Fields.{spelled, zero_bytes}
use Rattle.vx_wire.specs.Numbers.{be_bytes, number_at}
use Rattle.vx_wire.specs.Places.{cut}
use Rattle.vx_wire.specs.Seals.{sealed, filled, digest_of}
use Rattle.vx_wire.proofs.NumberLemmas.{reads_back}
use Rattle.vx_srlfmt.specs.RecordReading.{head_in}
use Rattle.vx_srlfmt.specs.Records.{record_magic, record_table, record_fields, record_block, CanSpellHead, IsTypedHead, IsRecord}
use Rattle.vx_srlfmt.specs.declared.record.RecordHead.{RecordHead}

pub length-record_table : (r : RecordHead) → length (spelled (record_table r)) ≡ 60
unfolding spelled be_bytes record_table
length-record_table r = refl

pub length-record_fields : (r : RecordHead) → IsTypedHead r → length (record_fields r) ≡ 108
unfolding record_fields
length-record_fields r typed = omega (arith, length-append (spelled (record_table r)) (r.digest ++ r.firsts), length-append r.digest r.firsts, length-record_table r, typed.digest, typed.firsts)

-- the numbers of a record header
record HasNumbers (block : List ℕ) (r : RecordHead) : Type 0 where
  incarnation : number_at 8 8 block ≡ r.incarnation
  run : number_at 8 16 block ≡ r.run
  generation : number_at 8 24 block ≡ r.line.generation
  origin : number_at 4 32 block ≡ r.line.origin
  number : number_at 8 36 block ≡ r.number
  vol : number_at 4 44 block ≡ r.vol
  from : number_at 8 48 block ≡ r.block
  count : number_at 4 56 block ≡ r.count

HasNumbers-table : (r : RecordHead) (rest : List ℕ) → CanSpellHead r → IsTypedHead r → HasNumbers (spelled (record_table r) ++ rest) r
unfolding number_at be_bytes spelled record_table
HasNumbers-table r rest can typed = record {
  incarnation = reads_back 8 r.incarnation (omega (arith, can.incarnation));
  run = reads_back 8 r.run (omega (arith, can.run));
  generation = reads_back 8 r.line.generation (omega (arith, can.generation));
  origin = reads_back 4 r.line.origin typed.origin;
  number = reads_back 8 r.number (omega (arith, can.number));
  vol = reads_back 4 r.vol typed.vol;
  from = reads_back 8 r.block typed.block;
  count = reads_back 4 r.count (omega (arith, can.few));
}

head_in-has : (block : List ℕ) (r : RecordHead) → HasNumbers block r → cut 60 32 block ≡ r.digest → cut 92 16 block ≡ r.firsts → head_in block ≡ r
unfolding head_in
head_in-has block r h digest firsts = rw (h.incarnation, h.run, h.generation, h.origin, h.number, h.vol, h.from, h.count, digest, firsts) refl

-- the parts of a record header's block
pub split : (r : RecordHead) → (tail : List ℕ) × (record_block r ≡ spelled (record_table r) ++ (r.digest ++ (r.firsts ++ tail)))
unfolding record_block record_fields sealed filled
split r =
    let table : List ℕ = spelled (record_table r) in
    let two : List ℕ = r.digest ++ r.firsts in
    let pad : List ℕ = zero_bytes (480 - length (table ++ two)) in
    let seal : List ℕ = digest_of ((table ++ two) ++ pad) in
    (pad ++ seal, append_assoc (table ++ two) pad seal ∙ append_assoc table two (pad ++ seal) ∙ ap (λ (t : List ℕ). table ++ t) (append_assoc r.digest r.firsts (pad ++ seal)))

-- what is read in a record header's block is the record header
pub head_in-record_block : (r : RecordHead) → CanSpellHead r → IsTypedHead r → head_in (record_block r) ≡ r
head_in-record_block r can typed =
    let tail : List ℕ = (split r).0 in
    let table : List ℕ = spelled (record_table r) in
    let ends : List ℕ = r.digest ++ (r.firsts ++ tail) in
    let behind : drop 60 (table ++ ends) ≡ ends = drop_at table ends 60 (length-record_table r) in
    let behind_digest : drop 92 (table ++ ends) ≡ r.firsts ++ tail =
    sym (drop-drop 32 60 (table ++ ends)) ∙ ap (drop 32) behind ∙ drop_at r.digest (r.firsts ++ tail) 32 typed.digest in
    let digest : cut 60 32 (table ++ ends) ≡ r.digest = ap (take 32) behind ∙ take_at r.digest (r.firsts ++ tail) 32 typed.digest in
    let firsts : cut 92 16 (table ++ ends) ≡ r.firsts = ap (take 16) behind_digest ∙ take_at r.firsts tail 16 typed.firsts in
    ap head_in (split r).1 ∙ head_in-has (table ++ ends) r (HasNumbers-table r ends can typed) digest firsts

-- one block is the spelling of one record header
pub head_in-is : (block : List ℕ) (r : RecordHead) → IsRecord block r → head_in block ≡ r
head_in-is block r is = ap head_in is.is ∙ head_in-record_block r is.can is.typed

-- a record header's block begins with its magic
begins_table : (r : RecordHead) (rest : List ℕ) → take 8 (spelled (record_table r) ++ rest) ≡ be_bytes 8 record_magic
unfolding be_bytes spelled record_table
begins_table r rest = refl

pub begins_record : (block : List ℕ) (r : RecordHead) → IsRecord block r → take 8 block ≡ be_bytes 8 record_magic
begins_record block r is = ap (take 8) (is.is ∙ (split r).1) ∙ begins_table r (r.digest ++ (r.firsts ++ (split r).0))
