-- Zeros written over a log's unit, some blocks at a time.
use Rattle.std.proofs.Common.{◌≡◌, ℕ, ◌+◌, ◌-◌, ◌*◌, ◌<◌, ◌≤◌, Bool, List, length, take, replicate, min, IsTrue, refl, sym, ap, ◌∙◌, ⊎_elim, subst, arith}
use Rattle.std.specs.Prelude.{slice_index}
use Rattle.std.proofs.lemmas.Bool.{cases_lt}
use Rattle.std.proofs.lemmas.List.{length-replicate, drop-replicate, take-replicate, get_or-take}
use Rattle.vx_wire.specs.Numbers.{be_bytes}
use Rattle.vx_srlfmt.specs.Headers.{header_magic}
use Rattle.vx_srlfmt.specs.Kinds.{IsBody, Other}
use Rattle.vx_srlfmt.specs.Records.{record_magic}
use Rattle.vx_srlfmt.proofs.HeaderAgain.{begins_header}
use Rattle.vx_srlfmt.proofs.KindLaws.{header_letter, record_letter}
use Rattle.vx_srlfmt.proofs.RecordAgain.{begins_record}
use Rattle.vx_disk.specs.Shelf.{Meaning, Wrote, Flushed, Goes, Nothing, piece}
use Rattle.vx_disk.specs.Moves.{Moves, Run, Anything}
use Rattle.vx_disk.proofs.Moving.{goes_on}
use Rattle.vx_model.specs.Content.{zero_block}
use Rattle.vx_ringio.specs.Classes.{class_of}
use Rattle.vx_ringio.specs.Reading.{ReadsZero, LeavesAs}
use Rattle.vx_ringio.proofs.Classing.{class_is}

-- a block of zeros is a block of zeros
piece-zeros : (first count b : ℕ) → first ≤ b → b < first + count → piece first (replicate (512 * count) 0) b ≡ zero_block
piece-zeros first count b low high =
    ap (λ (xs : List ℕ). take 512 xs) (drop-replicate (512 * (b - first)) (512 * count) 0)
    ∙ take-replicate 512 (512 * count - 512 * (b - first)) 0 (omega arith)

blank_more : (unit first count : ℕ) (bytes : List ℕ) (old new : Meaning) → bytes ≡ replicate (512 * count) 0 → Wrote unit first bytes old new → ReadsZero unit first old
    → ReadsZero unit (first + count) new
blank_more unit first count bytes old new is wrote zero = record {
  each = λ b below. record {
    only = λ v reads. ⊎_elim
        (λ put. put.value ∙ ap (λ (xs : List ℕ). piece first xs b) is ∙ piece-zeros first count b put.covers.first below)
        (λ out. ⊎_elim
        (λ (before : b < first). (zero.each b before).only v out.1)
        (λ (after : first ≤ b). absurd (out.0 (record { there = refl; first = after; last = inside b after below })))
        (cases_lt b first))
        (wrote.each unit b v reads);
  };
}
  where
    inside : (b : ℕ) → first ≤ b → b < first + count → 512 * (b - first) < length bytes
    inside b after below = omega (arith, ap length is, length-replicate {A = ℕ} (512 * count) 0)

-- one chunk more
pub chunk_more : (unit used chunk count : ℕ) (old new : Meaning) → count ≡ min (used - 16 * chunk) 16 → 16 * chunk < used
    → Wrote unit (16 * chunk) (take (512 * count) (replicate 8192 0)) old new → ReadsZero unit (16 * chunk) old → ReadsZero unit (min (16 * (chunk + 1)) used) new
chunk_more unit used chunk count old new is below wrote zero =
    let to : 16 * chunk + count ≡ min (16 * (chunk + 1)) used = omega (arith, is, below) in
    subst (λ (n : ℕ). ReadsZero unit n new) to
    (blank_more unit (16 * chunk) count (take (512 * count) (replicate 8192 0)) old new (take-replicate (512 * count) 8192 0 (omega (arith, is))) wrote zero)

pub no_chunk : (unit used : ℕ) (m : Meaning) → ReadsZero unit (min (16 * 0) used) m
no_chunk unit used m = record { each = λ b below. absurd (omega (arith, below)) }

pub all_chunks : (unit used chunk : ℕ) (m : Meaning) → used ≤ 16 * chunk → ReadsZero unit (min (16 * chunk) used) m → ReadsZero unit used m
all_chunks unit used chunk m all zero = record { each = λ b below. zero.each b (omega (arith, all, below)) }

pub chunk_moves : (unit used : ℕ) (first mid last : Meaning) → Moves (Run unit 0 used) Anything first mid → Moves (Run unit 0 used) Anything mid last → Moves (Run unit 0 used) Anything first last
chunk_moves unit used first mid last one two = goes_on (Run unit 0 used) (Run unit 0 used) Anything Anything first mid last one two (λ u b is. is) (λ i beside is. tt)

-- ---- a block of zeros is nothing of a log

not_begun : (m : ℕ) → slice_index (be_bytes 8 m) 0 ≡ 0x56 → take 8 zero_block ≡ be_bytes 8 m → ⊥
not_begun m letter begins =
    let first : slice_index (take 8 zero_block) 0 ≡ slice_index zero_block 0 = get_or-take 8 zero_block 0 0 (omega arith) in
    let zero : slice_index zero_block 0 ≡ 0 = refl in
    let same : slice_index (take 8 zero_block) 0 ≡ slice_index (be_bytes 8 m) 0 = ap (λ (b : List ℕ). slice_index b 0) begins in
    absurd (omega (arith, first, zero, same, letter))

not_body : IsBody zero_block → ⊥
not_body is = let zero : slice_index zero_block 0 ≡ 0 = refl in absurd (omega (arith, is, zero))

zero_class : (ring : ℕ) → class_of ring zero_block ≡ Other
zero_class ring = class_is ring zero_block Other (
  (λ h is. not_begun header_magic header_letter (begins_header zero_block h is)),
  (λ r is. not_begun record_magic record_letter (begins_record zero_block r is)),
  not_body,
  (λ is. not_begun record_magic record_letter is.begins),
)

-- after the flush
pub blank_leaves : (unit ring : ℕ) (first old new : Meaning) → Moves (Run unit 0 (ring + 2)) Anything first old → ReadsZero unit (ring + 2) old → Goes Nothing old new → Flushed unit old new → IsTrue first.tells
    → LeavesAs unit ring (λ b. Other) new
blank_leaves unit ring first old new moves zero goes flushed tells = record {
  tells = subst (λ (t : Bool). IsTrue t) (sym (goes.tells ∙ moves.tells)) tells;
  each = λ b v low left. ap (λ (x : List ℕ). class_of ring x) ((zero.each b low).only v (flushed.each b v left)) ∙ zero_class ring;
  beyond = λ b high. refl;
}
