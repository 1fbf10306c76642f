-- A block is at most one of the things that it may be seen as.
use Rattle.std.proofs.Common.{◌≡◌, ◌≤◌, ℕ, List, length, take, drop, ap, sym, subst, ◌∙◌, arith}
use Rattle.vx_wire.specs.Seals.{filled, digest_of, IsSealed}
use Rattle.vx_wire.proofs.SealLemmas.{take-sealed, IsSealed-sealed}
use Rattle.vx_srlfmt.specs.Records.{record_fields, record_block, IsRecord, IsDamaged, IsSeen}
use Rattle.vx_srlfmt.specs.declared.record.RecordHead.{RecordHead}
use Rattle.vx_srlfmt.specs.declared.record.Seen.{Seen}
use Rattle.vx_srlfmt.specs.declared.record.Seen.TheVariants as seen
use Rattle.vx_srlfmt.proofs.RecordAgain.{length-record_fields, head_in-is}

-- a record header's block has its fields and a good digest
pub front_record : (block : List ℕ) (r : RecordHead) → IsRecord block r → (take 480 block ≡ filled (record_fields r)) × IsSealed block
unfolding record_block
front_record block r is =
    let few : length (record_fields r) ≤ 480 = omega (arith, length-record_fields r is.typed) in
    (ap (take 480) is.is ∙ take-sealed (record_fields r) few, subst IsSealed (sym is.is) (IsSealed-sealed (record_fields r) few))

pub seen_only : (block : List ℕ) (s : Seen) → IsSeen block s → (r : RecordHead) → IsRecord block r → s ≡ seen.Record r
seen_only block (seen.Record q) told r is = ap (λ (h : RecordHead). seen.Record h) (sym (head_in-is block q told) ∙ head_in-is block r is)
seen_only block (seen.Damaged stored computed) told r is = absurd (told.damaged.broken (front_record block r is).1)
seen_only block seen.Other told r is = absurd (told.0 r is)

pub seen_damaged : (block : List ℕ) (s : Seen) → IsSeen block s → IsDamaged block → s ≡ seen.Damaged (drop 480 block) (digest_of (take 480 block))
seen_damaged block (seen.Record q) told is = absurd (is.broken (front_record block q told).1)
seen_damaged block (seen.Damaged stored computed) told is =
    ap (λ (d : List ℕ). seen.Damaged d computed) told.stored ∙ ap (λ (d : List ℕ). seen.Damaged (drop 480 block) d) told.computed
seen_damaged block seen.Other told is = absurd (told.1 is)
