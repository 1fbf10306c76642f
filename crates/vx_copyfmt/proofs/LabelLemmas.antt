-- A label that is spelled is read again.
use Rattle.std.proofs.Common.{◌≡◌, ◌≤◌, ℕ, ◌-◌, Bool, true, false, ◌&&◌, List, ◌++◌, length, take, drop, refl, ap, sym, subst, append_assoc, ◌∙◌, arith}
use Rattle.std.specs.Prelude.{◌==◌, bytes_eq}
use Rattle.std.proofs.lemmas.Bool.{and_parts, and_from, eqb-true, eq-eqb, false_from_ne_true}
use Rattle.vx_wire.specs.Fields.{spelled, zero_bytes}
use Rattle.vx_wire.specs.Numbers.{be_bytes, number_at}
use Rattle.vx_wire.specs.Seals.{sealed, filled, digest_of, IsSealed}
use Rattle.vx_wire.proofs.NumberLemmas.{reads_back}
use Rattle.vx_wire.proofs.SealLemmas.{take-sealed, IsSealed-sealed, length-sealed, alike, same_bytes}
use Rattle.vx_copyfmt.specs.Labels.{label_magic, label_version, label_table, label_fields, label_block, IsTypedLabel, IsLabel, label_in, begins_label, is_spelled, seen_in}
use Rattle.vx_copyfmt.specs.declared.label.Label.{Label}
use Rattle.vx_copyfmt.specs.declared.label.LabelSeen.TheVariants as seen
use Rattle.vx_copyfmt.proofs.Told.{not_both}

pub length-label_table : (l : Label) → length (label_fields l) ≡ 28
unfolding spelled be_bytes label_table
length-label_table l = refl

-- the numbers of a label
record HasNumbers (block : List ℕ) (l : Label) : Type 0 where
  version : number_at 4 8 block ≡ label_version
  site : number_at 4 12 block ≡ l.site
  disk : number_at 4 16 block ≡ l.disk
  blocks : number_at 8 20 block ≡ l.blocks

HasNumbers-table : (l : Label) (rest : List ℕ) → IsTypedLabel l → HasNumbers (label_fields l ++ rest) l
unfolding number_at be_bytes spelled label_table
HasNumbers-table l rest typed = record {
  version = reads_back 4 label_version (omega arith);
  site = reads_back 4 l.site (omega (arith, typed.site));
  disk = reads_back 4 l.disk (omega (arith, typed.disk));
  blocks = reads_back 8 l.blocks (omega (arith, typed.blocks));
}

label_in-has : (block : List ℕ) (l : Label) → HasNumbers block l → label_in block ≡ l
unfolding label_in
label_in-has block l has = rw (has.site, has.disk, has.blocks) refl

split : (l : Label) → (tail : List ℕ) × (label_block l ≡ label_fields l ++ tail)
unfolding label_block sealed filled
split l =
    let pad : List ℕ = zero_bytes (480 - length (label_fields l)) in
    let seal : List ℕ = digest_of (label_fields l ++ pad) in
    (pad ++ seal, append_assoc (label_fields l) pad seal)

has_numbers : (block : List ℕ) (l : Label) → IsLabel block l → HasNumbers block l
has_numbers block l is = subst (λ (b : List ℕ). HasNumbers b l) (sym (is.is ∙ (split l).1)) (HasNumbers-table l (split l).0 is.typed)

-- one block is the spelling of one label
pub label_in-is : (block : List ℕ) (l : Label) → IsLabel block l → label_in block ≡ l
label_in-is block l is = label_in-has block l (has_numbers block l is)

begins_table : (l : Label) (rest : List ℕ) → take 8 (label_fields l ++ rest) ≡ be_bytes 8 label_magic
unfolding be_bytes spelled label_table
begins_table l rest = refl

-- a label's block has its fields and a good digest
pub front_label : (block : List ℕ) (l : Label) → IsLabel block l → (take 480 block ≡ filled (label_fields l)) × IsSealed block
unfolding label_block
front_label block l is =
    let few : length (label_fields l) ≤ 480 = omega (arith, length-label_table l) in
    (ap (take 480) is.is ∙ take-sealed (label_fields l) few, subst IsSealed (sym is.is) (IsSealed-sealed (label_fields l) few))

pub length-label_block : (l : Label) → length (label_block l) ≡ 512
unfolding label_block
length-label_block l = length-sealed (label_fields l) (omega (arith, length-label_table l))

-- a label is seen
pub seen_in-is : (block : List ℕ) (l : Label) → IsLabel block l → seen_in block ≡ seen.Label l
unfolding seen_in begins_label is_spelled
seen_in-is block l is =
    let front = front_label block l is in
    let magic : take 8 block ≡ be_bytes 8 label_magic = ap (take 8) (is.is ∙ (split l).1) ∙ begins_table l (split l).0 in
    let begins : (bytes_eq (take 8 block) (be_bytes 8 label_magic) && bytes_eq (drop 480 block) (digest_of (take 480 block))) ≡ true =
    and_from (bytes_eq (take 8 block) (be_bytes 8 label_magic)) (bytes_eq (drop 480 block) (digest_of (take 480 block)))
    (alike (take 8 block) (be_bytes 8 label_magic) magic) (alike (drop 480 block) (digest_of (take 480 block)) front.1) in
    let version : (number_at 4 8 block == label_version) ≡ true = eq-eqb (number_at 4 8 block) label_version (has_numbers block l is).version in
    let same : label_in block ≡ l = label_in-is block l is in
    let again : bytes_eq (take 480 block) (filled (label_fields (label_in block))) ≡ true =
    alike (take 480 block) (filled (label_fields (label_in block))) (front.0 ∙ ap (λ (k : Label). filled (label_fields k)) (sym same)) in
    rw (begins, version, again) (ap (λ (k : Label). seen.Label k) same)

-- ---- the tests tell what is seen

pub begins_from : (block : List ℕ) → take 8 block ≡ be_bytes 8 label_magic → IsSealed block → begins_label block ≡ true
unfolding begins_label
begins_from block magic whole =
    and_from (bytes_eq (take 8 block) (be_bytes 8 label_magic)) (bytes_eq (drop 480 block) (digest_of (take 480 block)))
    (alike (take 8 block) (be_bytes 8 label_magic) magic) (alike (drop 480 block) (digest_of (take 480 block)) whole)

pub from_begins : (block : List ℕ) → begins_label block ≡ true → (take 8 block ≡ be_bytes 8 label_magic) × IsSealed block
unfolding begins_label
from_begins block begins =
    let parts = and_parts (bytes_eq (take 8 block) (be_bytes 8 label_magic)) (bytes_eq (drop 480 block) (digest_of (take 480 block))) begins in
    (same_bytes (take 8 block) (be_bytes 8 label_magic) parts.0, same_bytes (drop 480 block) (digest_of (take 480 block)) parts.1)

pub seen_format : (block : List ℕ) (version : ℕ) → begins_label block ≡ true → version ≡ number_at 4 8 block → (version ≡ label_version → ⊥) → seen.Format version ≡ seen_in block
unfolding seen_in
seen_format block version begins is other =
    let test : (number_at 4 8 block == label_version) ≡ false = false_from_ne_true (number_at 4 8 block == label_version) (λ same. other (is ∙ eqb-true (number_at 4 8 block) label_version same)) in
    rw (begins, test) (ap (λ (n : ℕ). seen.Format n) is)

pub seen_label : (block : List ℕ) (l : Label) → begins_label block ≡ true → label_version ≡ number_at 4 8 block → l ≡ label_in block → take 480 block ≡ filled (label_fields l) → seen.Label l ≡ seen_in block
unfolding seen_in is_spelled
seen_label block l begins version is spelled_so =
    let test : (number_at 4 8 block == label_version) ≡ true = eq-eqb (number_at 4 8 block) label_version (sym version) in
    let again : bytes_eq (take 480 block) (filled (label_fields (label_in block))) ≡ true =
    alike (take 480 block) (filled (label_fields (label_in block))) (spelled_so ∙ ap (λ (k : Label). filled (label_fields k)) is) in
    rw (begins, test, again) (ap (λ (k : Label). seen.Label k) is)

pub seen_other : (block : List ℕ) (l : Label) → begins_label block ≡ true → label_version ≡ number_at 4 8 block → l ≡ label_in block → (take 480 block ≡ filled (label_fields l) → ⊥) → seen.Other ≡ seen_in block
unfolding seen_in is_spelled
seen_other block l begins version is not_so =
    let test : (number_at 4 8 block == label_version) ≡ true = eq-eqb (number_at 4 8 block) label_version (sym version) in
    let again : bytes_eq (take 480 block) (filled (label_fields (label_in block))) ≡ false =
    false_from_ne_true (bytes_eq (take 480 block) (filled (label_fields (label_in block))))
    (λ same. not_so (same_bytes (take 480 block) (filled (label_fields (label_in block))) same ∙ ap (λ (k : Label). filled (label_fields k)) (sym is))) in
    rw (begins, test, again) refl

pub seen_none : (block : List ℕ) → (begins_label block ≡ true → ⊥) → seen.Other ≡ seen_in block
unfolding seen_in
seen_none block not_so = let test : begins_label block ≡ false = false_from_ne_true (begins_label block) not_so in rw test refl

-- what is seen as a label is the spelling of it
pub seen_in-only : (block : List ℕ) (l : Label) → seen_in block ≡ seen.Label l → begins_label block ≡ true
unfolding seen_in
seen_in-only block l is = by_cases (begins_label block) refl
  where
    by_cases : (b : Bool) → begins_label block ≡ b → begins_label block ≡ true
    by_cases true e = e
    by_cases false e =
        let none : seen.Other ≡ seen_in block = seen_none block (λ yes. not_both (sym e ∙ yes)) in
        let clash : seen.Other ≡ seen.Label l = none ∙ is in
        absurd cc
