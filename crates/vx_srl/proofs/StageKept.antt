-- What is kept of a log in memory, and one more record behind it.
use Rattle.std.proofs.Common.{◌≡◌, ℕ, ◌+◌, ◌-◌, ◌*◌, ◌/◌, ◌%◌, ◌<◌, ◌≤◌, List, [], ◌∷◌, ◌++◌, length, take, drop, sym, ◌∙◌, ap, subst, arith, length-append}
use Rattle.std.specs.List.{AllByRecursion}
use Rattle.std.proofs.lemmas.List.{take-append-drop}
use Rattle.std.proofs.lemmas.List.Elements.{All-from_recursion, recursion_from_All}
use Rattle.vx_model.specs.Content.{blocks_in}
use Rattle.vx_wire.specs.Fields.{zero_bytes}
use Rattle.vx_srlfmt.specs.Records.{CanSpellHead}
use Rattle.vx_srlfmt.specs.declared.header.Header.{Header}
use Rattle.vx_srlfmt.specs.declared.record.RecordHead.{RecordHead}
use Rattle.vx_disk.specs.Shelf.{Meaning}
use Rattle.vx_ringlog.specs.Acts.{body_acts}
use Rattle.vx_ringlog.specs.Records.{as_on_disk, firsts_of}
use Rattle.vx_ringlog.proofs.Blocks.{blocks_stand, cut_count}
use Rattle.vx_ringio.specs.Bodies.{IsBlocks, all_blocks}
use Rattle.vx_ringio.specs.Tracks.{Follows, Arrives}
use Rattle.vx_srl.specs.Calls.{staging, staged_with}
use Rattle.vx_srl.specs.Kepts.{IsLogKept}
use Rattle.vx_srl.specs.Rings.{RingGoes, LeadsTo}
use Rattle.vx_srl.specs.Views.{Log, IsOrdered, PlacedFrom, all_of, end_of, free_of, blocks_needed, next_of, place_after, width_of, widths, most_number, record_next, kept_record}
use Rattle.vx_srl.specs.declared.kept.Kept.{Kept}
use Rattle.vx_srl.proofs.Shared_S1.{place_append, widths_append}
use Rattle.vx_srl.proofs.StageRecord.{all_whole, stage_goes, stage_leads}

-- as callers see it
abbrev pub seen : ℕ → ℕ → Header → List Kept → ℕ → Log
seen unit ring header records sealed = record { unit = unit; ring = ring; header = header; held = take sealed records; staged = drop sealed records }

-- ---- one more record

placed_with : (ring p : ℕ) (ks : List Kept) (k : Kept) → PlacedFrom ring p ks → k.place ≡ place_after ring p ks → PlacedFrom ring p (ks ++ k ∷ [])
placed_with ring p [] k placed at = (at, tt)
placed_with ring p (x ∷ ks) k placed at = (placed.0, placed_with ring ((p + width_of x) % ring) ks k placed.1 at)

all_with : (P : Kept → Type 0) (ks : List Kept) (k : Kept) → AllByRecursion P ks → P k → AllByRecursion P (ks ++ k ∷ [])
all_with P [] k each here = (here, tt)
all_with P (x ∷ ks) k each here = (each.0, all_with P ks k each.1 here)

-- each takes two blocks at least
two_each : (ks : List Kept) → AllByRecursion (λ k. CanSpellHead k.head) ks → 2 * length ks ≤ widths ks
two_each [] each = omega arith
two_each (k ∷ ks) each = omega (arith, each.0.some, two_each ks each.1)

module _ (unit ring : ℕ) (header : Header) (records : List Kept) (capacity sealed end used : ℕ) (kept : IsLogKept ring header records capacity sealed end used) where
  all_are : all_of (seen unit ring header records sealed) ≡ records
  all_are = take-append-drop sealed records

  pub end_kept : end ≡ end_of (seen unit ring header records sealed)
  end_kept = kept.end_is ∙ sym (ap (λ (ks : List Kept). place_after ring header.place ks) all_are)

  module _ (bytes : List ℕ) (blocks : IsBlocks bytes) (room : blocks_needed bytes ≤ free_of (seen unit ring header records sealed)) where
    fits_with : widths records + blocks_needed bytes ≤ ring
    fits_with = omega (arith, room, ap (λ (ks : List Kept). widths ks) all_are, kept.ordered.fits)

    pub room_kept : length records < capacity
    room_kept = omega (arith, fits_with, two_each records (recursion_from_All (λ k. CanSpellHead k.head) records kept.ordered.heads), kept.room, blocks.some, blocks.whole)

    module _ (vol block : ℕ) (few : next_of (seen unit ring header records sealed) ≤ most_number) where
      count_is : length (all_blocks bytes) ≡ blocks_in bytes
      count_is = cut_count (length bytes / 512) bytes

      spells : CanSpellHead (record_next (seen unit ring header records sealed) vol block bytes).head
      spells = record {
        incarnation = kept.ordered.spell.incarnation;
        run = kept.ordered.spell.run;
        generation = kept.ordered.spell.state.generation;
        number = omega (arith, few);
        some = omega (arith, blocks.some, blocks.whole);
        few = omega (arith, blocks.few);
        firsts = subst (λ (n : ℕ). drop n (firsts_of (all_blocks bytes)) ≡ zero_bytes (16 - n)) count_is (blocks_stand (all_blocks bytes) (all_whole bytes blocks)).zeros;
      }

      numbers_with : header.low + length (records ++ record { place = end; head = (record_next (seen unit ring header records sealed) vol block bytes).head } ∷ []) ≤ most_number + 1
      numbers_with = omega (arith, few, ap (λ (ks : List Kept). length ks) all_are, length-append records (record { place = end; head = (record_next (seen unit ring header records sealed) vol block bytes).head } ∷ []))

      ordered_with : IsOrdered ring header (records ++ record { place = end; head = (record_next (seen unit ring header records sealed) vol block bytes).head } ∷ [])
      ordered_with = record {
        some = kept.ordered.some;
        few = kept.ordered.few;
        spell = kept.ordered.spell;
        of_ring = kept.ordered.of_ring;
        heads =
            All-from_recursion (λ k. CanSpellHead k.head) (records ++ record { place = end; head = (record_next (seen unit ring header records sealed) vol block bytes).head } ∷ [])
            (all_with (λ k. CanSpellHead k.head) records (record { place = end; head = (record_next (seen unit ring header records sealed) vol block bytes).head })
            (recursion_from_All (λ k. CanSpellHead k.head) records kept.ordered.heads) spells);
        placed = placed_with ring header.place records (record { place = end; head = (record_next (seen unit ring header records sealed) vol block bytes).head }) kept.ordered.placed kept.end_is;
        fits = omega (arith, fits_with, widths_append records (record { place = end; head = (record_next (seen unit ring header records sealed) vol block bytes).head } ∷ []));
        numbers = numbers_with;
      }

      kept_more : IsLogKept ring header (records ++ record { place = end; head = (record_next (seen unit ring header records sealed) vol block bytes).head } ∷ []) capacity sealed
          ((end + (blocks_in bytes + 1)) % ring) (used + (blocks_in bytes + 1))
      kept_more =
          let one : List Kept = record { place = end; head = (record_next (seen unit ring header records sealed) vol block bytes).head } ∷ [] in
          record {
            ordered = ordered_with;
            room = kept.room;
            few = omega (arith, kept.few, length-append records one);
            end_is = ap (λ (p : ℕ). (p + (blocks_in bytes + 1)) % ring) kept.end_is ∙ sym (place_append ring header.place records one);
            used_is = omega (arith, kept.used_is, widths_append records one);
          }

      pub kept_with : (head : RecordHead) (items : List Kept) (capacity' : ℕ) → head ≡ (record_next (seen unit ring header records sealed) vol block bytes).head
          → items ≡ records ++ record { place = end; head = head } ∷ [] → capacity' ≡ capacity → IsLogKept ring header items capacity' sealed ((end + (head.count + 1)) % ring) (used + (head.count + 1))
      kept_with head items capacity' is grown same =
          subst (λ (n : ℕ). IsLogKept ring header items n sealed ((end + (head.count + 1)) % ring) (used + (head.count + 1))) (sym same)
          (subst (λ (xs : List Kept). IsLogKept ring header xs capacity sealed ((end + (head.count + 1)) % ring) (used + (head.count + 1))) (sym grown)
          (subst (λ (h : RecordHead). IsLogKept ring header (records ++ record { place = end; head = h } ∷ []) capacity sealed ((end + (h.count + 1)) % ring) (used + (h.count + 1))) (sym is) kept_more))

-- ---- the call

module _ (unit ring : ℕ) (header : Header) (records : List Kept) (capacity sealed end used : ℕ) (kept : IsLogKept ring header records capacity sealed end used)
    (l : Log) (is : seen unit ring header records sealed ≡ l) (vol block : ℕ) (bytes disk : List ℕ) (blocks : IsBlocks bytes) (room : blocks_needed bytes ≤ free_of l)
    (same : all_blocks disk ≡ as_on_disk (all_blocks bytes)) (old new : Meaning) where
  pub goes_kept : Follows unit ring (body_acts ring (end + 1) (all_blocks disk)) old new → RingGoes l (staging (record_next l vol block bytes)) old new
  goes_kept follows =
      stage_goes l vol block bytes disk blocks room same old new
      (subst (λ (x : Log). Follows x.unit x.ring (body_acts x.ring (end_of x + 1) (all_blocks disk)) old new) is
      (subst (λ (p : ℕ). Follows unit ring (body_acts ring (p + 1) (all_blocks disk)) old new) (end_kept unit ring header records capacity sealed end used kept) follows))

  pub leads_kept : (after : Log) → after ≡ staged_with l (kept_record l vol block bytes) → Arrives unit ring (body_acts ring (end + 1) (all_blocks disk)) old new
      → LeadsTo l (staging (record_next l vol block bytes)) after old new
  leads_kept after grown arrives =
      subst (λ (x : Log). LeadsTo l (staging (record_next l vol block bytes)) x old new) (sym grown)
      (stage_leads l vol block bytes disk blocks room same old new
      (subst (λ (x : Log). Arrives x.unit x.ring (body_acts x.ring (end_of x + 1) (all_blocks disk)) old new) is
      (subst (λ (p : ℕ). Arrives unit ring (body_acts ring (p + 1) (all_blocks disk)) old new) (end_kept unit ring header records capacity sealed end used kept) arrives)))
