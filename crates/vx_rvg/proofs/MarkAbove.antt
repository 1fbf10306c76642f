-- The regions of logged writes, marked one write after another.
use Rattle.std.proofs.Common.{◌≡◌, ◌∙◌, ◌⊎◌, inl, inr, ⊎_elim, ℕ, ◌+◌, ◌-◌, ◌<◌, ◌≤◌, Bool, true, List, length, Some, sym, ap, subst, arith}
use Rattle.std.specs.Prelude.{slice_get}
use Rattle.std.proofs.lemmas.Bool.{cases_lt}
use Rattle.std.proofs.lemmas.List.Elements.{All-contains, Contains-append_left}
use Rattle.std.proofs.lemmas.Option.{get_or_from_slice_get, slice_get_within}
use Rattle.vx_srlfmt.specs.Records.{CanSpellHead}
use Rattle.vx_srlfmt.specs.declared.record.RecordHead.{RecordHead}
use Rattle.vx_model.specs.declared.limits.TheConstants.{LINK_PLACES}
use Rattle.vx_model.specs.declared.no.No.{No}
use Rattle.vx_disk.specs.Causes.{DeviceCause}
use Rattle.vx_disk.specs.Moves.{Moves}
use Rattle.vx_disk.specs.Shelf.{Meaning}
use Rattle.vx_disk.specs.Spends.{Spends}
use Rattle.vx_disk.proofs.Moving.{wider}
use Rattle.vx_disk.proofs.Spending.{spends_none, then_spends}
use Rattle.vx_bitmap.specs.Bits.{AllAre}
use Rattle.vx_dcm.specs.Places.{HasRegion, IsOfRun, IsPlaceAmong, Maps, MapsBetween, SomeChanged, has_mark, region_place}
use Rattle.vx_srl.specs.Views.{IsFront, IsOrdered, Log, all_of}
use Rattle.vx_srl.specs.declared.kept.Kept.{Kept}
use Rattle.vx_rvg.specs.Above.{AboveMarked, IsHeldRecord, IsPlaceAbove, RecordMarked}
use Rattle.vx_rvg.specs.Groups.{core_halted}
use Rattle.vx_rvg.specs.Marks.{Marking, map_run, write_first, write_last}
use Rattle.vx_rvg.specs.Views.{Core, IsSound, last_of, volume_size}
use Rattle.vx_rvg.proofs.ApplyOne.{among_rest, none_there}
use Rattle.vx_rvg.proofs.MarkedStands.{write_region}
use Rattle.vx_rvg.proofs.MarkThrough.{MarkedThrough, through_next, through_none}
use Rattle.vx_rvg.proofs.WriteLog.{cause_from}
use Rattle.vx_rvg.proofs.WriteSound.{volume_same}

-- ---- one record

-- a record of a log has a block
pub kept_some : (l : Log) (i : ℕ) (k : Kept) → slice_get l.held i ≡ Some k → IsOrdered l.ring l.header (all_of l) → 0 < k.head.count
kept_some l i k there ordered =
    let can : CanSpellHead k.head = All-contains (λ k. CanSpellHead k.head) (all_of l) k ordered.heads (Contains-append_left l.held l.staged k (among_rest l.held 0 i k (omega arith) there)) in
    can.some

pub count_some : (l : Log) (n : ℕ) (head : RecordHead) → IsFront l n head → IsOrdered l.ring l.header (all_of l) → 0 < head.count
count_some l n head front ordered = omega (arith, kept_some l (n - l.header.low) front.kept front.there ordered, ap (λ (h : RecordHead). h.count) front.is)

module _ (core : Core) (size : ℕ → ℕ) (slot n : ℕ) (kept : Kept) (there : slice_get core.log.held (n - core.log.header.low) ≡ Some kept) where
  same_record : (k : Kept) → IsHeldRecord core size n k → k ≡ kept
  same_record k is = sym (get_or_from_slice_get core.log.held (n - core.log.header.low) k kept is.there) ∙ get_or_from_slice_get core.log.held (n - core.log.header.low) kept kept there

  beyond : size kept.head.vol < kept.head.block + kept.head.count → (k : Kept) → IsHeldRecord core size n k → ⊥
  beyond short k is =
      let within : kept.head.block + kept.head.count ≤ size kept.head.vol = subst (λ (x : Kept). x.head.block + x.head.count ≤ size x.head.vol) (same_record k is) is.within in
      omega (arith, within, short)

  -- a write that does not end within its volume has no regions
  pub none_marked : (d : Maps) → size kept.head.vol < kept.head.block + kept.head.count → RecordMarked core size slot n d
  none_marked d short = record { each = λ k is. absurd (beyond short k is) }

  pub all_marked : (d : Maps) → AllAre (write_first kept.head.block) (write_last kept.head.block kept.head.count) true (has_mark d slot kept.head.vol) → RecordMarked core size slot n d
  all_marked d all = record {
    each = λ k is.
        subst (λ (x : Kept). AllAre (write_first x.head.block) (write_last x.head.block x.head.count) true (has_mark d slot x.head.vol)) (sym (same_record k is)) all;
  }

  module _ (low : core.log.header.low ≤ n) (within : kept.head.block + kept.head.count ≤ size kept.head.vol) (above : ℕ) (higher : above < n) where
    -- the places of its regions
    abbrev own : ℕ → Type 0
    own r = IsPlaceAmong (region_place core.maps slot kept.head.vol (write_first kept.head.block)) (region_place core.maps slot kept.head.vol (write_last kept.head.block kept.head.count)) r

    here : (r : ℕ) → own r → IsPlaceAbove core size slot above r
    here r among = record { number = n; higher = higher; kept = kept; is = record { low = low; there = there; within = within }; among = among }

    pub bits_above : (regions : ℕ) (old new : ℕ → Bool) → SomeChanged own true regions old new → SomeChanged (IsPlaceAbove core size slot above) true regions old new
    bits_above regions old new some = record { each = λ r lt. ⊎_elim (λ same. inl same) (λ set. inr (here r set.0, set.1)) (some.each r lt) }

    pub moves_above : (m m' : Meaning) → Moves (map_run core) (Marking core own true m) m m' → Moves (map_run core) (Marking core (IsPlaceAbove core size slot above) true m) m m'
    moves_above m m' moves =
        wider (map_run core) (map_run core) (Marking core own true m) (Marking core (IsPlaceAbove core size slot above) true m) m m' moves (λ u b run. run)
        (λ i beside marking. record {
          each = λ h stands all.
              let got = marking.each h stands all in
              (got.0, record { long = got.1.long; rest = got.1.rest; marks = record { each = λ r lt. ⊎_elim (λ same. inl same) (λ set. inr (here r set.0, set.1)) (got.1.marks.each r lt) } }, got.2);
        })

pub part_of_slot : (slot vol first last : ℕ) (old new : Maps) → MapsBetween (IsOfRun slot vol first last) true old new → MapsBetween (λ k w q. k ≡ slot) true old new
part_of_slot slot vol first last old new part = record { each = λ k w q has. ⊎_elim (λ same. inl same) (λ set. inr (set.0.place, set.1)) (part.each k w q has) }

-- the last region of a write, for a place of a link
pub slot_region : (core : Core) (m : Meaning) → IsSound core m → (slot vol start count : ℕ) → slot < LINK_PLACES → vol < length core.units.vols → 0 < count → start + count ≤ volume_size core.units.vols m vol
    → HasRegion core.maps slot vol (write_last start count)
slot_region core m sound slot vol start count place low some within =
    let has = write_region core m sound vol start count low some within in
    record { map = record { place = place; volume = has.map.volume }; region = has.region }

-- ---- one record after another

module _ (core : Core) (m : Meaning) (slot above : ℕ) where
  abbrev pub size_of : ℕ → ℕ
  size_of = volume_size core.units.vols m

  abbrev pub places_above : ℕ → Type 0
  places_above r = IsPlaceAbove core size_of slot above r

  -- all numbers up to one are done
  pub record DoneTo (before : ℕ) (mid : Core) (m' : Meaning) : Type 0 where
    pub through : MarkedThrough core mid slot places_above m m'
    pub marked : (n : ℕ) → above < n → n ≤ before → RecordMarked core size_of slot n mid.maps
    pub sound : IsSound mid m'
    pub spends : Spends m m'

  module _ (before : ℕ) (mid : Core) (m1 : Meaning) (done : DoneTo before mid m1) where
    pub size_same : (v : ℕ) → volume_size mid.units.vols m1 v ≡ size_of v
    size_same v =
        ap (λ (c : Core). volume_size c.units.vols m1 v) done.through.is
        ∙ volume_same core.units.vols m m1 (record { units = done.through.moves.units; size = done.through.moves.size }) v

    record_back : (n : ℕ) (k : Kept) → IsHeldRecord mid (volume_size mid.units.vols m1) n k → IsHeldRecord core size_of n k
    record_back n k is = record {
      low = subst (λ (c : Core). c.log.header.low ≤ n) done.through.is is.low;
      there = subst (λ (c : Core). slice_get c.log.held (n - c.log.header.low) ≡ Some k) done.through.is is.there;
      within = omega (arith, is.within, size_same k.head.vol);
    }

    record_here : (n : ℕ) (k : Kept) → IsHeldRecord core size_of n k → IsHeldRecord mid (volume_size mid.units.vols m1) n k
    record_here n k is = record {
      low = subst (λ (c : Core). c.log.header.low ≤ n) (sym done.through.is) is.low;
      there = subst (λ (c : Core). slice_get c.log.held (n - c.log.header.low) ≡ Some k) (sym done.through.is) is.there;
      within = omega (arith, is.within, size_same k.head.vol);
    }

    pub place_back : above ≤ before → (r : ℕ) → IsPlaceAbove mid (volume_size mid.units.vols m1) slot before r → places_above r
    place_back le r at = record {
      number = at.number;
      higher = omega (arith, le, at.higher);
      kept = at.kept;
      is = record_back at.number at.kept at.is;
      among = subst (λ (xs : List ℕ). IsPlaceAmong (region_place (record { map = mid.maps.map; sizes = xs }) slot at.kept.head.vol (write_first at.kept.head.block)) (region_place (record { map = mid.maps.map; sizes = xs }) slot at.kept.head.vol (write_last at.kept.head.block at.kept.head.count)) r)
          done.through.sizes (record { low = at.among.low; high = at.among.high });
    }

    pub marked_back : (n : ℕ) (d : Maps) → RecordMarked mid (volume_size mid.units.vols m1) slot n d → RecordMarked core size_of slot n d
    marked_back n d marked = record { each = λ k is. marked.each k (record_here n k is) }

    pub halted_back : (why : No) (new : Core) → new ≡ core_halted why (record mid { maps = new.maps }) → new ≡ core_halted why (record core { maps = new.maps })
    halted_back why new is = is ∙ ap (λ (c : Core). core_halted why (record c { maps = new.maps })) done.through.is

    pub cause_back : (why : No) (new : Meaning) → DeviceCause m1 new why → DeviceCause m new why
    cause_back why new cause = cause_from m m1 new why done.through.moves.disk_faults cause

  module _ (sound : IsSound core m) (place : slot < LINK_PLACES) where
    record_region : (n : ℕ) (k : Kept) (q : ℕ) → IsHeldRecord core size_of n k → 0 < k.head.count → q ≤ write_last k.head.block k.head.count → HasRegion core.maps slot k.head.vol q
    record_region n k q is some high =
        let vol : k.head.vol < length core.units.vols = ⊎_elim (λ there. there) (λ past. absurd (omega (arith, some, is.within, none_there core.units.vols m k.head.vol past))) (cases_lt k.head.vol (length core.units.vols)) in
        let has = slot_region core m sound slot k.head.vol k.head.block k.head.count place vol some is.within in
        record { map = has.map; region = omega (arith, high, has.region) }

    -- later marks take none off
    pub stays_marked : (d d' : Maps) (n : ℕ) → d.sizes ≡ core.maps.sizes → MapsBetween (λ k w q. k ≡ slot) true d d' → ((k : Kept) → IsHeldRecord core size_of n k → 0 < k.head.count) → RecordMarked core size_of slot n d
        → RecordMarked core size_of slot n d'
    stays_marked d d' n same part some marked = record {
      each = λ k is. record {
        each = λ q low high.
            let was = (marked.each k is).each q low high in
            ⊎_elim (λ kept. kept ∙ was) (λ set. set.1) (part.each slot k.head.vol q (has_in k q (record_region n k q is (some k is) high)));
      };
    }
      where
        has_in : (k : Kept) (q : ℕ) → HasRegion core.maps slot k.head.vol q → HasRegion d slot k.head.vol q
        has_in k q has = subst (λ (xs : List ℕ). HasRegion (record { map = d.map; sizes = xs }) slot k.head.vol q) (sym same) (record { map = record { place = has.map.place; volume = has.map.volume }; region = has.region })

    -- the step of a number
    pub step_done : (before : ℕ) (mid new : Core) (m1 m2 : Meaning) → above ≤ before → IsOrdered core.log.ring core.log.header (all_of core.log) → (done : DoneTo before mid m1)
        → MarkedThrough mid new slot (IsPlaceAbove mid (volume_size mid.units.vols m1) slot before) m1 m2 → RecordMarked mid (volume_size mid.units.vols m1) slot (before + 1) new.maps → IsSound new m2 → Spends m1 m2
        → DoneTo (before + 1) new m2
    step_done before mid new m1 m2 le ordered done step marked sound2 spends = record {
      through = through_next core mid new slot places_above (IsPlaceAbove mid (volume_size mid.units.vols m1) slot before) m m1 m2 sound done.sound done.through (place_back before mid m1 done le) step;
      marked = λ n higher high.
          ⊎_elim
          (λ (now : before < n).
          let e : before + 1 ≡ n = omega (arith, now, high) in
          subst (λ (j : ℕ). RecordMarked core size_of slot j new.maps) e (marked_back before mid m1 done (before + 1) new.maps marked))
          (λ (low : n ≤ before).
          stays_marked mid.maps new.maps n done.through.sizes step.part (λ k is. kept_some core.log (n - core.log.header.low) k is.there ordered) (done.marked n higher low)) (cases_lt before n);
      sound = sound2;
      spends = then_spends m m1 m2 done.spends spends;
    }

  -- ---- before the first one, and behind the last one

  pub none_done : IsSound core m → DoneTo above core m
  none_done sound = record { through = through_none core slot places_above m; marked = λ n higher high. absurd (omega (arith, higher, high)); sound = sound; spends = spends_none m }

  pub above_all : (mid : Core) (m1 : Meaning) (before last : ℕ) → last ≡ last_of core → last ≤ before → DoneTo before mid m1 → AboveMarked core size_of slot above mid.maps
  above_all mid m1 before last last_is le done = record { each = λ n higher. ⊎_elim (λ past. none_held n past) (λ low. done.marked n higher low) (cases_lt before n) }
    where
      none_held : (n : ℕ) → before < n → RecordMarked core size_of slot n mid.maps
      none_held n past = record { each = λ k is. absurd (omega (arith, past, le, last_is, is.low, slice_get_within core.log.held (n - core.log.header.low) k is.there)) }
