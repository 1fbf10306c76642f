-- A change of a run of regions, as each map tells it.
use Rattle.std.proofs.Common.{◌≡◌, ◌∙◌, ◌⊎◌, inl, inr, ⊎_elim, ℕ, ◌+◌, ◌-◌, ◌*◌, ◌<◌, ◌≤◌, Bool, true, List, length, take, refl, ap, subst, arith}
use Rattle.std.specs.Prelude.{if◌then◌else◌, leb, slice_index}
use Rattle.std.proofs.lemmas.Bool.{and_parts, cases_eq, cases_lt, le-leb, leb-true}
use Rattle.vx_model.specs.Sizes.{map_blocks, regions_of}
use Rattle.vx_disk.specs.Moves.{Moves, Run}
use Rattle.vx_disk.specs.Shelf.{Meaning}
use Rattle.vx_disk.proofs.Moving.{wider}
use Rattle.vx_bitmap.specs.Bits.{AllAre, Between, Changed, is_among, is_marked}
use Rattle.vx_bitmap.specs.Maps.{Changing, Map, is_marked_in, map_block_count, regions_mapped}
use Rattle.vx_bitmap.proofs.Runs.{slot_before}
use Rattle.vx_dcm.specs.Places.{AllOfSlot, AllPlaced, AreMapsKept, HasRegion, IsPlaceAmong, IsOfRun, MapChanging, Maps, MapsBetween, OtherMapsSame, SomeChanged, has_mark, map_first, mapped_size, maps_in, region_place, slot_first, slot_last}
use Rattle.vx_dcm.proofs.Places.{ends_within, in_map, region_within, regions_apart}

-- ---- places of a run

among_parts : (start end p : ℕ) → is_among start end p ≡ true → (start ≤ p) × (p ≤ end)
among_parts start end p is = let parts = and_parts (leb start p) (leb p end) is in (leb-true start p parts.0, leb-true p end parts.1)

among_of : (start end p : ℕ) → start ≤ p → p ≤ end → is_among start end p ≡ true
among_of start end p low high = rw (le-leb start p low, le-leb p end high) refl

-- the same in words of places
some_of : (start end a b : ℕ) → start ≡ a → end ≡ b → (value : Bool) (regions : ℕ) (old new : ℕ → Bool) → Between start end value regions old new → SomeChanged (IsPlaceAmong a b) value regions old new
some_of start end a b from to value regions old new part = record {
  each = λ r low.
      elim (part.each r low) [
        | inl same ↦ inl same
        | inr now ↦ (let span = among_parts start end r now.0 in inr (record { low = omega (arith, span.0, from); high = omega (arith, span.1, to) }, now.1))
      ];
}

pub bits_of : (start end a b : ℕ) → start ≡ a → end ≡ b → (value : Bool) (d : Maps) (new : Maps) → Between start end value (regions_mapped d.map) (is_marked d.map.bytes) (is_marked new.map.bytes)
    → SomeChanged (IsPlaceAmong a b) value (regions_mapped d.map) (is_marked d.map.bytes) (is_marked new.map.bytes)
bits_of start end a b from to value d new part = some_of start end a b from to value (regions_mapped d.map) (is_marked d.map.bytes) (is_marked new.map.bytes) part

pub moves_of : (start end a b : ℕ) → start ≡ a → end ≡ b → (value : Bool) (map : Map) (m m' : Meaning) → Moves (Run map.unit map.first (map_block_count map)) (Changing map start end value m) m m'
    → Moves (Run map.unit map.first (map_block_count map)) (MapChanging map (IsPlaceAmong a b) value m) m m'
moves_of start end a b from to value map m m' moves =
    wider (Run map.unit map.first (map_block_count map)) (Run map.unit map.first (map_block_count map)) (Changing map start end value m) (MapChanging map (IsPlaceAmong a b) value m) m m' moves (λ u b is. is)
    (λ i beside changing. record { each = λ on. some_of start end a b from to value (regions_mapped map) (is_marked map.bytes) (is_marked_in map i) (changing.each on) })

-- what is not otherwise is so
all_three : (k s w v q r : ℕ) → (((k ≡ s) × (w ≡ v) × (q ≡ r) → ⊥) → ⊥) → (k ≡ s) × (w ≡ v) × (q ≡ r)
all_three k s w v q r not =
    ⊎_elim
    (λ (one : k ≡ s). ⊎_elim
    (λ (two : w ≡ v). ⊎_elim
    (λ (three : q ≡ r). (one, two, three))
    (λ (other : q ≡ r → ⊥). absurd (not (λ all. other all.2)))
    (cases_eq q r))
    (λ (other : w ≡ v → ⊥). absurd (not (λ all. other all.1)))
    (cases_eq w v))
    (λ (other : k ≡ s → ⊥). absurd (not (λ all. other all.0)))
    (cases_eq k s)

-- a place of a map at or behind that of its region `first`
pub behind_first : (f p first : ℕ) → 4096 * f + first ≤ p → (p ≡ 4096 * f + (p - 4096 * f)) × (first ≤ p - 4096 * f)
behind_first f p first low = (omega (arith, low), omega (arith, low))

pub before_last : (f p last : ℕ) → p ≤ 4096 * f + last → p - 4096 * f ≤ last
before_last f p last high = omega (arith, high)

-- the maps as their invariant has them
pub all_placed : (v now : Maps) → v ≡ now → (stride : ℕ) → AreMapsKept v.map v.sizes stride → AllPlaced now
all_placed v now same stride kept = subst AllPlaced same (record { each = λ k w q has. region_within v stride k w q kept has })

module _ (d new : Maps) (placed : AllPlaced d) (same : new.sizes ≡ d.sizes) where
  at_place : (k w q : ℕ) → has_mark new k w q ≡ is_marked new.map.bytes (region_place d k w q)
  at_place k w q = ap (λ (xs : List ℕ). is_marked new.map.bytes (4096 * map_first xs k w + q)) same

  between : (mine : ℕ → ℕ → ℕ → Type 0) (start end : ℕ) (value : Bool) → Between start end value (regions_mapped d.map) (is_marked d.map.bytes) (is_marked new.map.bytes)
      → ((k w q : ℕ) → HasRegion d k w q → start ≤ region_place d k w q → region_place d k w q ≤ end → mine k w q) → MapsBetween mine value d new
  between mine start end value part inside = record {
    each = λ k w q has.
        elim (part.each (region_place d k w q) (placed.each k w q has)) [
          | inl was ↦ inl (at_place k w q ∙ was)
          | inr now ↦ (let span = among_parts start end (region_place d k w q) now.0 in inr (inside k w q has span.0 span.1, at_place k w q ∙ now.1))
        ];
  }

  marked_at : (start end : ℕ) (value : Bool) → Changed start end value (regions_mapped d.map) (is_marked d.map.bytes) (is_marked new.map.bytes)
      → (k w q : ℕ) → HasRegion d k w q → start ≤ region_place d k w q → region_place d k w q ≤ end → has_mark new k w q ≡ value
  marked_at start end value changed k w q has low high =
      at_place k w q ∙ changed.each (region_place d k w q) (placed.each k w q has)
      ∙ ap (λ (t : Bool). if t then value else is_marked d.map.bytes (region_place d k w q)) (among_of start end (region_place d k w q) low high)

  -- ---- a run of a volume

  module _ (slot v first last start end : ℕ) (exists : HasRegion d slot v last) (from : start ≡ region_place d slot v first) (to : end ≡ region_place d slot v last) where
    region_of_run : (r : ℕ) → r ≤ last → HasRegion d slot v r
    region_of_run r low = record { map = exists.map; region = omega (arith, low, exists.region) }

    run_inside : (k w q : ℕ) → HasRegion d k w q → start ≤ region_place d k w q → region_place d k w q ≤ end → IsOfRun slot v first last k w q
    run_inside k w q has low high =
        let r : ℕ = region_place d k w q - 4096 * map_first d.sizes slot v in
        let at = behind_first (map_first d.sizes slot v) (region_place d k w q) first (subst (λ (n : ℕ). n ≤ region_place d k w q) from low) in
        let most : r ≤ last = before_last (map_first d.sizes slot v) (region_place d k w q) last (subst (λ (n : ℕ). region_place d k w q ≤ n) to high) in
        let is = all_three k slot w v q r (λ other. regions_apart d k w q slot v r has (region_of_run r most) other at.0) in
        record { place = is.0; volume = is.1; low = omega (arith, at.1, is.2); high = omega (arith, most, is.2) }

    pub run_between : (value : Bool) → Between start end value (regions_mapped d.map) (is_marked d.map.bytes) (is_marked new.map.bytes) → MapsBetween (IsOfRun slot v first last) value d new
    run_between value part = between (IsOfRun slot v first last) start end value part run_inside

    pub run_marked : (value : Bool) → Changed start end value (regions_mapped d.map) (is_marked d.map.bytes) (is_marked new.map.bytes) → AllAre first last value (has_mark new slot v)
    run_marked value changed = record {
      each = λ r low high.
          marked_at start end value changed slot v r (region_of_run r high)
          (on_left (4096 * map_first d.sizes slot v) first r start from low) (under (4096 * map_first d.sizes slot v) r last end to high);
    }
      where
        on_left : (f a b n : ℕ) → n ≡ f + a → a ≤ b → n ≤ f + b
        on_left f a b n is le = omega (arith, is, le)

        under : (f a b n : ℕ) → n ≡ f + b → a ≤ b → f + a ≤ n
        under f a b n is le = omega (arith, is, le)

    pub run_was : (value : Bool) → AllAre first last value (has_mark d slot v) → AllAre start end value (is_marked d.map.bytes)
    run_was value all = record {
      each = λ p low high.
          let at = behind_first (map_first d.sizes slot v) p first (subst (λ (n : ℕ). n ≤ p) from low) in
          ap (λ (n : ℕ). is_marked d.map.bytes n) at.0 ∙ all.each (p - 4096 * map_first d.sizes slot v) at.1 (before_last (map_first d.sizes slot v) p last (subst (λ (n : ℕ). p ≤ n) to high));
    }

  -- ---- all maps of a place of a link

  module _ (slot start end : ℕ) (from : start ≡ slot_first d slot) (to : end ≡ slot_last d slot) where
    slot_inside : (k w q : ℕ) → HasRegion d k w q → start ≤ region_place d k w q → region_place d k w q ≤ end → k ≡ slot
    slot_inside k w q has low high =
        let within = ends_within d.sizes w has.map.volume in
        let small = in_map (regions_of (mapped_size d w)) q has.region in
        ⊎_elim
        (λ (lt : k < slot). absurd (before (k * maps_in d.sizes) (slot * maps_in d.sizes) (maps_in (take w d.sizes)) (map_blocks (mapped_size d w)) (maps_in d.sizes) q start within small (slot_before k slot (maps_in d.sizes) lt) from low))
        (λ (ge : slot ≤ k). ⊎_elim
        (λ (lt : slot < k). absurd (behind (k * maps_in d.sizes) (slot * maps_in d.sizes) (maps_in (take w d.sizes)) (map_blocks (mapped_size d w)) (maps_in d.sizes) q end within small (slot_before slot k (maps_in d.sizes) lt) to high))
        (λ (le : k ≤ slot). omega (arith, ge, le))
        (cases_lt slot k))
        (cases_lt k slot)
      where
        before : (a b f n stride q start : ℕ) → f + n ≤ stride → q < 4096 * n → a + stride ≤ b → start ≡ 4096 * b → start ≤ 4096 * (a + f) + q → ⊥
        before a b f n stride q start within small less is low = omega (arith, within, small, less, is, low)

        behind : (a b f n stride q end : ℕ) → f + n ≤ stride → q < 4096 * n → b + stride ≤ a → end ≡ 4096 * b + (4096 * stride - 1) → 4096 * (a + f) + q ≤ end → ⊥
        behind a b f n stride q end within small less is high = omega (arith, within, small, less, is, high)

    pub slot_between : (value : Bool) → Between start end value (regions_mapped d.map) (is_marked d.map.bytes) (is_marked new.map.bytes) → MapsBetween (λ k w q. k ≡ slot) value d new
    slot_between value part = between (λ k w q. k ≡ slot) start end value part (λ k w q has low high. slot_inside k w q has low high)

    pub slot_marked : (value : Bool) → Changed start end value (regions_mapped d.map) (is_marked d.map.bytes) (is_marked new.map.bytes) → AllOfSlot slot value new
    slot_marked value changed = record {
      each = λ w q there.
          let has : HasRegion d slot w q = record { map = record { place = there.map.place; volume = subst (λ (xs : List ℕ). w < length xs) same there.map.volume }; region = subst (λ (xs : List ℕ). q < regions_of (slice_index xs w)) same there.region } in
          let within = ends_within d.sizes w has.map.volume in
          let small = in_map (regions_of (mapped_size d w)) q has.region in
          marked_at start end value changed slot w q has (first_is (slot * maps_in d.sizes) (maps_in (take w d.sizes)) q start from)
          (last_is (slot * maps_in d.sizes) (maps_in (take w d.sizes)) (map_blocks (mapped_size d w)) (maps_in d.sizes) q end within small to);
    }
      where
        first_is : (a f q start : ℕ) → start ≡ 4096 * a → start ≤ 4096 * (a + f) + q
        first_is a f q start is = omega (arith, is)

        last_is : (a f n stride q end : ℕ) → f + n ≤ stride → q < 4096 * n → end ≡ 4096 * a + (4096 * stride - 1) → 4096 * (a + f) + q ≤ end
        last_is a f n stride q end within small is = omega (arith, within, small, is)

-- ---- one region

pub one_was : (d : Maps) (slot v r : ℕ) (value : Bool) → has_mark d slot v r ≡ value → AllAre r r value (has_mark d slot v)
one_was d slot v r value is = record { each = λ q low high. let e : r ≡ q = omega (arith, low, high) in subst (λ (k : ℕ). has_mark d slot v k ≡ value) e is }

pub one_marked : (d : Maps) (slot v r : ℕ) (value : Bool) → AllAre r r value (has_mark d slot v) → has_mark d slot v r ≡ value
one_marked d slot v r value all = all.each r (omega arith) (omega arith)

pub one_stays : (slot v r : ℕ) (value : Bool) (d new : Maps) → HasRegion d slot v r → MapsBetween (IsOfRun slot v r r) value d new → has_mark d slot v r ≡ value → has_mark new slot v r ≡ value
one_stays slot v r value d new has part was = ⊎_elim (λ same. same ∙ was) (λ now. now.1) (part.each slot v r has)

pub others_stay : (slot v r : ℕ) (value : Bool) (d new : Maps) → MapsBetween (IsOfRun slot v r r) value d new → OtherMapsSame slot v r d new
others_stay slot v r value d new part = record {
  each = λ k w q has other.
      ⊎_elim
      (λ same. same)
      (λ now. absurd (other (now.0.place, now.0.volume, (let e : q ≡ r = omega (arith, now.0.low, now.0.high) in e))))
      (part.each k w q has);
}

-- ---- the bits of a place of a link

-- they lie among all bits
pub slot_within : (map : Map) (sizes : List ℕ) (stride slot : ℕ) → AreMapsKept map sizes stride → slot < 8 → 0 < stride → 4096 * (slot * stride) + (4096 * stride - 1) < regions_mapped map
slot_within map sizes stride slot kept low some = fits (slot * stride) stride (8 * stride) (length map.bytes) (slot_before slot 8 stride low) some kept.long where
  fits : (a stride all long : ℕ) → a + stride ≤ all → 0 < stride → long ≡ 512 * all → 4096 * a + (4096 * stride - 1) < 8 * long
  fits a stride all long less some is = omega (arith, less, some, is)

-- and are those that are named
pub slot_starts : (v now : Maps) → v ≡ now → (slot stride start : ℕ) → stride ≡ maps_in v.sizes → start ≡ 4096 * (slot * stride) → start ≡ slot_first now slot
slot_starts v now same slot stride start is at = subst (λ (d : Maps). start ≡ slot_first d slot) same (at ∙ ap (λ (n : ℕ). 4096 * (slot * n)) is)

pub slot_ends : (v now : Maps) → v ≡ now → (slot stride start : ℕ) → stride ≡ maps_in v.sizes → start ≡ 4096 * (slot * stride) → start + (4096 * stride - 1) ≡ slot_last now slot
slot_ends v now same slot stride start is at =
    subst (λ (d : Maps). start + (4096 * stride - 1) ≡ slot_last d slot) same
    (ap (λ (n : ℕ). n + (4096 * stride - 1)) at ∙ ap (λ (n : ℕ). 4096 * (slot * n) + (4096 * n - 1)) is)
