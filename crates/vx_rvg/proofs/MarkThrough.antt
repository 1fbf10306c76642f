-- Marks that are made one after another, as one change of marks.
use Rattle.std.proofs.Common.{◌≡◌, ◌∙◌, ◌⊎◌, inl, inr, ℕ, suc, ◌+◌, ◌/◌, ◌<◌, Bool, true, false, List, [], ◌∷◌, length, get_or, refl, sym, ap, subst, arith}
use Rattle.std.specs.Prelude.{if◌then◌else◌, ltb}
use Rattle.std.proofs.lemmas.Bool.{ltb-true}
use Rattle.std.proofs.lemmas.Option.{slice_get-get_or}
use Rattle.vx_model.specs.Content.{block_of}
use Rattle.vx_disk.specs.Moves.{Moves}
use Rattle.vx_disk.specs.Shelf.{Meaning}
use Rattle.vx_disk.proofs.Moving.{goes_on, still}
use Rattle.vx_bitmap.specs.Bits.{is_marked}
use Rattle.vx_bitmap.specs.Maps.{SamePlace, map_block_count, regions_mapped}
use Rattle.vx_dcm.specs.Places.{HasRegion, Maps, MapsBetween, SomeChanged, has_mark}
use Rattle.vx_rvg.specs.Holdings.{Holding}
use Rattle.vx_rvg.specs.Marks.{HasAllMaps, Marking, MarksBetween, Remarks, blocks_over, map_run, marked_in, with_blocks_of_maps, with_marks}
use Rattle.vx_rvg.specs.Stands.{FoundAs, HasMarks, Stands}
use Rattle.vx_rvg.specs.Views.{Core, IsSound}
use Rattle.vx_rvg.proofs.MarkedStands.{over_between}
use Rattle.vx_rvg.proofs.MarkStands.{over_long}

-- ---- blocks of maps over others

-- over themselves
over_same : (bytes : List ℕ) (count k : ℕ) (maps : List (List ℕ)) → ((j : ℕ) → j < length maps → k + j < count → get_or maps j [] ≡ block_of bytes (k + j)) → blocks_over bytes count k maps ≡ maps
over_same bytes count k [] same = refl
over_same bytes count k (x ∷ xs) same =
    ap (λ (y : List ℕ). y ∷ blocks_over bytes count (suc k) xs) (head (ltb k count) refl)
    ∙ ap (λ (ys : List (List ℕ)). x ∷ ys)
    (over_same bytes count (suc k) xs (λ j low lt. let e : suc k + j ≡ k + suc j = omega arith in same (suc j) (omega (arith, low)) (omega (arith, lt)) ∙ ap (λ (n : ℕ). block_of bytes n) (sym e)))
  where
    head : (t : Bool) → ltb k count ≡ t → (if t then block_of bytes k else x) ≡ x
    head true is = let e : k + 0 ≡ k = omega arith in sym (same 0 (omega arith) (omega (arith, ltb-true k count is)) ∙ ap (λ (n : ℕ). block_of bytes n) e)
    head false is = refl

-- over those of a map with as many
over_over : (one two : List ℕ) (other count k : ℕ) (maps : List (List ℕ)) → other ≡ count → blocks_over two count k (blocks_over one other k maps) ≡ blocks_over two count k maps
over_over one two other count k [] is = refl
over_over one two other count k (x ∷ xs) is =
    ap (λ (y : List ℕ). y ∷ blocks_over two count (suc k) (blocks_over one other (suc k) xs)) (head (ltb k count) (ltb k other) (ap (λ (n : ℕ). ltb k n) is))
    ∙ ap (λ (ys : List (List ℕ)). (if ltb k count then block_of two k else x) ∷ ys) (over_over one two other count (suc k) xs is)
  where
    head : (t u : Bool) → u ≡ t → (if t then block_of two k else (if u then block_of one k else x)) ≡ (if t then block_of two k else x)
    head true u same = refl
    head false u same = ap (λ (b : Bool). if b then block_of one k else x) same

marks_over : (d : Maps) (h : Holding) → HasMarks d h.maps → with_marks d h ≡ h
marks_over d h marks =
    ap (λ (maps : List (List ℕ)). with_blocks_of_maps maps h)
    (over_same d.map.bytes (map_block_count d.map) 0 h.maps
    (λ j low lt. let e : 0 + j ≡ j = omega arith in
    marks.each j (get_or h.maps j []) (omega (arith, lt)) (slice_get-get_or h.maps j [] low) ∙ ap (λ (n : ℕ). block_of d.map.bytes n) (sym e)))

-- ---- marks one after another

-- the group has marked some of these places, all of them for one place of a link, and nothing else of it changed
pub record MarkedThrough (core c' : Core) (slot : ℕ) (mine : ℕ → Type 0) (m m' : Meaning) : Type 0 where
  pub is : c' ≡ record core { maps = c'.maps }
  pub place : SamePlace core.maps.map c'.maps.map
  pub sizes : c'.maps.sizes ≡ core.maps.sizes
  pub part : MapsBetween (λ k w q. k ≡ slot) true core.maps c'.maps
  pub bits : SomeChanged mine true (regions_mapped core.maps.map) (is_marked core.maps.map.bytes) (is_marked c'.maps.map.bytes)
  pub remarks : Remarks core c' m m'
  pub moves : Moves (map_run core) (Marking core mine true m) m m'

pub remarks_none : (core : Core) (m : Meaning) → Remarks core core m m
remarks_none core m = record { each = λ h stands all. subst (λ (x : Holding). Stands core x m) (sym (marks_over core.maps h stands.marks)) stands }

pub through_none : (core : Core) (slot : ℕ) (mine : ℕ → Type 0) (m : Meaning) → MarkedThrough core core slot mine m m
through_none core slot mine m = record {
  is = refl;
  place = record { unit = refl; first = refl; long = refl };
  sizes = refl;
  part = record { each = λ k w q has. inl refl };
  bits = record { each = λ r low. inl refl };
  remarks = remarks_none core m;
  moves = still (map_run core) (Marking core mine true m) m;
}

module _ (core mid new : Core) (slot : ℕ) (mine own : ℕ → Type 0) (m m1 m2 : Meaning) (sound : IsSound core m) (sound1 : IsSound mid m1) (one : MarkedThrough core mid slot mine m m1)
    (within : (r : ℕ) → own r → mine r) where
  mid_all : (h : Holding) → HasAllMaps core.maps h.maps → HasAllMaps mid.maps (with_marks mid.maps h).maps
  mid_all h all = let long = over_long mid.maps.map.bytes (map_block_count mid.maps.map) 0 h.maps in omega (arith, all, long, one.place.long)

  bits_then : (x y z : Bool) (r : ℕ) → (y ≡ x) ⊎ (mine r × (y ≡ true)) → (z ≡ y) ⊎ (own r × (z ≡ true)) → (z ≡ x) ⊎ (mine r × (z ≡ true))
  bits_then x y z r (inl was) (inl same) = inl (same ∙ was)
  bits_then x y z r (inr set) (inl same) = inr (set.0, same ∙ set.1)
  bits_then x y z r first (inr set) = inr (within r set.0, set.1)

  -- whatever the step answers
  pub next_moves : Moves (map_run mid) (Marking mid own true m1) m1 m2 → Moves (map_run core) (Marking core mine true m) m m2
  next_moves moves =
      goes_on (map_run core) (map_run mid) (Marking core mine true m) (Marking mid own true m1) m m1 m2 one.moves moves
      (λ u b run. record { there = run.there ∙ ap (λ (k : Core). k.units.maps) one.is; first = omega arith; last = omega (arith, run.last, one.place.long) })
      (λ i beside marking. record {
        each = λ h stands all.
            let got = marking.each (with_marks mid.maps h) (one.remarks.each h stands all) (mid_all h all) in
            (got.0, between_then h stands all got.0 got.1, subst (λ (k : Core). FoundAs k i (with_blocks_of_maps got.0 h)) one.is got.2);
      })
    where
      between_then : (h : Holding) → Stands core h m → HasAllMaps core.maps h.maps → (maps : List (List ℕ)) → MarksBetween mid.maps own true (with_marks mid.maps h).maps maps → MarksBetween core.maps mine true h.maps maps
      between_then h stands all maps then_between =
          let before = over_between core mid one.is mine m m1 sound sound1 one.remarks one.bits one.place.long h stands all in
          record {
            long = then_between.long ∙ before.long;
            rest = λ b high. then_between.rest b (omega (arith, high, one.place.long)) ∙ before.rest b high;
            marks = record {
              each = λ r low.
                  bits_then (marked_in h.maps r) (marked_in (with_marks mid.maps h).maps r) (marked_in maps r) r (before.marks.each r low) (then_between.marks.each r (omega (arith, low, one.place.long)));
            };
          }

  pub next_part : MapsBetween (λ k w q. k ≡ slot) true mid.maps new.maps → MapsBetween (λ k w q. k ≡ slot) true core.maps new.maps
  next_part then_part = record {
    each = λ k w q has. part_then (has_mark core.maps k w q) (has_mark mid.maps k w q) (has_mark new.maps k w q) k (one.part.each k w q has) (then_part.each k w q (there k w q has));
  }
    where
      part_then : (x y z : Bool) (k : ℕ) → (y ≡ x) ⊎ ((k ≡ slot) × (y ≡ true)) → (z ≡ y) ⊎ ((k ≡ slot) × (z ≡ true)) → (z ≡ x) ⊎ ((k ≡ slot) × (z ≡ true))
      part_then x y z k (inl was) (inl same) = inl (same ∙ was)
      part_then x y z k (inr set) (inl same) = inr (set.0, same ∙ set.1)
      part_then x y z k first (inr set) = inr set

      there : (k w q : ℕ) → HasRegion core.maps k w q → HasRegion mid.maps k w q
      there k w q has = subst (λ (xs : List ℕ). HasRegion (record { map = mid.maps.map; sizes = xs }) k w q) (sym one.sizes) (record { map = record { place = has.map.place; volume = has.map.volume }; region = has.region })

  module _ (step : MarkedThrough mid new slot own m1 m2) where
    pub through_next : MarkedThrough core new slot mine m m2
    through_next = record {
      is = step.is ∙ ap (λ (k : Core). record k { maps = new.maps }) one.is;
      place = record { unit = step.place.unit ∙ one.place.unit; first = step.place.first ∙ one.place.first; long = step.place.long ∙ one.place.long };
      sizes = step.sizes ∙ one.sizes;
      part = next_part step.part;
      bits = record {
        each = λ r low. bits_then (is_marked core.maps.map.bytes r) (is_marked mid.maps.map.bytes r) (is_marked new.maps.map.bytes r) r (one.bits.each r low) (step.bits.each r (omega (arith, low, one.place.long)));
      };
      remarks = record {
        each = λ h stands all.
            subst (λ (x : Holding). Stands new x m2)
            (ap (λ (maps : List (List ℕ)). with_blocks_of_maps maps h)
            (over_over mid.maps.map.bytes new.maps.map.bytes (map_block_count mid.maps.map) (map_block_count new.maps.map) 0 h.maps (ap (λ (n : ℕ). n / 512) (sym step.place.long))))
            (step.remarks.each (with_marks mid.maps h) (one.remarks.each h stands all) (mid_all h all));
      };
      moves = next_moves step.moves;
    }
