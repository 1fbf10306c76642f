-- Marks that come as bytes, joined to a map run by run.
use Rattle.std.proofs.Common.{◌≡◌, ◌∙◌, ◌⊎◌, inl, ⊎_elim, ℕ, ◌+◌, ◌-◌, ◌*◌, ◌<◌, ◌≤◌, true, false, List, refl, sym, ap, subst, arith}
use Rattle.std.specs.Int.{div_ceil}
use Rattle.std.proofs.lemmas.Bool.{cases_lt}
use Rattle.vx_model.specs.Sizes.{regions_of}
use Rattle.vx_disk.specs.Moves.{Moves, Run}
use Rattle.vx_disk.specs.Shelf.{Meaning}
use Rattle.vx_disk.proofs.Moving.{still}
use Rattle.vx_bitmap.specs.Bits.{AllAre, is_marked}
use Rattle.vx_bitmap.specs.Maps.{MapOn, SamePlace, map_block_count, regions_mapped}
use Rattle.vx_dcm.specs.Joined.{BytesMarked, IsInBytes, IsPlaceInBytes}
use Rattle.vx_dcm.specs.Places.{HasMap, HasRegion, IsPlaceAmong, IsOfRun, MapChanging, Maps, MapsBetween, SomeChanged, has_mark, map_first, mapped_size, region_place}
use Rattle.vx_dcm.proofs.RunMarks.{before_last, behind_first}
use Rattle.vx_dcm.proofs.Steps.{step_bits, step_moves, step_part, step_place, step_region}

-- a byte for each eight regions, and for those that are left
pub bits_inside : (regions long : ℕ) → long ≡ div_ceil regions 8 → regions ≤ 8 * long
bits_inside regions long is = omega (arith, is)

-- each region below n that the bytes have is marked
pub record JoinedTo (d : Maps) (slot v : ℕ) (bytes : List ℕ) (n : ℕ) (now : Maps) (m m' : Meaning) : Type 0 where
  pub place : SamePlace d.map now.map
  pub sizes : now.sizes ≡ d.sizes
  pub part : MapsBetween (IsInBytes slot v bytes) true d now
  pub bits : SomeChanged (IsPlaceInBytes d slot v bytes) true (regions_mapped d.map) (is_marked d.map.bytes) (is_marked now.map.bytes)
  pub all : (q : ℕ) → q < n → q < regions_of (mapped_size d v) → is_marked bytes q ≡ true → has_mark now slot v q ≡ true
  pub moves : Moves (Run d.map.unit d.map.first (map_block_count d.map)) (MapChanging d.map (IsPlaceInBytes d slot v bytes) true m) m m'
  pub stands : MapOn d.map m → MapOn now.map m'

pub joined_none : (d : Maps) (slot v : ℕ) (bytes : List ℕ) (m : Meaning) → JoinedTo d slot v bytes 0 d m m
joined_none d slot v bytes m = record {
  place = record { unit = refl; first = refl; long = refl };
  sizes = refl;
  part = record { each = λ k w q has. inl refl };
  bits = record { each = λ r low. inl refl };
  all = λ q low. absurd (omega (arith, low));
  moves = still (Run d.map.unit d.map.first (map_block_count d.map)) (MapChanging d.map (IsPlaceInBytes d slot v bytes) true m) m;
  stands = λ on. on;
}

-- a region that the bytes do not have is passed
pub joined_pass : (d : Maps) (slot v : ℕ) (bytes : List ℕ) (n end : ℕ) (now : Maps) (m m' : Meaning) → JoinedTo d slot v bytes n now m m' → n ≤ end → (n < end → ⊥) → (end < regions_of (mapped_size d v) → is_marked bytes end ≡ false)
    → JoinedTo d slot v bytes (end + 1) now m m'
joined_pass d slot v bytes n end now m m' done low none past = record {
  place = done.place;
  sizes = done.sizes;
  part = done.part;
  bits = done.bits;
  all = λ q below inside has.
      ⊎_elim
      (λ (lt : q < n). done.all q lt inside has)
      (λ (ge : n ≤ q). absurd (not_both q has (same q (⊎_elim (λ (lt : n < end). absurd (none lt)) (λ (le : end ≤ n). let e : q ≡ end = omega (arith, below, ge, le, low) in e) (cases_lt n end)) inside)))
      (cases_lt q n);
  moves = done.moves;
  stands = done.stands;
}
  where
    same : (q : ℕ) → q ≡ end → q < regions_of (mapped_size d v) → is_marked bytes q ≡ false
    same q is inside = subst (λ (r : ℕ). is_marked bytes r ≡ false) (sym is) (past (subst (λ (r : ℕ). r < regions_of (mapped_size d v)) is inside))

    not_both : (q : ℕ) → is_marked bytes q ≡ true → is_marked bytes q ≡ false → ⊥
    not_both q one two = let wrong : true ≡ false = sym one ∙ two in cc

module _ (d : Maps) (slot v : ℕ) (bytes : List ℕ) (n end : ℕ) (now new : Maps) (m mid m' : Meaning) (exists : HasMap d slot v) (done : JoinedTo d slot v bytes n now m mid) (some : n < end) (high : end ≤ regions_of (mapped_size d v))
    (have : (q : ℕ) → n ≤ q → q < end → is_marked bytes q ≡ true) where
  last_region : HasRegion d slot v (end - 1)
  last_region = record { map = exists; region = omega (arith, some, high) }

  pub joined_region : HasRegion now slot v (end - 1)
  joined_region = step_region d now done.sizes slot v (end - 1) last_region

  among_as : (r : ℕ) → IsPlaceAmong (region_place now slot v n) (region_place now slot v (end - 1)) r → IsPlaceInBytes d slot v bytes r
  among_as r among =
      let first = behind_first (map_first now.sizes slot v) r n among.low in
      let q : ℕ = r - 4096 * map_first now.sizes slot v in
      let last = before_last (map_first now.sizes slot v) r (end - 1) among.high in
      record {
        region = q;
        inside = omega (arith, last, some, high);
        has = have q first.1 (omega (arith, last, some));
        is = first.0 ∙ ap (λ (xs : List ℕ). 4096 * map_first xs slot v + q) done.sizes;
      }

  module _ (place : SamePlace now.map new.map) (sizes : new.sizes ≡ now.sizes) (part : MapsBetween (IsOfRun slot v n (end - 1)) true now new)
      (bits : SomeChanged (IsPlaceAmong (region_place now slot v n) (region_place now slot v (end - 1))) true (regions_mapped now.map) (is_marked now.map.bytes) (is_marked new.map.bytes))
      (moves : Moves (Run now.map.unit now.map.first (map_block_count now.map)) (MapChanging now.map (IsPlaceAmong (region_place now slot v n) (region_place now slot v (end - 1))) true mid) mid m') where
    -- whatever the step answers
    pub joined_bits : SomeChanged (IsPlaceInBytes d slot v bytes) true (regions_mapped d.map) (is_marked d.map.bytes) (is_marked new.map.bytes)
    joined_bits = step_bits d now new (IsPlaceInBytes d slot v bytes) (IsPlaceAmong (region_place now slot v n) (region_place now slot v (end - 1))) m mid m' done.place among_as done.bits bits

    pub joined_moves : Moves (Run d.map.unit d.map.first (map_block_count d.map)) (MapChanging d.map (IsPlaceInBytes d slot v bytes) true m) m m'
    joined_moves =
        step_moves d now new (IsPlaceInBytes d slot v bytes) (IsPlaceAmong (region_place now slot v n) (region_place now slot v (end - 1))) m mid m' done.place among_as done.bits done.stands done.moves moves

    pub joined_place : SamePlace d.map new.map
    joined_place = step_place d now new done.place place

    pub joined_part : MapsBetween (IsInBytes slot v bytes) true d new
    joined_part =
        step_part d now new (IsInBytes slot v bytes) (IsOfRun slot v n (end - 1)) done.sizes
        (λ k w q run. record { place = run.place; volume = run.volume; has = have q run.low (omega (arith, run.high, some)) }) done.part part

    pub joined_next : AllAre n (end - 1) true (has_mark new slot v) → (end < regions_of (mapped_size d v) → is_marked bytes end ≡ false) → (MapOn now.map mid → MapOn new.map m') → JoinedTo d slot v bytes (end + 1) new m m'
    joined_next all past stands = record {
      place = joined_place;
      sizes = sizes ∙ done.sizes;
      part = joined_part;
      bits = joined_bits;
      all = λ q below inside has.
          ⊎_elim
          (λ (lt : q < n). still_marked q inside (done.all q lt inside has))
          (λ (ge : n ≤ q). ⊎_elim
          (λ (lt : q < end). all.each q ge (omega (arith, lt)))
          (λ (le : end ≤ q). absurd (not_both q has (same q (let e : q ≡ end = omega (arith, below, le) in e) inside)))
          (cases_lt q end))
          (cases_lt q n);
      moves = joined_moves;
      stands = λ on. stands (done.stands on);
    }
      where
        still_marked : (q : ℕ) → q < regions_of (mapped_size d v) → has_mark now slot v q ≡ true → has_mark new slot v q ≡ true
        still_marked q inside was = ⊎_elim (λ same. same ∙ was) (λ set. set.1) (part.each slot v q (step_region d now done.sizes slot v q (record { map = exists; region = inside })))

        same : (q : ℕ) → q ≡ end → q < regions_of (mapped_size d v) → is_marked bytes q ≡ false
        same q is inside = subst (λ (r : ℕ). is_marked bytes r ≡ false) (sym is) (past (subst (λ (r : ℕ). r < regions_of (mapped_size d v)) is inside))

        not_both : (q : ℕ) → is_marked bytes q ≡ true → is_marked bytes q ≡ false → ⊥
        not_both q one two = let wrong : true ≡ false = sym one ∙ two in cc

  -- where all were marked, those of the run are
  pub joined_were : BytesMarked slot v bytes d → AllAre n (end - 1) true (has_mark now slot v)
  joined_were all = record {
    each = λ q from to.
        let inside : q < regions_of (mapped_size d v) = omega (arith, to, some, high) in
        ⊎_elim
        (λ same. same ∙ all.each q inside (have q from (omega (arith, to, some))))
        (λ set. set.1)
        (done.part.each slot v q (record { map = exists; region = inside }));
  }
