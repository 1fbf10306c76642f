-- A change of a run of regions in the maps of several places of a link, one place after another.
use Rattle.std.proofs.Common.{◌≡◌, ◌∙◌, ◌⊎◌, inl, inr, ⊎_elim, ℕ, ◌+◌, ◌-◌, ◌*◌, ◌<◌, ◌≤◌, Bool, true, false, List, length, refl, sym, ap, subst, arith}
use Rattle.std.proofs.lemmas.Bool.{cases_eq}
use Rattle.vx_model.specs.Sizes.{regions_of}
use Rattle.vx_model.specs.declared.no.No.{No}
use Rattle.vx_model.specs.declared.no.No.TheVariants.{Device, Down}
use Rattle.vx_disk.specs.Causes.{DeviceCause}
use Rattle.vx_disk.specs.Moves.{Moves, Run, Says}
use Rattle.vx_disk.specs.Shelf.{Meaning}
use Rattle.vx_disk.proofs.Moving.{still}
use Rattle.vx_bitmap.specs.Bits.{AllAre, bit, is_marked}
use Rattle.vx_bitmap.specs.Maps.{Lies, MapOn, SamePlace, map_block_count, regions_mapped}
use Rattle.vx_dcm.specs.Places.{HasRegion, IsPlaceAmong, IsOfRun, IsOfSlots, IsPlaceOfSlots, MapChanging, Maps, MapsBetween, SlotsMarked, SomeChanged, has_mark, map_first, mapped_size, region_place}
use Rattle.vx_dcm.proofs.RunMarks.{before_last, behind_first}
use Rattle.vx_dcm.proofs.Steps.{step_bits, step_moves, step_part, step_place}

-- the maps of the places below n are done
pub record SlotsDone (d : Maps) (marks v first last n : ℕ) (now : Maps) (m m' : Meaning) : Type 0 where
  pub place : SamePlace d.map now.map
  pub sizes : now.sizes ≡ d.sizes
  pub part : MapsBetween (IsOfSlots marks v first last) true d now
  pub bits : SomeChanged (IsPlaceOfSlots d marks v first last) true (regions_mapped d.map) (is_marked d.map.bytes) (is_marked now.map.bytes)
  pub all : (k : ℕ) → k < n → bit marks k ≡ true → AllAre first last true (has_mark now k v)
  pub moves : Moves (Run d.map.unit d.map.first (map_block_count d.map)) (MapChanging d.map (IsPlaceOfSlots d marks v first last) true m) m m'
  pub stands : MapOn d.map m → MapOn now.map m'

pub slots_none : (d : Maps) (marks v first last : ℕ) (m : Meaning) → SlotsDone d marks v first last 0 d m m
slots_none d marks v first last m = record {
  place = record { unit = refl; first = refl; long = refl };
  sizes = refl;
  part = record { each = λ k w q has. inl refl };
  bits = record { each = λ r low. inl refl };
  all = λ k low. absurd (omega (arith, low));
  moves = still (Run d.map.unit d.map.first (map_block_count d.map)) (MapChanging d.map (IsPlaceOfSlots d marks v first last) true m) m;
  stands = λ on. on;
}

-- a place that is not named is done
pub slots_pass : (d : Maps) (marks v first last n : ℕ) (now : Maps) (m m' : Meaning) → SlotsDone d marks v first last n now m m' → bit marks n ≡ false → SlotsDone d marks v first last (n + 1) now m m'
slots_pass d marks v first last n now m m' done not = record {
  place = done.place;
  sizes = done.sizes;
  part = done.part;
  bits = done.bits;
  all = λ k low named.
      ⊎_elim
      (λ (same : k ≡ n). absurd (both (bit marks k) (ap (λ (j : ℕ). bit marks j) same ∙ not) named))
      (λ (other : k ≡ n → ⊥). done.all k (omega (arith, low, other)) named)
      (cases_eq k n);
  moves = done.moves;
  stands = done.stands;
}
  where
    both : (b : Bool) → b ≡ false → b ≡ true → ⊥
    both b one two = let wrong : false ≡ true = sym one ∙ two in cc

-- the regions of the volume are there in each map
pub region_in : (d now : Maps) (n v r : ℕ) → now.sizes ≡ d.sizes → n < 8 → HasRegion d 0 v r → HasRegion now n v r
region_in d now n v r same low has = record {
  map = record { place = low; volume = subst (λ (xs : List ℕ). v < length xs) (sym same) has.map.volume };
  region = subst (λ (xs : List ℕ). r < regions_of (mapped_size (record { map = d.map; sizes = xs }) v)) (sym same) has.region;
}

module _ (d : Maps) (marks v first last n : ℕ) (now new : Maps) (m mid m' : Meaning) (done : SlotsDone d marks v first last n now m mid) (low : n < 8) (named : bit marks n ≡ true)
    (place : SamePlace now.map new.map) (sizes : new.sizes ≡ now.sizes) (part : MapsBetween (IsOfRun n v first last) true now new)
    (bits : SomeChanged (IsPlaceAmong (region_place now n v first) (region_place now n v last)) true (regions_mapped now.map) (is_marked now.map.bytes) (is_marked new.map.bytes))
    (moves : Moves (Run now.map.unit now.map.first (map_block_count now.map)) (MapChanging now.map (IsPlaceAmong (region_place now n v first) (region_place now n v last)) true mid) mid m') where
  place_as : (r : ℕ) → region_place now n v r ≡ region_place d n v r
  place_as r = ap (λ (xs : List ℕ). 4096 * map_first xs n v + r) done.sizes

  among_as : (r : ℕ) → IsPlaceAmong (region_place now n v first) (region_place now n v last) r → IsPlaceOfSlots d marks v first last r
  among_as r among = record {
    slot = n;
    exists = low;
    named = named;
    among = record { low = subst (λ (k : ℕ). k ≤ r) (place_as first) among.low; high = subst (λ (k : ℕ). r ≤ k) (place_as last) among.high };
  }

  -- whatever the step answers
  pub slots_bits : SomeChanged (IsPlaceOfSlots d marks v first last) true (regions_mapped d.map) (is_marked d.map.bytes) (is_marked new.map.bytes)
  slots_bits = step_bits d now new (IsPlaceOfSlots d marks v first last) (IsPlaceAmong (region_place now n v first) (region_place now n v last)) m mid m' done.place among_as done.bits bits

  pub slots_moves : Moves (Run d.map.unit d.map.first (map_block_count d.map)) (MapChanging d.map (IsPlaceOfSlots d marks v first last) true m) m m'
  slots_moves =
      step_moves d now new (IsPlaceOfSlots d marks v first last) (IsPlaceAmong (region_place now n v first) (region_place now n v last)) m mid m' done.place among_as done.bits
      done.stands done.moves moves

  pub slots_place : SamePlace d.map new.map
  slots_place = step_place d now new done.place place

  pub slots_sizes : new.sizes ≡ d.sizes
  slots_sizes = sizes ∙ done.sizes

  pub slots_part : MapsBetween (IsOfSlots marks v first last) true d new
  slots_part =
      step_part d now new (IsOfSlots marks v first last) (IsOfRun n v first last) done.sizes
      (λ k w q run. record { named = ap (λ (j : ℕ). bit marks j) run.place ∙ named; run = record { place = refl; volume = run.volume; low = run.low; high = run.high } }) done.part part

  pub slots_next : HasRegion d 0 v last → AllAre first last true (has_mark new n v) → (MapOn now.map mid → MapOn new.map m') → SlotsDone d marks v first last (n + 1) new m m'
  slots_next has all stands = record {
    place = slots_place;
    sizes = slots_sizes;
    part = slots_part;
    bits = slots_bits;
    all = λ k lt is_named.
        ⊎_elim
        (λ (same : k ≡ n). subst (λ (j : ℕ). AllAre first last true (has_mark new j v)) (sym same) all)
        (λ (other : k ≡ n → ⊥). record { each = λ r from to. still_marked k r (region_in d now k v r done.sizes (omega (arith, lt, low)) (below r to)) ((done.all k (omega (arith, lt, other)) is_named).each r from to) })
        (cases_eq k n);
    moves = slots_moves;
    stands = λ on. stands (done.stands on);
  }
    where
      below : (r : ℕ) → r ≤ last → HasRegion d 0 v r
      below r le = record { map = has.map; region = omega (arith, le, has.region) }

      still_marked : (k r : ℕ) → HasRegion now k v r → has_mark now k v r ≡ true → has_mark new k v r ≡ true
      still_marked k r there was = ⊎_elim (λ same. same ∙ was) (λ set. set.1) (part.each k v r there)

-- where all were marked, the next place's are
pub slots_were : (d : Maps) (marks v first last n : ℕ) (now : Maps) (m m' : Meaning) → SlotsDone d marks v first last n now m m' → HasRegion d 0 v last → SlotsMarked marks v first last d → n < 8 → bit marks n ≡ true
    → AllAre first last true (has_mark now n v)
slots_were d marks v first last n now m m' done has all low named = record {
  each = λ r from to.
      ⊎_elim
      (λ same. same ∙ (all.each n low named).each r from to)
      (λ set. set.1)
      (done.part.each n v r (region_in d d n v r refl low (record { map = has.map; region = omega (arith, to, has.region) })));
}

pub lies_then : (d now : Maps) (m m' : Meaning) (P : Says) → SamePlace d.map now.map → Moves (Run d.map.unit d.map.first (map_block_count d.map)) P m m' → Lies d.map m → Lies now.map m'
lies_then d now m m' P place moves lies = record {
  exists = omega (arith, lies.exists, place.unit, moves.units);
  within = subst (λ (u : ℕ). now.map.first + map_block_count now.map ≤ m'.size u) (sym place.unit) (omega (arith, lies.within, place.first, place.long, moves.size d.map.unit));
}

-- where all of them are marked, so is each of their places
pub slots_all : (d new : Maps) (marks v first last : ℕ) → new.sizes ≡ d.sizes → SlotsMarked marks v first last new → (r : ℕ) → IsPlaceOfSlots d marks v first last r → is_marked new.map.bytes r ≡ true
slots_all d new marks v first last same all r own =
    let at = behind_first (map_first d.sizes own.slot v) r first own.among.low in
    ap (λ (n : ℕ). is_marked new.map.bytes n) (at.0 ∙ ap (λ (xs : List ℕ). 4096 * map_first xs own.slot v + (r - 4096 * map_first d.sizes own.slot v)) (sym same))
    ∙ (all.each own.slot own.exists own.named).each (r - 4096 * map_first d.sizes own.slot v) at.1 (before_last (map_first d.sizes own.slot v) r last own.among.high)

-- a later cause is one from the start
pub cause_since : (old mid new : Meaning) (why : No) → ((d : ℕ) → old.disk_faults d ≤ mid.disk_faults d) → DeviceCause mid new why → DeviceCause old new why
cause_since old mid new (Device disk) counts cause = record {
  fell_not = omega (arith, counts disk, cause.fell_not);
  rose = ⊎_elim (λ lt. inl (omega (arith, counts disk, lt))) (λ top. inr top) cause.rose;
}
cause_since old mid new Down counts cause = cause
cause_since old mid new other counts cause = absurd cause
