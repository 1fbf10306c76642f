-- A change of marks behind another one, as one change.
use Rattle.std.proofs.Common.{◌≡◌, ◌∙◌, ◌⊎◌, inl, inr, ⊎_elim, ℕ, ◌+◌, ◌/◌, ◌%◌, ◌<◌, Bool, true, List, sym, ap, subst, arith}
use Rattle.vx_disk.specs.Moves.{Moves, Run}
use Rattle.vx_disk.specs.Shelf.{Image, Meaning}
use Rattle.vx_disk.proofs.Moving.{goes_on}
use Rattle.vx_bitmap.specs.Bits.{is_marked}
use Rattle.vx_bitmap.specs.Maps.{MapOn, SamePlace, is_marked_in, map_block_count, regions_mapped}
use Rattle.vx_dcm.specs.Places.{HasRegion, MapChanging, Maps, MapsBetween, SomeChanged, has_mark}

module _ (d now new : Maps) (mine own : ℕ → Type 0) (m mid m' : Meaning) (place : SamePlace d.map now.map) (within : (r : ℕ) → own r → mine r)
    (one : SomeChanged mine true (regions_mapped d.map) (is_marked d.map.bytes) (is_marked now.map.bytes)) where
  bits_then : (x y z : Bool) (r : ℕ) → (y ≡ x) ⊎ (mine r × (y ≡ true)) → (z ≡ y) ⊎ (own r × (z ≡ true)) → (z ≡ x) ⊎ (mine r × (z ≡ true))
  bits_then x y z r (inl was) (inl same) = inl (same ∙ was)
  bits_then x y z r (inr set) (inl same) = inr (set.0, same ∙ set.1)
  bits_then x y z r first (inr set) = inr (within r set.0, set.1)

  in_map : (r : ℕ) → r < regions_mapped d.map → r < regions_mapped now.map
  in_map r inside = omega (arith, inside, place.long)

  pub step_bits : SomeChanged own true (regions_mapped now.map) (is_marked now.map.bytes) (is_marked new.map.bytes) → SomeChanged mine true (regions_mapped d.map) (is_marked d.map.bytes) (is_marked new.map.bytes)
  step_bits two = record {
    each = λ r inside. bits_then (is_marked d.map.bytes r) (is_marked now.map.bytes r) (is_marked new.map.bytes r) r (one.each r inside) (two.each r (in_map r inside));
  }

  pub step_moves : (MapOn d.map m → MapOn now.map mid) → Moves (Run d.map.unit d.map.first (map_block_count d.map)) (MapChanging d.map mine true m) m mid
      → Moves (Run now.map.unit now.map.first (map_block_count now.map)) (MapChanging now.map own true mid) mid m' → Moves (Run d.map.unit d.map.first (map_block_count d.map)) (MapChanging d.map mine true m) m m'
  step_moves stands before behind =
      goes_on (Run d.map.unit d.map.first (map_block_count d.map)) (Run now.map.unit now.map.first (map_block_count now.map)) (MapChanging d.map mine true m) (MapChanging now.map own true mid) m mid m' before behind
      (λ u b run. record { there = run.there ∙ place.unit; first = omega (arith, run.first, place.first); last = omega (arith, run.last, place.first, place.long) })
      (λ i beside changing. record {
        each = λ on. record {
          each = λ r inside.
              bits_then (is_marked d.map.bytes r) (is_marked now.map.bytes r) (is_marked_in d.map i r) r (one.each r inside)
              (as_here i r ((changing.each (stands on)).each r (in_map r inside)));
        };
      })
    where
      as_here : (i : Image) (r : ℕ) → (is_marked_in now.map i r ≡ is_marked now.map.bytes r) ⊎ (own r × (is_marked_in now.map i r ≡ true)) → (is_marked_in d.map i r ≡ is_marked now.map.bytes r) ⊎ (own r × (is_marked_in d.map i r ≡ true))
      as_here i r =
          let here : is_marked_in d.map i r ≡ is_marked_in now.map i r
          = ap (λ (u : ℕ). is_marked (i u (d.map.first + r / 4096)) (r % 4096)) (sym place.unit) ∙ ap (λ (f : ℕ). is_marked (i now.map.unit (f + r / 4096)) (r % 4096)) (sym place.first) in
          λ is. ⊎_elim (λ same. inl (here ∙ same)) (λ set. inr (set.0, here ∙ set.1)) is

-- the places of two changes
pub step_place : (d now new : Maps) → SamePlace d.map now.map → SamePlace now.map new.map → SamePlace d.map new.map
step_place d now new one two = record { unit = two.unit ∙ one.unit; first = two.first ∙ one.first; long = two.long ∙ one.long }

-- a region is there behind a change
pub step_region : (d now : Maps) → now.sizes ≡ d.sizes → (k w q : ℕ) → HasRegion d k w q → HasRegion now k w q
step_region d now same k w q has = subst (λ (xs : List ℕ). HasRegion (record { map = now.map; sizes = xs }) k w q) (sym same) (record { map = record { place = has.map.place; volume = has.map.volume }; region = has.region })

-- and what each map tells of them
pub step_part : (d now new : Maps) (mine own : ℕ → ℕ → ℕ → Type 0) → now.sizes ≡ d.sizes → ((k w q : ℕ) → own k w q → mine k w q) → MapsBetween mine true d now → MapsBetween own true now new → MapsBetween mine true d new
step_part d now new mine own same within one two = record {
  each = λ k w q has. by (has_mark d k w q) (has_mark now k w q) (has_mark new k w q) k w q (one.each k w q has) (two.each k w q (step_region d now same k w q has));
}
  where
    by : (x y z : Bool) (k w q : ℕ) → (y ≡ x) ⊎ (mine k w q × (y ≡ true)) → (z ≡ y) ⊎ (own k w q × (z ≡ true)) → (z ≡ x) ⊎ (mine k w q × (z ≡ true))
    by x y z k w q (inl was) (inl same) = inl (same ∙ was)
    by x y z k w q (inr set) (inl same) = inr (set.0, same ∙ set.1)
    by x y z k w q first (inr set) = inr (within k w q set.0, set.1)
