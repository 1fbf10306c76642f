-- Places of regions among those of all maps.
use Rattle.std.proofs.Common.{◌≡◌, ◌∙◌, ⊎_elim, ℕ, ◌+◌, ◌*◌, ◌<◌, ◌≤◌, List, length, take, get_or, sym, ap, subst, arith}
use Rattle.std.specs.Prelude.{slice_index}
use Rattle.std.specs.Int.{div_ceil}
use Rattle.std.proofs.lemmas.Bool.{cases_eq, cases_lt}
use Rattle.std.proofs.lemmas.List.{get_or-take, length-take, take-take}
use Rattle.std.proofs.lemmas.List.Sums.{sum_by_more_le}
use Rattle.vx_model.specs.Sizes.{map_blocks}
use Rattle.vx_bitmap.specs.Maps.{regions_mapped}
use Rattle.vx_bitmap.proofs.Runs.{slot_before}
use Rattle.vx_dcm.specs.Places.{HasMap, HasRegion, AreMapsKept, Maps, map_first, maps_in, region_place, mapped_size}

-- the map of a volume ends within those of a place of a link
pub ends_within : (sizes : List ℕ) (v : ℕ) → v < length sizes → maps_in (take v sizes) + map_blocks (slice_index sizes v) ≤ maps_in sizes
ends_within sizes v lt = sum_by_more_le (λ n. map_blocks n) sizes v 0 lt

carry : (a b c x y : ℕ) → a + b ≤ c → a ≡ x → b ≡ y → x + y ≤ c
carry a b c x y le e f = omega (arith, le, e, f)

-- and before that of a later volume
pub ends_before : (sizes : List ℕ) (v w : ℕ) → v < w → w ≤ length sizes → maps_in (take v sizes) + map_blocks (slice_index sizes v) ≤ maps_in (take w sizes)
ends_before sizes v w lt le =
    carry (maps_in (take v (take w sizes))) (map_blocks (get_or (take w sizes) v 0)) (maps_in (take w sizes)) (maps_in (take v sizes)) (map_blocks (slice_index sizes v))
    (sum_by_more_le (λ n. map_blocks n) (take w sizes) v 0 (omega (arith, lt, le, length-take w sizes)))
    (ap (λ (xs : List ℕ). maps_in xs) (take-take v w sizes (omega (arith, lt))))
    (ap (λ (n : ℕ). map_blocks n) (get_or-take w sizes v 0 lt))

-- a map has a bit for each region
pub in_map : (regions r : ℕ) → r < regions → r < 4096 * div_ceil regions 4096
in_map regions r lt = omega (arith, lt)

earlier_slot : (a b f g n stride q r : ℕ) → f + n ≤ stride → a + stride ≤ b → q < 4096 * n → 4096 * (a + f) + q ≡ 4096 * (b + g) + r → ⊥
earlier_slot a b f g n stride q r within before low same = omega (arith, within, before, low, same)

earlier_volume : (a f g n q r : ℕ) → f + n ≤ g → q < 4096 * n → 4096 * (a + f) + q ≡ 4096 * (a + g) + r → ⊥
earlier_volume a f g n q r before low same = omega (arith, before, low, same)

module _ (sizes : List ℕ) where
  less : (k w q s v r : ℕ) → w < length sizes → v < length sizes → q < 4096 * map_blocks (slice_index sizes w) → (k < s) → 4096 * map_first sizes k w + q ≡ 4096 * map_first sizes s v + r → ⊥
  less k w q s v r w_low v_low q_low lt same =
      earlier_slot (k * maps_in sizes) (s * maps_in sizes) (maps_in (take w sizes)) (maps_in (take v sizes)) (map_blocks (slice_index sizes w)) (maps_in sizes) q r
      (ends_within sizes w w_low) (slot_before k s (maps_in sizes) lt) q_low same

  behind : (k w q v r : ℕ) → v < length sizes → q < 4096 * map_blocks (slice_index sizes w) → (w < v) → 4096 * map_first sizes k w + q ≡ 4096 * map_first sizes k v + r → ⊥
  behind k w q v r v_low q_low lt same =
      earlier_volume (k * maps_in sizes) (maps_in (take w sizes)) (maps_in (take v sizes)) (map_blocks (slice_index sizes w)) q r (ends_before sizes w v lt (omega (arith, v_low))) q_low same

  same_slot : (k w q v r : ℕ) → w < length sizes → v < length sizes → q < 4096 * map_blocks (slice_index sizes w) → r < 4096 * map_blocks (slice_index sizes v)
      → ((w ≡ v) × (q ≡ r) → ⊥) → 4096 * map_first sizes k w + q ≡ 4096 * map_first sizes k v + r → ⊥
  same_slot k w q v r w_low v_low q_low r_low other same =
      ⊎_elim
      (λ (lt : w < v). behind k w q v r v_low q_low lt same)
      (λ (ge : v ≤ w). ⊎_elim
      (λ (eq : w ≡ v). other (eq, (let at : 4096 * map_first sizes k v + q ≡ 4096 * map_first sizes k v + r = subst (λ (n : ℕ). 4096 * map_first sizes k n + q ≡ 4096 * map_first sizes k v + r) eq same in omega (arith, at))))
      (λ (ne : w ≡ v → ⊥). behind k v r w q w_low r_low (omega (arith, ge, ne)) (sym same))
      (cases_eq w v))
      (cases_lt w v)

  -- two regions have different places
  pub apart : (k w q s v r : ℕ) → w < length sizes → v < length sizes → q < 4096 * map_blocks (slice_index sizes w) → r < 4096 * map_blocks (slice_index sizes v)
      → ((k ≡ s) × (w ≡ v) × (q ≡ r) → ⊥) → 4096 * map_first sizes k w + q ≡ 4096 * map_first sizes s v + r → ⊥
  apart k w q s v r w_low v_low q_low r_low other same =
      ⊎_elim
      (λ (lt : k < s). less k w q s v r w_low v_low q_low lt same)
      (λ (ge : s ≤ k). ⊎_elim
      (λ (eq : k ≡ s). same_slot s w q v r w_low v_low q_low r_low (λ both. other (eq, both.0, both.1)) (subst (λ (n : ℕ). 4096 * map_first sizes n w + q ≡ 4096 * map_first sizes s v + r) eq same))
      (λ (ne : k ≡ s → ⊥). less s v r k w q v_low w_low r_low (omega (arith, ge, ne)) (sym same))
      (cases_eq k s))
      (cases_lt k s)

fits : (a f n stride long : ℕ) → f + n ≤ stride → a + stride ≤ 8 * stride → long ≡ 512 * (8 * stride) → 4096 * (a + f) + 4096 * n ≤ 8 * long
fits a f n stride long within before is = omega (arith, within, before, is)

-- the map of a volume lies among all maps
pub map_within : (d : Maps) (stride slot v : ℕ) → AreMapsKept d.map d.sizes stride → HasMap d slot v → region_place d slot v 0 + 4096 * map_blocks (mapped_size d v) ≤ regions_mapped d.map
map_within d stride slot v kept has =
    let is : length d.map.bytes ≡ 512 * (8 * maps_in d.sizes) = kept.long ∙ ap (λ (n : ℕ). 512 * (8 * n)) kept.stride_is in
    let at : 4096 * map_first d.sizes slot v + 4096 * map_blocks (mapped_size d v) ≤ regions_mapped d.map =
    fits (slot * maps_in d.sizes) (maps_in (take v d.sizes)) (map_blocks (mapped_size d v)) (maps_in d.sizes) (length d.map.bytes)
    (ends_within d.sizes v has.volume) (slot_before slot 8 (maps_in d.sizes) has.place) is in
    omega (arith, at)

-- and so does each region of it
pub region_within : (d : Maps) (stride slot v r : ℕ) → AreMapsKept d.map d.sizes stride → HasRegion d slot v r → region_place d slot v r < regions_mapped d.map
region_within d stride slot v r kept has =
    let low : r < 4096 * map_blocks (mapped_size d v) = in_map (div_ceil (mapped_size d v) 64) r has.region in
    let all = map_within d stride slot v kept has.map in
    omega (arith, low, all)

-- different regions have different places
pub regions_apart : (d : Maps) (k w q s v r : ℕ) → HasRegion d k w q → HasRegion d s v r → ((k ≡ s) × (w ≡ v) × (q ≡ r) → ⊥) → region_place d k w q ≡ region_place d s v r → ⊥
regions_apart d k w q s v r one two other same =
    apart d.sizes k w q s v r one.map.volume two.map.volume (in_map (div_ceil (mapped_size d w) 64) q one.region) (in_map (div_ceil (mapped_size d v) 64) r two.region) other same
