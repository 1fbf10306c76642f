-- The volumes of a group by what each is to a replicated volume group: its data volumes lie in the group, and no other volume is one of them, so that there are
-- as many volumes as the group has.
use Rattle.std.proofs.Common.{◌≡◌, ◌∙◌, ◌+◌, ◌<◌, ◌≤◌, ℕ, zero, suc, Bool, true, false, List, [], ◌∷◌, ◌++◌, length, take, refl, ap, sym, subst, arith}
use Rattle.std.proofs.lemmas.Bool.{cases_eq, eqb-true}
use Rattle.std.proofs.lemmas.Bool.Decides.{nat_tests}
use Rattle.std.specs.List.{list_all, list_any}
use Rattle.std.specs.Prelude.{◌==◌, ◌&&◌, ◌||◌, Option, Some, None, nat_le, nat_lt, not, slice_get, unwrap_or}
use Rattle.vx_model.proofs.Tests.{and_left, and_right}
use Rattle.vx_model.specs.declared.limits.TheConstants.{LEAST_BLOCKS, LINK_PLACES, MOST_DATA_VOLUMES}
use Rattle.vx_model.specs.declared.units.Units.{Units}
use Rattle.vx_config.specs.Checks.{blocks_of, is_group, map_blocks_of, other_than, pairwise}
use Rattle.vx_config.specs.declared.entry.VolumeEntry.{VolumeEntry}
use Rattle.std.specs.List.{sum_by}
use Rattle.std.specs.Prelude.{◌*◌}
use Rattle.vx_order.specs.declared.facts.VolumeFacts.{VolumeFacts}
use Rattle.vx_events.specs.RvgViews.{is_data_unit, kinded, others_from, unless_data}

-- ---- one volume more

unless_more : (skips : Bool) (v : VolumeFacts) (xs ys : List VolumeFacts) → unless_data skips v (xs ++ ys) ≡ unless_data skips v xs ++ ys
unless_more true v xs ys = refl
unless_more false v xs ys = refl

others_next : (units : Units) (k n : ℕ) (vs : List VolumeEntry) (v : VolumeEntry) → slice_get vs n ≡ Some v
    → others_from units k (take (n + 1) vs) ≡ others_from units k (take n vs) ++ unless_data (is_data_unit units.vols (k + n)) (kinded units (k + n) v) []
others_next units k n [] v e = absurd (cc)
others_next units k zero (x ∷ xs) v e =
    let same : x ≡ v = ap (λ (o : Option VolumeEntry). unwrap_or o x) e in
    let place : k + 0 ≡ k = omega arith in
    rw (place, sym same) refl
others_next units k (suc n) (x ∷ xs) v e =
    let place : k + suc n ≡ (k + 1) + n = omega arith in
    let more : suc n + 1 ≡ suc (n + 1) = omega arith in
    rw (place, more)
    (ap (λ (fs : List VolumeFacts). unless_data (is_data_unit units.vols k) (kinded units k x) fs) (others_next units (k + 1) n xs v e)
    ∙ unless_more (is_data_unit units.vols k) (kinded units k x) (others_from units (k + 1) (take n xs)) (unless_data (is_data_unit units.vols ((k + 1) + n)) (kinded units ((k + 1) + n) v) []))

pub others_more : (units : Units) (n : ℕ) (vs : List VolumeEntry) (v : VolumeEntry) → slice_get vs n ≡ Some v
    → others_from units 0 (take (n + 1) vs) ≡ others_from units 0 (take n vs) ++ unless_data (is_data_unit units.vols n) (kinded units n v) []
others_more units n vs v e =
    let place : 0 + n ≡ n = omega arith in
    others_next units 0 n vs v e
    ∙ ap (λ (k : ℕ). others_from units 0 (take n vs) ++ unless_data (is_data_unit units.vols k) (kinded units k v) []) place

-- a first part has no more of them
pub others_part : (units : Units) (k n : ℕ) (vs : List VolumeEntry) → length (others_from units k (take n vs)) ≤ length (others_from units k vs)
others_part units k zero vs = omega arith
others_part units k (suc n) [] = omega arith
others_part units k (suc n) (v ∷ vs) = by (is_data_unit units.vols k) (others_part units (k + 1) n vs)
  where
    by : (b : Bool) → length (others_from units (k + 1) (take n vs)) ≤ length (others_from units (k + 1) vs)
        → length (unless_data b (kinded units k v) (others_from units (k + 1) (take n vs))) ≤ length (unless_data b (kinded units k v) (others_from units (k + 1) vs))
    by true less = less
    by false less = omega (arith, less)

-- ---- how many of so many places, from this one on, are data volumes

abbrev one_if : (b : Bool) → ℕ → ℕ
one_if true n = suc n
one_if false n = n

abbrev marked : (places : List ℕ) (k n : ℕ) → ℕ
marked places k zero = 0
marked places k (suc n) = one_if (is_data_unit places k) (marked places (k + 1) n)

-- and the others are the rest
others_rest : (units : Units) (k : ℕ) (vs : List VolumeEntry) → length (others_from units k vs) + marked units.vols k (length vs) ≡ length vs
others_rest units k [] = refl
others_rest units k (v ∷ vs) = by (is_data_unit units.vols k) (others_rest units (k + 1) vs)
  where
    by : (b : Bool) → length (others_from units (k + 1) vs) + marked units.vols (k + 1) (length vs) ≡ length vs
        → length (unless_data b (kinded units k v) (others_from units (k + 1) vs)) + one_if b (marked units.vols (k + 1) (length vs)) ≡ suc (length vs)
    by true e = omega (arith, e)
    by false e = omega (arith, e)

more_marked : (u : ℕ) (us : List ℕ) (k n : ℕ) → marked us k n ≤ marked (u ∷ us) k n
more_marked u us k zero = omega arith
more_marked u us k (suc n) = by (u == k) (is_data_unit us k) (more_marked u us (k + 1) n)
  where
    by : (a b : Bool) → marked us (k + 1) n ≤ marked (u ∷ us) (k + 1) n → one_if b (marked us (k + 1) n) ≤ one_if (a || b) (marked (u ∷ us) (k + 1) n)
    by true true less = omega (arith, less)
    by true false less = omega (arith, less)
    by false true less = omega (arith, less)
    by false false less = less

-- a place that is not among them is one more
one_marked : (u : ℕ) (us : List ℕ) (k n : ℕ) → is_data_unit us u ≡ false → k ≤ u → u < k + n → suc (marked us k n) ≤ marked (u ∷ us) k n
one_marked u us k zero none least less = absurd (omega (arith, least, less))
one_marked u us k (suc n) none least less = by (λ past. one_marked u us (k + 1) n none past (omega (arith, less))) (u == k) refl (is_data_unit us k) refl
  where
    by : (k + 1 ≤ u → suc (marked us (k + 1) n) ≤ marked (u ∷ us) (k + 1) n) → (a : Bool) → (u == k) ≡ a → (b : Bool) → is_data_unit us k ≡ b
        → suc (one_if b (marked us (k + 1) n)) ≤ one_if (a || b) (marked (u ∷ us) (k + 1) n)
    by later true here true data_there =
        let same : u ≡ k = eqb-true u k here in
        let clash : true ≡ false = sym data_there ∙ ap (λ (j : ℕ). is_data_unit us j) (sym same) ∙ none in
        absurd (cc)
    by later true here false there = let more : marked us (k + 1) n ≤ marked (u ∷ us) (k + 1) n = more_marked u us (k + 1) n in omega (arith, more)
    by later false apart b there = counted b (later further)
      where
        further : k + 1 ≤ u
        further = grind (arith, nat_tests, least, apart)

        counted : (b : Bool) → suc (marked us (k + 1) n) ≤ marked (u ∷ us) (k + 1) n → suc (one_if b (marked us (k + 1) n)) ≤ one_if b (marked (u ∷ us) (k + 1) n)
        counted true more = omega (arith, more)
        counted false more = more

other_none : (u : ℕ) (us : List ℕ) → list_all (other_than u) us ≡ true → is_data_unit us u ≡ false
other_none u [] e = refl
other_none u (v ∷ us) e = by (other_none u us (and_right (other_than u v) (list_all (other_than u) us) e)) (v == u) refl
  where
    by : is_data_unit us u ≡ false → (b : Bool) → (v == u) ≡ b → (b || is_data_unit us u) ≡ false
    by rest true is =
        let same : v ≡ u = eqb-true v u is in
        let self : (u == v) ≡ true = grind (arith, nat_tests, same) in
        let clash : false ≡ true = ap not (sym self) ∙ and_left (other_than u v) (list_all (other_than u) us) e in
        absurd (cc)
    by rest false is = rest

below_by : (u n : ℕ) → nat_lt u n ≡ true → u < n
below_by u n e = grind (arith, nat_tests)

-- data volumes that differ are as many places
all_marked : (us : List ℕ) (n : ℕ) → pairwise other_than us ≡ true → list_all (λ u. nat_lt u n) us ≡ true → length us ≤ marked us 0 n
all_marked [] n apart inside = omega arith
all_marked (u ∷ us) n apart inside =
    let rest : length us ≤ marked us 0 n =
    all_marked us n (and_right (list_all (other_than u) us) (pairwise other_than us) apart) (and_right (nat_lt u n) (list_all (λ v. nat_lt v n) us) inside) in
    let less : u < n = below_by u n (and_left (nat_lt u n) (list_all (λ v. nat_lt v n) us) inside) in
    let one : suc (marked us 0 n) ≤ marked (u ∷ us) 0 n =
    one_marked u us 0 n (other_none u us (and_left (list_all (other_than u) us) (pairwise other_than us) apart)) (omega arith) (omega (arith, less)) in
    omega (arith, rest, one)

-- ---- the units of a replicated volume group

module _ (vs : List VolumeEntry) (u : Units) (group : is_group vs u ≡ true) where
  abbrev some : Bool
  some = nat_le 1 (length u.vols) && nat_le (length u.vols) MOST_DATA_VOLUMES

  abbrev inside : Bool
  inside = list_all (λ n. nat_lt n (length vs)) (u.srl ∷ (u.maps ∷ u.vols))

  abbrev apart : Bool
  apart = pairwise other_than (u.srl ∷ (u.maps ∷ u.vols))

  abbrev large : Bool
  large = nat_le LEAST_BLOCKS (blocks_of vs u.srl)

  abbrev room : Bool
  room = nat_le (LINK_PLACES * sum_by (map_blocks_of vs) u.vols) (blocks_of vs u.maps)

  placed : (some && inside && apart) ≡ true
  placed = and_left (some && inside && apart) large (and_left (some && inside && apart && large) room group)

  data_inside : list_all (λ n. nat_lt n (length vs)) u.vols ≡ true
  data_inside =
      and_right (nat_lt u.maps (length vs)) (list_all (λ n. nat_lt n (length vs)) u.vols)
      (and_right (nat_lt u.srl (length vs)) (list_all (λ n. nat_lt n (length vs)) (u.maps ∷ u.vols)) (and_right some inside (and_left (some && inside) apart placed)))

  data_apart : pairwise other_than u.vols ≡ true
  data_apart =
      and_right (list_all (other_than u.maps) u.vols) (pairwise other_than u.vols)
      (and_right (list_all (other_than u.srl) (u.maps ∷ u.vols)) (pairwise other_than (u.maps ∷ u.vols)) (and_right (some && inside) apart placed))

  pub data_within : (k place : ℕ) → slice_get u.vols k ≡ Some place → place < length vs
  data_within k place at = each u.vols data_inside k at
    where
      each : (us : List ℕ) → list_all (λ n. nat_lt n (length vs)) us ≡ true → (k : ℕ) → slice_get us k ≡ Some place → place < length vs
      each [] all k at = absurd (cc)
      each (x ∷ us) all zero at =
          let same : x ≡ place = ap (λ (o : Option ℕ). unwrap_or o x) at in
          below_by place (length vs) (ap (λ (n : ℕ). nat_lt n (length vs)) (sym same) ∙ and_left (nat_lt x (length vs)) (list_all (λ n. nat_lt n (length vs)) us) all)
      each (x ∷ us) all (suc k) at = each us (and_right (nat_lt x (length vs)) (list_all (λ n. nat_lt n (length vs)) us) all) k at

  -- no more than the group has
  pub kinds_few : length u.vols + length (others_from u 0 vs) ≤ length vs
  kinds_few =
      let many : length u.vols ≤ marked u.vols 0 (length vs) = all_marked u.vols (length vs) data_apart data_inside in
      let rest : length (others_from u 0 vs) + marked u.vols 0 (length vs) ≡ length vs = others_rest u 0 vs in
      omega (arith, many, rest)
