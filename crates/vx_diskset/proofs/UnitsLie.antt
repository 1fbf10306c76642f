-- The volumes of a replicated volume group lie on the group whose configuration has it.
use Rattle.std.proofs.Common.{◌≡◌, ◌∙◌, inl, inr, ◌<◌, ◌≤◌, ℕ, zero, suc, Bool, true, false, List, [], ◌∷◌, ap, arith, length, refl, subst, sym}
use Rattle.std.specs.Prelude.{Contains, Option, Some, ◌&&◌, ◌*◌, get_or, nat_le, nat_lt, not, slice_get, sum_by}
use Rattle.std.specs.List.{AllByRecursion, list_all}
use Rattle.std.proofs.lemmas.Bool.{and_parts, eq-eqb, leb-true, ltb-true}
use Rattle.std.proofs.lemmas.Option.{slice_get_cases}
use Rattle.vx_config.specs.Checks.{blocks_of, group_or_none, is_group, is_sound, map_blocks_of, other_than, pairwise}
use Rattle.vx_config.specs.declared.config.Config.{Config}
use Rattle.vx_config.specs.declared.entry.VolumeEntry.{VolumeEntry}
use Rattle.vx_disk.specs.Shelf.{Meaning}
use Rattle.vx_disk.specs.declared.shelf.Shelf.{Ghosts}
use Rattle.vx_events.specs.RvgFits.{HasUnits, HasVolume}
use Rattle.vx_ground.specs.Lifted.{laid_volumes}
use Rattle.vx_group.specs.Holding.{wide}
use Rattle.vx_grouped.specs.GroupSites.{laid_disks}
use Rattle.vx_grouped.specs.declared.laid.Laid.{Laid}
use Rattle.vx_kept.proofs.Narrower.{wanted_sound}
use Rattle.vx_model.proofs.Lists.{all_at, got}
use Rattle.vx_model.specs.Sizes.{map_blocks}
use Rattle.vx_model.specs.declared.limits.TheConstants.{LEAST_BLOCKS, LINK_PLACES, MOST_DATA_VOLUMES}
use Rattle.vx_model.specs.declared.units.Units.{Units}
use Rattle.vx_rvg.specs.Views.{UnitsPlaced}

-- ---- a list of volumes of which no two are one

at_list : (P : ℕ → Bool) (xs : List ℕ) (v : ℕ) → list_all P xs ≡ true → v < length xs → P (get_or xs v 0) ≡ true
at_list P [] v all low = absurd (omega (arith, low))
at_list P (x ∷ xs) zero all low = (and_parts (P x) (list_all P xs) all).0
at_list P (x ∷ xs) (suc v) all low = at_list P xs v (and_parts (P x) (list_all P xs) all).1 (omega (arith, low))

never_same : (a b : ℕ) → other_than a b ≡ true → a ≡ b → ⊥
never_same a b off is =
    let clash : false ≡ true = sym (ap (λ (t : Bool). not t) (eq-eqb a b is)) ∙ off in
    cc

at_once : (xs : List ℕ) → pairwise other_than xs ≡ true → (v w : ℕ) → v < length xs → w < length xs → get_or xs v 0 ≡ get_or xs w 0 → v ≡ w
at_once [] all v w low high is = absurd (omega (arith, low))
at_once (x ∷ xs) all zero zero low high is = refl
at_once (x ∷ xs) all zero (suc w) low high is =
    absurd (never_same x (get_or xs w 0) (at_list (other_than x) xs w (and_parts (list_all (other_than x) xs) (pairwise other_than xs) all).0 (omega (arith, high))) is)
at_once (x ∷ xs) all (suc v) zero low high is =
    absurd (never_same x (get_or xs v 0) (at_list (other_than x) xs v (and_parts (list_all (other_than x) xs) (pairwise other_than xs) all).0 (omega (arith, low))) (sym is))
at_once (x ∷ xs) all (suc v) (suc w) low high is =
    ap (λ (k : ℕ). suc k) (at_once xs (and_parts (list_all (other_than x) xs) (pairwise other_than xs) all).1 v w (omega (arith, low)) (omega (arith, high)) is)

-- ---- what is checked of them

abbrev names_of : Units → List ℕ
names_of u = u.srl ∷ (u.maps ∷ u.vols)

module _ (vs : List VolumeEntry) (u : Units) (is : is_group vs u ≡ true) where
  fit : ((nat_le 1 (length u.vols) && nat_le (length u.vols) MOST_DATA_VOLUMES && list_all (λ n. nat_lt n (length vs)) (names_of u) && pairwise other_than (names_of u) && nat_le LEAST_BLOCKS (blocks_of vs u.srl)) ≡ true) × (nat_le (LINK_PLACES * sum_by (map_blocks_of vs) u.vols) (blocks_of vs u.maps) ≡ true)
  fit =
      and_parts (nat_le 1 (length u.vols) && nat_le (length u.vols) MOST_DATA_VOLUMES && list_all (λ n. nat_lt n (length vs)) (names_of u) && pairwise other_than (names_of u) && nat_le LEAST_BLOCKS (blocks_of vs u.srl))
      (nat_le (LINK_PLACES * sum_by (map_blocks_of vs) u.vols) (blocks_of vs u.maps)) is

  log : ((nat_le 1 (length u.vols) && nat_le (length u.vols) MOST_DATA_VOLUMES && list_all (λ n. nat_lt n (length vs)) (names_of u) && pairwise other_than (names_of u)) ≡ true) × (nat_le LEAST_BLOCKS (blocks_of vs u.srl) ≡ true)
  log = and_parts (nat_le 1 (length u.vols) && nat_le (length u.vols) MOST_DATA_VOLUMES && list_all (λ n. nat_lt n (length vs)) (names_of u) && pairwise other_than (names_of u)) (nat_le LEAST_BLOCKS (blocks_of vs u.srl)) fit.0

  apart : ((nat_le 1 (length u.vols) && nat_le (length u.vols) MOST_DATA_VOLUMES && list_all (λ n. nat_lt n (length vs)) (names_of u)) ≡ true) × (pairwise other_than (names_of u) ≡ true)
  apart = and_parts (nat_le 1 (length u.vols) && nat_le (length u.vols) MOST_DATA_VOLUMES && list_all (λ n. nat_lt n (length vs)) (names_of u)) (pairwise other_than (names_of u)) log.0

  below : list_all (λ n. nat_lt n (length vs)) (names_of u) ≡ true
  below = (and_parts (nat_le 1 (length u.vols) && nat_le (length u.vols) MOST_DATA_VOLUMES) (list_all (λ n. nat_lt n (length vs)) (names_of u)) apart.0).1

  counted : ((nat_le 1 (length u.vols) ≡ true) × (nat_le (length u.vols) MOST_DATA_VOLUMES ≡ true))
  counted =
      and_parts (nat_le 1 (length u.vols)) (nat_le (length u.vols) MOST_DATA_VOLUMES)
      (and_parts (nat_le 1 (length u.vols) && nat_le (length u.vols) MOST_DATA_VOLUMES) (list_all (λ n. nat_lt n (length vs)) (names_of u)) apart.0).0

  volume_there : (x : ℕ) → x < length vs → HasVolume vs x
  volume_there x low = elim (slice_get_cases vs x).1 [
    | inl at ↦ (at.0, at.2)
    | inr past ↦ absurd (let far = past.0 in omega (arith, low, far))
  ]

  -- its log, its maps and its data volumes are volumes of the group
  has_each : (xs : List ℕ) → list_all (λ n. nat_lt n (length vs)) xs ≡ true → AllByRecursion (HasVolume vs) xs
  has_each [] all = tt
  has_each (x ∷ xs) all =
      let parts = and_parts (nat_lt x (length vs)) (list_all (λ n. nat_lt n (length vs)) xs) all in
      (volume_there x (ltb-true x (length vs) parts.0), has_each xs parts.1)

  pub units_has : HasUnits vs u
  units_has = let all = has_each (names_of u) below in record { srl = all.0; vols = all.1.1 }

  pub units_some : 1 ≤ length u.vols
  units_some = leb-true 1 (length u.vols) counted.0

  pub units_few : length u.vols ≤ MOST_DATA_VOLUMES
  units_few = leb-true (length u.vols) MOST_DATA_VOLUMES counted.1

  pub units_large : LEAST_BLOCKS ≤ blocks_of vs u.srl
  units_large = leb-true LEAST_BLOCKS (blocks_of vs u.srl) log.1

  -- the volume of the log is no data volume
  pub log_aside : (v : ℕ) → Contains u.vols v → v ≡ u.srl → ⊥
  log_aside v has same =
      let others : list_all (other_than u.srl) (u.maps ∷ u.vols) ≡ true = (and_parts (list_all (other_than u.srl) (u.maps ∷ u.vols)) (pairwise other_than (u.maps ∷ u.vols)) apart.1).0 in
      let there : slice_get u.vols has.0 ≡ Some v = got u.vols has.0 v has.1 ∙ ap (λ (x : ℕ). Some x) has.2 in
      never_same u.srl v (all_at (other_than u.srl) (u.maps ∷ u.vols) (suc has.0) v others there) (sym same)

  module _ (m : Meaning) (many : m.units ≡ length vs) (sizes : m.size ≡ blocks_of vs) where
    exists : (v : ℕ) → v < length (names_of u) → get_or (names_of u) v 0 < m.units
    exists v low = let lt = ltb-true (get_or (names_of u) v 0) (length vs) (at_list (λ n. nat_lt n (length vs)) (names_of u) v below low) in omega (arith, lt, many)

    -- no two of them are one
    once : (v w : ℕ) → v < length (names_of u) → w < length (names_of u) → get_or (names_of u) v 0 ≡ get_or (names_of u) w 0 → v ≡ w
    once v w low high same = at_once (names_of u) apart.1 v w low high same

    pub units_placed : UnitsPlaced u m
    units_placed = record {
      log_exists = exists zero (omega arith);
      maps_exist = exists (suc zero) (omega arith);
      exist = λ v low. exists (suc (suc v)) (omega (arith, low));
      apart = λ v low same. let e = once (suc (suc v)) zero (omega (arith, low)) (omega arith) same in omega (arith, e);
      maps_apart = λ same. let e = once (suc zero) zero (omega arith) (omega arith) same in omega (arith, e);
      maps_aside = λ v low same. let e = once (suc (suc v)) (suc zero) (omega (arith, low)) (omega arith) same in omega (arith, e);
      distinct = λ v w low high same. let e = once (suc (suc v)) (suc (suc w)) (omega (arith, low)) (omega (arith, high)) same in omega (arith, e);
      maps_fit = subst (λ (f : ℕ → ℕ). LINK_PLACES * sum_by (λ n. map_blocks (f n)) u.vols ≤ f u.maps) (sym sizes) (leb-true (LINK_PLACES * sum_by (map_blocks_of vs) u.vols) (blocks_of vs u.maps) fit.1);
    }

-- the configuration is checked
pub sound_group : (c : Config) (u : Units) → is_sound c ≡ true → c.rvg ≡ Some u → is_group c.volumes u ≡ true
unfolding is_sound
sound_group c u sound at =
    let group : group_or_none c.volumes c.rvg ≡ true = (and_parts _ (group_or_none c.volumes c.rvg) sound).1 in
    ap (λ (o : Option Units). group_or_none c.volumes o) (sym at) ∙ group

module _ {R : Type 0} {g : Ghosts R} (laid : Laid R g) (u : Units) (at : laid.core.inner.config.rvg ≡ Some u) where
  -- what a group that is up has checked of the one that it names
  pub laid_group : is_group (wide laid.core).config.volumes u ≡ true
  laid_group = sound_group (wide laid.core).config u (wanted_sound (laid_disks laid).units (laid_disks laid).size (wide laid.core).config laid.stands.group.stands.wanted) at

  pub laid_placed : UnitsPlaced u (laid_volumes laid)
  laid_placed = units_placed (wide laid.core).config.volumes u laid_group (laid_volumes laid) refl refl

  pub laid_large : LEAST_BLOCKS ≤ (laid_volumes laid).size u.srl
  laid_large = units_large (wide laid.core).config.volumes u laid_group
