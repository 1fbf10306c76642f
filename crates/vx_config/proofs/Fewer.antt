-- What is sound with one volume less, and a change that is taken back.
use Rattle.std.proofs.Common.{◌≡◌, ℕ, zero, suc, ◌+◌, ◌*◌, ◌<◌, ◌≤◌, Bool, true, List, [], ◌∷◌, ◌++◌, Option, Some, None, length, refl, ap, sym, subst, ◌∙◌, arith}
use Rattle.std.specs.Prelude.{◌&&◌, nat_le, nat_lt, slice_get, flat_map, sum_by}
use Rattle.std.specs.List.{list_all}
use Rattle.std.proofs.lemmas.Bool.{and_parts, and_from, le-leb, leb-true, ltb-true}
use Rattle.std.proofs.lemmas.List.Concat.{flat_map-append}
use Rattle.std.proofs.lemmas.List.Folds.{list_all-append}
use Rattle.std.proofs.lemmas.List.Sums.{sum_by-append, sum_by-cons}
use Rattle.vx_model.specs.Sizes.{map_blocks}
use Rattle.vx_model.specs.declared.site.PlexState.{PlexState}
use Rattle.vx_model.specs.declared.units.Units.{Units}
use Rattle.vx_model.proofs.Lists.{get_front}
use Rattle.vx_config.specs.Changes.{changed_at, names_below, stated, with_plex, with_state, with_volumes}
use Rattle.vx_config.specs.Checks.{are_apart, blocks_of, differ, group_or_none, in_region, is_sound, is_volume, map_blocks_of, other_than, pairwise, runs, volume_runs}
use Rattle.vx_config.specs.Configs.{volume_subdisks}
use Rattle.vx_config.specs.declared.config.Config.{Config}
use Rattle.vx_config.specs.declared.entry.PlexEntry.{PlexEntry}
use Rattle.vx_config.specs.declared.entry.Subdisk.{Subdisk}
use Rattle.vx_config.specs.declared.entry.VolumeEntry.{VolumeEntry}

-- ---- the front of a list

front_all : {A : Type 0} (p : A → Bool) (xs ys : List A) → list_all p (xs ++ ys) ≡ true → list_all p xs ≡ true
front_all p xs ys all = (and_parts (list_all p xs) (list_all p ys) (sym (list_all-append p xs ys) ∙ all)).0

front_pairs : {A : Type 0} (r : A → A → Bool) (xs ys : List A) → pairwise r (xs ++ ys) ≡ true → pairwise r xs ≡ true
front_pairs r [] ys all = refl
front_pairs r (x ∷ xs) ys all =
    let parts = and_parts (list_all (r x) (xs ++ ys)) (pairwise r (xs ++ ys)) all in
    and_from (list_all (r x) xs) (pairwise r xs) (front_all (r x) xs ys parts.0) (front_pairs r xs ys parts.1)

-- ---- one volume less

module _ (vs : List VolumeEntry) (v : VolumeEntry) where
  abbrev all : List VolumeEntry
  all = vs ++ v ∷ []

  blocks_front : (n : ℕ) → n < length vs → blocks_of all n ≡ blocks_of vs n
  blocks_front n lt = rw (get_front vs (v ∷ []) n lt) refl

  maps_front : (ns : List ℕ) → list_all (λ n. nat_lt n (length vs)) ns ≡ true → sum_by (map_blocks_of all) ns ≡ sum_by (map_blocks_of vs) ns
  maps_front [] below = refl
  maps_front (n ∷ ns) below =
      let parts = and_parts (nat_lt n (length vs)) (list_all (λ m. nat_lt m (length vs)) ns) below in
      sum_by-cons (map_blocks_of all) n ns ∙ ap (λ (m : ℕ). map_blocks m + sum_by (map_blocks_of all) ns) (blocks_front n (ltb-true n (length vs) parts.0))
      ∙ ap (λ (m : ℕ). map_blocks_of vs n + m) (maps_front ns parts.1) ∙ sym (sum_by-cons (map_blocks_of vs) n ns)

  group_front : (rvg : Option Units) → names_below (length vs) rvg ≡ true → group_or_none all rvg ≡ true → group_or_none vs rvg ≡ true
  group_front None below group = refl
  group_front (Some u) below group =
      let one = and_parts (nat_lt u.srl (length vs)) (list_all (λ n. nat_lt n (length vs)) (u.maps ∷ u.vols)) below in
      let two = and_parts (nat_lt u.maps (length vs)) (list_all (λ n. nat_lt n (length vs)) u.vols) one.1 in
      let some = nat_le 1 (length u.vols) && nat_le (length u.vols) 30 in
      let named : Bool = list_all (λ n. nat_lt n (length all)) (u.srl ∷ (u.maps ∷ u.vols)) in
      let apart : Bool = pairwise other_than (u.srl ∷ (u.maps ∷ u.vols)) in
      let maps = and_parts (some && named && apart && nat_le 8 (blocks_of all u.srl)) (nat_le (8 * sum_by (map_blocks_of all) u.vols) (blocks_of all u.maps)) group in
      let log = and_parts (some && named && apart) (nat_le 8 (blocks_of all u.srl)) maps.0 in
      let other = and_parts (some && named) apart log.0 in
      let counts = and_parts some named other.0 in
      and_from (some && list_all (λ n. nat_lt n (length vs)) (u.srl ∷ (u.maps ∷ u.vols)) && apart && nat_le 8 (blocks_of vs u.srl)) (nat_le (8 * sum_by (map_blocks_of vs) u.vols) (blocks_of vs u.maps))
      (and_from (some && list_all (λ n. nat_lt n (length vs)) (u.srl ∷ (u.maps ∷ u.vols)) && apart) (nat_le 8 (blocks_of vs u.srl))
      (and_from (some && list_all (λ n. nat_lt n (length vs)) (u.srl ∷ (u.maps ∷ u.vols))) apart (and_from some (list_all (λ n. nat_lt n (length vs)) (u.srl ∷ (u.maps ∷ u.vols))) counts.0 below) other.1)
      (subst (λ (n : ℕ). nat_le 8 n ≡ true) (blocks_front u.srl (ltb-true u.srl (length vs) one.0)) log.1))
      (subst (λ (n : ℕ). nat_le (8 * n) (blocks_of vs u.maps) ≡ true) (maps_front u.vols two.1)
      (subst (λ (n : ℕ). nat_le (8 * sum_by (map_blocks_of all) u.vols) n ≡ true) (blocks_front u.maps (ltb-true u.maps (length vs) two.0)) maps.1))

  few_front : nat_le (sum_by volume_subdisks all) 1024 ≡ true → nat_le (sum_by volume_subdisks vs) 1024 ≡ true
  few_front few =
      let most : sum_by volume_subdisks all ≤ 1024 = leb-true (sum_by volume_subdisks all) 1024 few in
      le-leb (sum_by volume_subdisks vs) 1024 (omega (arith, sum_by-append volume_subdisks vs (v ∷ []), most))

  pub fewer_sound : (c : Config) → c.volumes ≡ all → names_below (length vs) c.rvg ≡ true → is_sound c ≡ true → is_sound (with_volumes vs c) ≡ true
  unfolding is_sound runs
  fewer_sound c is below sound =
      let P : List VolumeEntry → Type 0 = λ ws. (nat_le (sum_by volume_subdisks ws) 1024 && (list_all (in_region c.disks) (flat_map volume_runs ws) && pairwise are_apart (flat_map volume_runs ws)) && pairwise differ ws && list_all is_volume ws && group_or_none ws c.rvg) ≡ true in
      let here : P all = subst P is sound in
      let rs : List Subdisk = flat_map volume_runs all in
      let last = and_parts (nat_le (sum_by volume_subdisks all) 1024 && (list_all (in_region c.disks) rs && pairwise are_apart rs) && pairwise differ all && list_all is_volume all) (group_or_none all c.rvg) here in
      let volumes = and_parts (nat_le (sum_by volume_subdisks all) 1024 && (list_all (in_region c.disks) rs && pairwise are_apart rs) && pairwise differ all) (list_all is_volume all) last.0 in
      let names = and_parts (nat_le (sum_by volume_subdisks all) 1024 && (list_all (in_region c.disks) rs && pairwise are_apart rs)) (pairwise differ all) volumes.0 in
      let placed = and_parts (nat_le (sum_by volume_subdisks all) 1024) (list_all (in_region c.disks) rs && pairwise are_apart rs) names.0 in
      let both = and_parts (list_all (in_region c.disks) rs) (pairwise are_apart rs) placed.1 in
      let split : rs ≡ flat_map volume_runs vs ++ flat_map volume_runs (v ∷ []) = flat_map-append volume_runs vs (v ∷ []) in
      let few : Bool = nat_le (sum_by volume_subdisks vs) 1024 in
      let there : Bool = list_all (in_region c.disks) (flat_map volume_runs vs) && pairwise are_apart (flat_map volume_runs vs) in
      and_from (few && there && pairwise differ vs && list_all is_volume vs) (group_or_none vs c.rvg)
      (and_from (few && there && pairwise differ vs) (list_all is_volume vs)
      (and_from (few && there) (pairwise differ vs)
      (and_from few there (few_front placed.0)
      (and_from (list_all (in_region c.disks) (flat_map volume_runs vs)) (pairwise are_apart (flat_map volume_runs vs))
      (front_all (in_region c.disks) (flat_map volume_runs vs) (flat_map volume_runs (v ∷ [])) (subst (λ (xs : List Subdisk). list_all (in_region c.disks) xs ≡ true) split both.0))
      (front_pairs are_apart (flat_map volume_runs vs) (flat_map volume_runs (v ∷ [])) (subst (λ (xs : List Subdisk). pairwise are_apart xs ≡ true) split both.1))))
      (front_pairs differ vs (v ∷ []) names.1)) (front_all is_volume vs (v ∷ []) volumes.1)) (group_front c.rvg below last.1)

-- ---- a change that is taken back

changed-back : {A : Type 0} (f g : A → A) (k : ℕ) (xs : List A) (x : A) → slice_get xs k ≡ Some x → f (g x) ≡ x → changed_at f k (changed_at g k xs) ≡ xs
changed-back f g k [] x is back = refl
changed-back f g zero (y ∷ ys) x is back = let same : y ≡ x = cc in ap (λ z. z ∷ ys) (ap (λ z. f (g z)) same ∙ back ∙ sym same)
changed-back f g (suc k) (y ∷ ys) x is back = ap (λ zs. y ∷ zs) (changed-back f g k ys x is back)

pub stated_back : (c : Config) (volume plex : ℕ) (v : VolumeEntry) (p : PlexEntry) (state : PlexState) (whole : Bool) → slice_get c.volumes volume ≡ Some v → slice_get v.plexes plex ≡ Some p
    → stated volume plex p.state p.whole (stated volume plex state whole c) ≡ c
stated_back c volume plex v p state whole in_c in_v =
    ap (λ (vs : List VolumeEntry). with_volumes vs c)
    (changed-back (with_plex plex p.state p.whole) (with_plex plex state whole) volume c.volumes v in_c
    (ap (λ (ps : List PlexEntry). record v { plexes = ps }) (changed-back (with_state p.state p.whole) (with_state state whole) plex v.plexes p in_v refl)))
