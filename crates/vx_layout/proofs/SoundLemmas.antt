-- A configuration with one volume more, in the space that was found, is sound.
use Rattle.std.proofs.Common.{◌≡◌, ℕ, zero, suc, ◌*◌, ◌<◌, Bool, true, false, Option, Some, None, List, [], ◌∷◌, ◌++◌, length, append_assoc, refl, ap, sym, ◌∙◌, subst, arith}
use Rattle.std.specs.Prelude.{◌&&◌, ◌||◌, ◌==◌, not, nat_lt, nat_le, slice_get, sum_by, flat_map, map, IfSome, if◌then◌else◌}
use Rattle.std.specs.Int.{div_ceil}
use Rattle.std.specs.List.{list_all, list_any}
use Rattle.std.proofs.lemmas.Bool.{eq-eqb, eqb-true, le-leb, lt-ltb, ltb-true}
use Rattle.std.proofs.lemmas.List.{append-nil, length-append}
use Rattle.std.proofs.lemmas.List.Concat.{flat_map-append, flat_map-cons}
use Rattle.std.proofs.lemmas.List.Folds.{list_all-append}
use Rattle.std.proofs.lemmas.List.Sums.{sum_by-cons}
use Rattle.vx_model.specs.declared.units.Units.{Units}
use Rattle.vx_model.proofs.Lists.{get_front}
use Rattle.vx_config.specs.declared.config.Config.{Config}
use Rattle.vx_config.specs.declared.entry.DiskEntry.{DiskEntry}
use Rattle.vx_config.specs.declared.entry.PlexEntry.{PlexEntry}
use Rattle.vx_config.specs.declared.entry.Subdisk.{Subdisk}
use Rattle.vx_config.specs.declared.entry.VolumeEntry.{VolumeEntry}
use Rattle.vx_config.specs.Checks.{are_apart, are_placed, blocks_of, blocks_or_none, column_blocks, differ, fill, group_or_none, has_logs, has_plexes, has_shape, in_region, is_live, is_sound, is_volume, log_has, log_runs, map_blocks, map_blocks_of, other_than, pairwise, plex_fills, plex_runs, preferred_is, runs, volume_runs}
use Rattle.vx_config.specs.Configs.{subdisk_count}
use Rattle.vx_layout.specs.Made.{IsVolumeMade, StaysSound, made_plex, with_volume}
use Rattle.vx_layout.specs.Space.{IsShape, flat}
use Rattle.vx_layout.specs.declared.shape.Found.{Found}
use Rattle.vx_layout.specs.declared.shape.Shape.{Shape}
use Rattle.vx_layout.proofs.Pairs.{all_at, and_left, and_right}
use Rattle.vx_layout.proofs.Placing.{from_sound}
use Rattle.vx_layout.proofs.FreshLemmas.{AreFresh, IsFresh, all_from, apart_used, pairs_join}
use Rattle.vx_layout.proofs.MadeLemmas.{both, columns_of, logs_good, no_item, plexes_fresh}

-- ---- the volumes that stood before the new one

module _ (vs : List VolumeEntry) (v : VolumeEntry) where
  blocks_same : (n : ℕ) → nat_lt n (length vs) ≡ true → blocks_of (vs ++ (v ∷ [])) n ≡ blocks_of vs n
  blocks_same n lt = ap blocks_or_none (get_front vs (v ∷ []) n (ltb-true n (length vs) lt))

  below_more : (ns : List ℕ) → list_all (λ n. nat_lt n (length vs)) ns ≡ true → list_all (λ n. nat_lt n (length (vs ++ (v ∷ [])))) ns ≡ true
  below_more [] all = refl
  below_more (n ∷ ns) all =
      let here : n < length vs = ltb-true n (length vs) (and_left (nat_lt n (length vs)) _ all) in
      let long = length-append vs (v ∷ []) in
      both (lt-ltb n (length (vs ++ (v ∷ []))) (omega (arith, here, long))) (below_more ns (and_right (nat_lt n (length vs)) _ all))

  sum_same : (ns : List ℕ) → list_all (λ n. nat_lt n (length vs)) ns ≡ true → sum_by (map_blocks_of (vs ++ (v ∷ []))) ns ≡ sum_by (map_blocks_of vs) ns
  sum_same [] all = refl
  sum_same (n ∷ ns) all =
      let head : map_blocks_of (vs ++ (v ∷ [])) n ≡ map_blocks_of vs n = ap map_blocks (blocks_same n (and_left (nat_lt n (length vs)) _ all)) in
      let rest = sum_same ns (and_right (nat_lt n (length vs)) _ all) in
      let one = sum_by-cons (map_blocks_of (vs ++ (v ∷ []))) n ns in
      let two = sum_by-cons (map_blocks_of vs) n ns in
      omega (arith, head, rest, one, two)

  group_more : (o : Option Units) → group_or_none vs o ≡ true → group_or_none (vs ++ (v ∷ [])) o ≡ true
  group_more None is = refl
  group_more (Some u) is =
      let five : nat_le 1 (length u.vols) && nat_le (length u.vols) 30 && list_all (λ n. nat_lt n (length vs)) (u.srl ∷ (u.maps ∷ u.vols)) && pairwise other_than (u.srl ∷ (u.maps ∷ u.vols)) && nat_le 8 (blocks_of vs u.srl) ≡ true = and_left _ (nat_le (8 * sum_by (map_blocks_of vs) u.vols) (blocks_of vs u.maps)) is in
      let maps : nat_le (8 * sum_by (map_blocks_of vs) u.vols) (blocks_of vs u.maps) ≡ true =
      and_right (nat_le 1 (length u.vols) && nat_le (length u.vols) 30 && list_all (λ n. nat_lt n (length vs)) (u.srl ∷ (u.maps ∷ u.vols)) && pairwise other_than (u.srl ∷ (u.maps ∷ u.vols)) && nat_le 8 (blocks_of vs u.srl)) _ is in
      let four : nat_le 1 (length u.vols) && nat_le (length u.vols) 30 && list_all (λ n. nat_lt n (length vs)) (u.srl ∷ (u.maps ∷ u.vols)) && pairwise other_than (u.srl ∷ (u.maps ∷ u.vols)) ≡ true = and_left _ (nat_le 8 (blocks_of vs u.srl)) five in
      let log : nat_le 8 (blocks_of vs u.srl) ≡ true = and_right (nat_le 1 (length u.vols) && nat_le (length u.vols) 30 && list_all (λ n. nat_lt n (length vs)) (u.srl ∷ (u.maps ∷ u.vols)) && pairwise other_than (u.srl ∷ (u.maps ∷ u.vols))) _ five in
      let three : nat_le 1 (length u.vols) && nat_le (length u.vols) 30 && list_all (λ n. nat_lt n (length vs)) (u.srl ∷ (u.maps ∷ u.vols)) ≡ true = and_left _ (pairwise other_than (u.srl ∷ (u.maps ∷ u.vols))) four in
      let others : pairwise other_than (u.srl ∷ (u.maps ∷ u.vols)) ≡ true = and_right (nat_le 1 (length u.vols) && nat_le (length u.vols) 30 && list_all (λ n. nat_lt n (length vs)) (u.srl ∷ (u.maps ∷ u.vols))) _ four in
      let counts : nat_le 1 (length u.vols) && nat_le (length u.vols) 30 ≡ true = and_left _ (list_all (λ n. nat_lt n (length vs)) (u.srl ∷ (u.maps ∷ u.vols))) three in
      let below : list_all (λ n. nat_lt n (length vs)) (u.srl ∷ (u.maps ∷ u.vols)) ≡ true = and_right (nat_le 1 (length u.vols) && nat_le (length u.vols) 30) _ three in
      let tail : list_all (λ n. nat_lt n (length vs)) (u.maps ∷ u.vols) ≡ true = and_right (nat_lt u.srl (length vs)) _ below in
      let srl = blocks_same u.srl (and_left (nat_lt u.srl (length vs)) _ below) in
      let map_unit = blocks_same u.maps (and_left (nat_lt u.maps (length vs)) _ tail) in
      let sum = sum_same u.vols (and_right (nat_lt u.maps (length vs)) _ tail) in
      both
      (both (both (both counts (below_more (u.srl ∷ (u.maps ∷ u.vols)) below)) others) (ap (nat_le 8) srl ∙ log))
      (ap (λ (n : ℕ). nat_le (8 * n) (blocks_of (vs ++ (v ∷ [])) u.maps)) sum ∙ ap (nat_le (8 * sum_by (map_blocks_of vs) u.vols)) map_unit ∙ maps)

-- ---- the runs of the new volume

flat_made : (ps : List (List Subdisk)) → flat_map plex_runs (map made_plex ps) ≡ flat ps
flat_made [] = refl
flat_made (p ∷ ps) = flat_map-cons plex_runs (made_plex p) (map made_plex ps) ∙ ap (λ (xs : List Subdisk). p ++ xs) (flat_made ps)

runs_more : (c : Config) (v : VolumeEntry) → runs (with_volume c v) ≡ runs c ++ volume_runs v
unfolding runs
runs_more c v = flat_map-append volume_runs c.volumes (v ∷ []) ∙ ap (λ (xs : List Subdisk). flat_map volume_runs c.volumes ++ xs) (flat_map-cons volume_runs v [] ∙ append-nil (volume_runs v))

module _ (want : Shape) (found : Found) (v : VolumeEntry) (made : IsVolumeMade want found v) where
  made_runs : volume_runs v ≡ flat found.plexes.items ++ found.logs
  made_runs = ap (λ (ps : List PlexEntry). flat_map plex_runs ps ++ (log_runs v.drl ++ log_runs v.fmr)) made.plexes ∙ ap (λ (xs : List Subdisk). xs ++ (log_runs v.drl ++ log_runs v.fmr)) (flat_made found.plexes.items) ∙ ap (λ (xs : List Subdisk). flat found.plexes.items ++ xs) made.logs

  made_columns : column_blocks v ≡ columns_of want
  unfolding column_blocks
  made_columns =
      ap (λ (w : ℕ). if w == 0 then v.blocks else div_ceil v.blocks (v.ncol * w) * w) made.width ∙ ap (λ (b : ℕ). if want.width == 0 then b else div_ceil b (v.ncol * want.width) * want.width) made.blocks
      ∙ ap (λ (n : ℕ). if want.width == 0 then want.blocks else div_ceil want.blocks (n * want.width) * want.width) made.ncol

  made_fills : (ps : List (List Subdisk)) → list_all (λ ss. fill (columns_of want) want.ncol (columns_of want) ss) ps ≡ true → list_all (plex_fills v) (map made_plex ps) ≡ true
  made_fills [] all = refl
  made_fills (p ∷ ps) all =
      let one : plex_fills v (made_plex p) ≡ true = ap (λ (n : ℕ). fill n v.ncol n p) made_columns ∙ ap (λ (n : ℕ). fill (columns_of want) n (columns_of want) p) made.ncol ∙ and_left (fill (columns_of want) want.ncol (columns_of want) p) _ all in
      both one (made_fills ps (and_right (fill (columns_of want) want.ncol (columns_of want) p) _ all))

  made_length : (ps : List (List Subdisk)) → length (map made_plex ps) ≡ length ps
  made_length [] = refl
  made_length (p ∷ ps) = ap suc (made_length ps)

  made_live : (ps : List (List Subdisk)) → 0 < length ps → list_any is_live (map made_plex ps) ≡ true
  made_live [] some = absurd (omega (arith, some))
  made_live (p ∷ ps) some = refl

  made_prefer : (o : Option ℕ) (n : ℕ) → n ≡ want.mirrors → IfSome o (λ p. p < want.mirrors) → preferred_is n o ≡ true
  made_prefer None n is within = refl
  made_prefer (Some p) n is within = lt-ltb p n (omega (arith, is, within))

  made_volume : IsShape want → IfSome want.prefer (λ p. p < want.mirrors) → length found.plexes.items ≡ want.mirrors → list_all (λ ss. fill (columns_of want) want.ncol (columns_of want) ss) found.plexes.items ≡ true
      → log_has (map_blocks want.blocks) v.drl ≡ true → log_has (want.mirrors * map_blocks want.blocks) v.fmr ≡ true → is_volume v ≡ true
  made_volume shape prefer many fills drl fmr = both (both has_shape' has_logs') has_plexes'
    where
      count : length v.plexes ≡ want.mirrors
      count = ap length made.plexes ∙ made_length found.plexes.items ∙ many

      kind : (b : Bool) → (want.width == 0) ≡ b → not b || want.ncol == 1 ≡ true
      kind true is = eq-eqb want.ncol 1 (shape.one (eqb-true want.width 0 is))
      kind false is = refl

      has_shape' : has_shape v ≡ true
      has_shape' =
          ap (λ (n : ℕ). nat_le 1 n && nat_le n 8 && (not (v.width == 0) || n == 1)) made.ncol ∙ ap (λ (w : ℕ). nat_le 1 want.ncol && nat_le want.ncol 8 && (not (w == 0) || want.ncol == 1)) made.width
          ∙ both (both (le-leb 1 want.ncol (omega (arith, shape.columns))) (le-leb want.ncol 8 shape.ncol)) (kind (want.width == 0) refl)

      has_logs' : has_logs v ≡ true
      has_logs' = both (ap (λ (n : ℕ). log_has (map_blocks n) v.drl) made.blocks ∙ drl)
          (ap (λ (n : ℕ). log_has (n * map_blocks v.blocks) v.fmr) count ∙ ap (λ (n : ℕ). log_has (want.mirrors * map_blocks n) v.fmr) made.blocks ∙ fmr)

      has_plexes' : has_plexes v ≡ true
      has_plexes' =
          let few : nat_le (length v.plexes) 8 ≡ true = le-leb (length v.plexes) 8 (omega (arith, count, shape.plexes)) in
          let all : list_all (plex_fills v) v.plexes ≡ true = ap (list_all (plex_fills v)) made.plexes ∙ made_fills found.plexes.items fills in
          let preferred : preferred_is (length v.plexes) v.prefer ≡ true = ap (preferred_is (length v.plexes)) made.prefer ∙ made_prefer want.prefer (length v.plexes) count prefer in
          let live : list_any is_live v.plexes ≡ true = ap (list_any is_live) made.plexes ∙ made_live found.plexes.items (omega (arith, many, shape.mirrors)) in
          both (both (both few all) preferred) live

-- ---- the whole

fresh_all : (used : List Subdisk) (disks : List DiskEntry) (ss : List Subdisk) → ((k : ℕ) (s : Subdisk) → slice_get ss k ≡ Some s → IsFresh used disks s) → list_all (in_region disks) ss ≡ true
fresh_all used disks ss each = all_from (in_region disks) ss (λ k s at. (each k s at).region)

placed_more : (used : List Subdisk) (disks : List DiskEntry) (found logs : List Subdisk) → list_all (in_region disks) used ≡ true → pairwise are_apart used ≡ true → AreFresh used disks [] found → AreFresh (used ++ found) disks [] logs
    → (list_all (in_region disks) (used ++ (found ++ logs)) ≡ true) × (pairwise are_apart (used ++ (found ++ logs)) ≡ true)
placed_more used disks found logs region pairs one two =
    let front : pairwise are_apart (used ++ found) ≡ true = pairs_join are_apart used found pairs one.pairs (λ i j x y at_x at_y. apart_used used disks y x i (one.fresh j y at_y) at_x) in
    let all : pairwise are_apart ((used ++ found) ++ logs) ≡ true = pairs_join are_apart (used ++ found) logs front two.pairs (λ i j x y at_x at_y. apart_used (used ++ found) disks y x i (two.fresh j y at_y) at_x) in
    let region_front : list_all (in_region disks) (used ++ found) ≡ true = list_all-append (in_region disks) used found ∙ both region (fresh_all used disks found one.fresh) in
    let region_all : list_all (in_region disks) ((used ++ found) ++ logs) ≡ true = list_all-append (in_region disks) (used ++ found) logs ∙ both region_front (fresh_all (used ++ found) disks logs two.fresh) in
    (ap (list_all (in_region disks)) (sym (append_assoc used found logs)) ∙ region_all, ap (pairwise are_apart) (sym (append_assoc used found logs)) ∙ all)

pub sound_stays : StaysSound
unfolding is_sound
sound_stays c want found v sound shape prefer is made new few = both (both (both (both (le-leb (subdisk_count (with_volume c v)) 1024 few) placed) names) volumes) group
  where
    before : (list_all (in_region c.disks) (runs c) ≡ true) × (pairwise are_apart (runs c) ≡ true) × (list_all is_volume c.volumes ≡ true)
    before = from_sound c sound

    plexes : AreFresh (runs c) c.disks [] (flat found.plexes.items) × (list_all (λ ss. fill (columns_of want) want.ncol (columns_of want) ss) found.plexes.items ≡ true)
    plexes = plexes_fresh want (runs c) c.disks [] found.plexes.items shape is.plexes

    logs : AreFresh (runs c ++ flat found.plexes.items) c.disks [] found.logs × (log_has (map_blocks want.blocks) v.drl ≡ true) × (log_has (want.mirrors * map_blocks want.blocks) v.fmr ≡ true)
    logs = logs_good want (runs c ++ flat found.plexes.items) c.disks want.drl want.fmr v.drl v.fmr found.logs shape made.drl made.fmr made.logs is.logs

    all_runs : runs (with_volume c v) ≡ runs c ++ (flat found.plexes.items ++ found.logs)
    all_runs = runs_more c v ∙ ap (λ (xs : List Subdisk). runs c ++ xs) (made_runs want found v made)

    placed : are_placed (with_volume c v) ≡ true
    placed =
        let it = placed_more (runs c) c.disks (flat found.plexes.items) found.logs before.0 before.1 plexes.0 logs.0 in
        both (ap (list_all (in_region c.disks)) all_runs ∙ it.0) (ap (pairwise are_apart) all_runs ∙ it.1)

    four : nat_le (subdisk_count c) 1024 && are_placed c && pairwise differ c.volumes && list_all is_volume c.volumes ≡ true
    four = and_left _ (group_or_none c.volumes c.rvg) sound

    names : pairwise differ (c.volumes ++ (v ∷ [])) ≡ true
    names = pairs_join differ c.volumes (v ∷ []) (and_right (nat_le (subdisk_count c) 1024 && are_placed c) _ (and_left _ (list_all is_volume c.volumes) four)) refl (λ i j x y at_x at_y. by_name i j x y at_x at_y)
      where
        by_name : (i j : ℕ) (x y : VolumeEntry) → slice_get c.volumes i ≡ Some x → slice_get (v ∷ []) j ≡ Some y → differ x y ≡ true
        by_name i zero x y at_x at_y = let same : v ≡ y = cc in subst (λ (w : VolumeEntry). differ x w ≡ true) same (all_at (λ u. differ u v) c.volumes i x new at_x)
        by_name i (suc j) x y at_x at_y = absurd (no_item j y at_y)

    volumes : list_all is_volume (c.volumes ++ (v ∷ [])) ≡ true
    volumes = list_all-append is_volume c.volumes (v ∷ []) ∙ both before.2 (both (made_volume want found v made shape prefer is.many plexes.1 logs.1 logs.2) refl)

    group : group_or_none (c.volumes ++ (v ∷ [])) c.rvg ≡ true
    group = group_more c.volumes v c.rvg (and_right (nat_le (subdisk_count c) 1024 && are_placed c && pairwise differ c.volumes && list_all is_volume c.volumes) _ sound)
