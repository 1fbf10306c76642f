-- What a change of a configuration in place leaves as it was, and when what is sound stays so.
use Rattle.std.proofs.Common.{◌≡◌, ℕ, zero, suc, ◌+◌, ◌*◌, ◌<◌, ◌≤◌, Bool, true, List, [], ◌∷◌, ◌++◌, Option, Some, None, length, get_or, refl, ap, sym, subst, ◌∙◌, arith}
use Rattle.std.specs.Prelude.{◌&&◌, nat_le, nat_lt, slice_get, slice_set, flat_map, sum_by}
use Rattle.std.specs.List.{list_all, list_any}
use Rattle.std.proofs.lemmas.Bool.{and_parts, and_from}
use Rattle.std.proofs.lemmas.List.Concat.{flat_map-cons}
use Rattle.std.proofs.lemmas.List.Sums.{sum_by-cons}
use Rattle.vx_model.specs.Sizes.{map_blocks}
use Rattle.vx_model.specs.declared.site.PlexState.{PlexState}
use Rattle.vx_model.specs.declared.units.Units.{Units}
use Rattle.vx_config.specs.Changes.{changed_at, has_live, lost, lost_as, with_lost, with_plex, with_state, with_volumes}
use Rattle.vx_config.specs.Checks.{are_placed, blocks_of, column_blocks, differ, group_or_none, has_logs, has_plexes, has_shape, is_live, is_sound, is_volume, log_has, log_runs, map_blocks_of, other_than, pairwise, plex_fills, plex_runs, preferred_is, runs, volume_runs}
use Rattle.vx_config.specs.Configs.{plex_subdisks, subdisk_count, volume_subdisks}
use Rattle.vx_config.specs.declared.config.Config.{Config}
use Rattle.vx_config.specs.declared.entry.LogEntry.{LogEntry}
use Rattle.vx_config.specs.declared.entry.PlexEntry.{PlexEntry}
use Rattle.vx_config.specs.declared.entry.Subdisk.{Subdisk}
use Rattle.vx_config.specs.declared.entry.VolumeEntry.{VolumeEntry}
use Rattle.vx_config.specs.declared.entry.VolumeLog.{VolumeLog}
use Rattle.vx_config.specs.declared.entry.VolumeLog.TheVariants.{Drl, Fmr}

-- ---- lists

module _ {A : Type 0} (f : A → A) where
  pub changed-length : (k : ℕ) (xs : List A) → length (changed_at f k xs) ≡ length xs
  changed-length k [] = refl
  changed-length zero (x ∷ xs) = refl
  changed-length (suc k) (x ∷ xs) = ap suc (changed-length k xs)

  pub changed-past : (k : ℕ) (xs : List A) → length xs ≤ k → changed_at f k xs ≡ xs
  changed-past k [] le = refl
  changed-past zero (x ∷ xs) le = absurd (omega (arith, le))
  changed-past (suc k) (x ∷ xs) le = ap (λ (t : List A). x ∷ t) (changed-past k xs (omega (arith, le)))

  -- a change is a setting of the item at its place
  pub changed-set : (k : ℕ) (xs : List A) (d : A) → k < length xs → changed_at f k xs ≡ slice_set xs k (f (get_or xs k d))
  changed-set k [] d lt = absurd (omega (arith, lt))
  changed-set zero (x ∷ xs) d lt = refl
  changed-set (suc k) (x ∷ xs) d lt = ap (λ (t : List A). x ∷ t) (changed-set k xs d (omega (arith, lt)))

  -- the setting of an item that was read at its place, of a list that is told so and kept so
  pub changed-item : (k : ℕ) (told kept : List A) (was new : A) → kept ≡ told → k < length kept → was ≡ get_or kept k was → new ≡ f was → slice_set kept k new ≡ changed_at f k told
  changed-item k told kept was new same lt here is =
      ap (slice_set kept k) (is ∙ ap f here) ∙ sym (changed-set k kept was lt) ∙ ap (changed_at f k) same

  pub changed-none : (k : ℕ) (told kept : List A) → kept ≡ told → length kept ≤ k → told ≡ changed_at f k told
  changed-none k told kept same le = sym same ∙ sym (changed-past k kept le) ∙ ap (changed_at f k) same

  pub changed-flat : {B : Type 0} (g : A → List B) → ((x : A) → g (f x) ≡ g x) → (k : ℕ) (xs : List A) → flat_map g (changed_at f k xs) ≡ flat_map g xs
  changed-flat g same k [] = refl
  changed-flat g same zero (x ∷ xs) = flat_map-cons g (f x) xs ∙ ap (λ t. t ++ flat_map g xs) (same x) ∙ sym (flat_map-cons g x xs)
  changed-flat g same (suc k) (x ∷ xs) = flat_map-cons g x (changed_at f k xs) ∙ ap (λ t. g x ++ t) (changed-flat g same k xs) ∙ sym (flat_map-cons g x xs)

  pub changed-sum : (g : A → ℕ) → ((x : A) → g (f x) ≡ g x) → (k : ℕ) (xs : List A) → sum_by g (changed_at f k xs) ≡ sum_by g xs
  changed-sum g same k [] = refl
  changed-sum g same zero (x ∷ xs) = sum_by-cons g (f x) xs ∙ ap (λ (n : ℕ). n + sum_by g xs) (same x) ∙ sym (sum_by-cons g x xs)
  changed-sum g same (suc k) (x ∷ xs) = sum_by-cons g x (changed_at f k xs) ∙ ap (λ (n : ℕ). g x + n) (changed-sum g same k xs) ∙ sym (sum_by-cons g x xs)

  pub changed-all : (p : A → Bool) → ((x : A) → p (f x) ≡ p x) → (k : ℕ) (xs : List A) → list_all p (changed_at f k xs) ≡ list_all p xs
  changed-all p same k [] = refl
  changed-all p same zero (x ∷ xs) = ap (λ (b : Bool). b && list_all p xs) (same x)
  changed-all p same (suc k) (x ∷ xs) = ap (λ (b : Bool). p x && b) (changed-all p same k xs)

  pub changed-pairs : (r : A → A → Bool) → ((x y : A) → r (f x) y ≡ r x y) → ((x y : A) → r x (f y) ≡ r x y) → (k : ℕ) (xs : List A) → pairwise r (changed_at f k xs) ≡ pairwise r xs
  changed-pairs r first second k [] = refl
  changed-pairs r first second zero (x ∷ xs) = ap (λ (b : Bool). b && pairwise r xs) (all_first xs)
    where
      all_first : (ys : List A) → list_all (r (f x)) ys ≡ list_all (r x) ys
      all_first [] = refl
      all_first (y ∷ ys) = ap (λ (b : Bool). b && list_all (r (f x)) ys) (first x y) ∙ ap (λ (b : Bool). r x y && b) (all_first ys)
  changed-pairs r first second (suc k) (x ∷ xs) =
      ap (λ (b : Bool). b && pairwise r (changed_at f k xs)) (changed-all (r x) (λ y. second x y) k xs) ∙ ap (λ (b : Bool). list_all (r x) xs && b) (changed-pairs r first second k xs)

-- ---- volumes that differ in states and losses alone

-- what a change of a volume leaves as it was
pub record KeepsVolume (f : VolumeEntry → VolumeEntry) : Type 0 where
  pub name : (v : VolumeEntry) → (f v).name ≡ v.name
  pub blocks : (v : VolumeEntry) → (f v).blocks ≡ v.blocks
  pub runs : (v : VolumeEntry) → volume_runs (f v) ≡ volume_runs v
  pub count : (v : VolumeEntry) → volume_subdisks (f v) ≡ volume_subdisks v
  -- but for a plex that is not stale it is as much a volume as before
  pub volume : (v : VolumeEntry) → is_volume v ≡ true → has_live (Some (f v)) ≡ true → is_volume (f v) ≡ true

module _ (f : VolumeEntry → VolumeEntry) (keeps : KeepsVolume f) where
  blocks_kept : (k n : ℕ) (vs : List VolumeEntry) → blocks_of (changed_at f k vs) n ≡ blocks_of vs n
  blocks_kept k n [] = refl
  blocks_kept zero zero (v ∷ vs) = keeps.blocks v
  blocks_kept zero (suc n) (v ∷ vs) = refl
  blocks_kept (suc k) zero (v ∷ vs) = refl
  blocks_kept (suc k) (suc n) (v ∷ vs) = blocks_kept k n vs

  maps_kept : (k : ℕ) (vs : List VolumeEntry) (ns : List ℕ) → sum_by (map_blocks_of (changed_at f k vs)) ns ≡ sum_by (map_blocks_of vs) ns
  maps_kept k vs [] = refl
  maps_kept k vs (n ∷ ns) =
      sum_by-cons (map_blocks_of (changed_at f k vs)) n ns ∙ ap (λ (m : ℕ). map_blocks m + sum_by (map_blocks_of (changed_at f k vs)) ns) (blocks_kept k n vs)
      ∙ ap (λ (m : ℕ). map_blocks_of vs n + m) (maps_kept k vs ns) ∙ sym (sum_by-cons (map_blocks_of vs) n ns)

  group_kept : (k : ℕ) (vs : List VolumeEntry) (rvg : Option Units) → group_or_none (changed_at f k vs) rvg ≡ group_or_none vs rvg
  group_kept k vs None = refl
  group_kept k vs (Some u) =
      let ws : List VolumeEntry = changed_at f k vs in
      ap (λ (n : ℕ). nat_le 1 (length u.vols) && nat_le (length u.vols) 30 && list_all (λ m. nat_lt m n) (u.srl ∷ (u.maps ∷ u.vols)) && pairwise other_than (u.srl ∷ (u.maps ∷ u.vols))
      && nat_le 8 (blocks_of ws u.srl) && nat_le (8 * sum_by (map_blocks_of ws) u.vols) (blocks_of ws u.maps)) (changed-length f k vs)
      ∙ rw (blocks_kept k u.srl vs, blocks_kept k u.maps vs, maps_kept k vs u.vols) refl

  differ_kept : (k : ℕ) (vs : List VolumeEntry) → pairwise differ (changed_at f k vs) ≡ pairwise differ vs
  differ_kept k vs = changed-pairs f differ (λ v w. rw (keeps.name v) refl) (λ v w. rw (keeps.name w) refl) k vs

  volumes_kept : (k : ℕ) (vs : List VolumeEntry) → list_all is_volume vs ≡ true → has_live (slice_get (changed_at f k vs) k) ≡ true → list_all is_volume (changed_at f k vs) ≡ true
  volumes_kept k [] all live = refl
  volumes_kept zero (v ∷ vs) all live =
      let parts = and_parts (is_volume v) (list_all is_volume vs) all in
      and_from (is_volume (f v)) (list_all is_volume vs) (keeps.volume v parts.0 live) parts.1
  volumes_kept (suc k) (v ∷ vs) all live =
      let parts = and_parts (is_volume v) (list_all is_volume vs) all in
      and_from (is_volume v) (list_all is_volume (changed_at f k vs)) parts.0 (volumes_kept k vs parts.1 live)

  pub count_kept : (k : ℕ) (c : Config) → subdisk_count (with_volumes (changed_at f k c.volumes) c) ≡ subdisk_count c
  count_kept k c = changed-sum f volume_subdisks keeps.count k c.volumes

  pub sound_changed : (k : ℕ) (c : Config) → is_sound c ≡ true → has_live (slice_get (changed_at f k c.volumes) k) ≡ true → is_sound (with_volumes (changed_at f k c.volumes) c) ≡ true
  unfolding is_sound runs
  sound_changed k c sound live =
      let all = and_parts (nat_le (subdisk_count c) 1024 && are_placed c && pairwise differ c.volumes && list_all is_volume c.volumes) (group_or_none c.volumes c.rvg) sound in
      let some = and_parts (nat_le (subdisk_count c) 1024 && are_placed c && pairwise differ c.volumes) (list_all is_volume c.volumes) all.0 in
      rw (count_kept k c, changed-flat f volume_runs keeps.runs k c.volumes, differ_kept k c.volumes, volumes_kept k c.volumes some.1 live, group_kept k c.volumes c.rvg)
      (and_from (nat_le (subdisk_count c) 1024 && are_placed c && pairwise differ c.volumes && true) (group_or_none c.volumes c.rvg)
      (and_from (nat_le (subdisk_count c) 1024 && are_placed c && pairwise differ c.volumes) true some.0 refl) all.1)

-- ---- the state of a plex

module _ (state : PlexState) (whole : Bool) where
  fills_stated : (v w : VolumeEntry) (plex : ℕ) → v.width ≡ w.width → v.blocks ≡ w.blocks → v.ncol ≡ w.ncol → (ps : List PlexEntry)
      → list_all (plex_fills v) (changed_at (with_state state whole) plex ps) ≡ list_all (plex_fills w) ps
  unfolding column_blocks
  fills_stated v w plex width blocks ncol ps = changed-all (with_state state whole) (plex_fills v) (λ p. refl) plex ps ∙ all_same ps
    where
      all_same : (qs : List PlexEntry) → list_all (plex_fills v) qs ≡ list_all (plex_fills w) qs
      all_same qs = rw (width, blocks, ncol) refl

pub stated_keeps : (plex : ℕ) (state : PlexState) (whole : Bool) → KeepsVolume (with_plex plex state whole)
stated_keeps plex state whole = record {
  name = λ v. refl;
  blocks = λ v. refl;
  runs = λ v. ap (λ (rs : List Subdisk). rs ++ (log_runs v.drl ++ log_runs v.fmr)) (changed-flat (with_state state whole) plex_runs (λ p. refl) plex v.plexes);
  count = λ v. changed-sum (with_state state whole) plex_subdisks (λ p. refl) plex v.plexes;
  volume = λ v is live.
      let all = and_parts (has_shape v && has_logs v) (has_plexes v) is in
      let front = and_parts (has_shape v) (has_logs v) all.0 in
      let most = and_parts (nat_le (length v.plexes) 8 && list_all (plex_fills v) v.plexes && preferred_is (length v.plexes) v.prefer) (list_any is_live v.plexes) all.1 in
      let ps : List PlexEntry = changed_at (with_state state whole) plex v.plexes in
      let long : length ps ≡ length v.plexes = changed-length (with_state state whole) plex v.plexes in
      and_from (has_shape v && has_logs (with_plex plex state whole v)) (has_plexes (with_plex plex state whole v))
      (and_from (has_shape v) (has_logs (with_plex plex state whole v)) front.0 (rw long front.1))
      (and_from (nat_le (length ps) 8 && list_all (plex_fills (with_plex plex state whole v)) ps && preferred_is (length ps) v.prefer) (list_any is_live ps)
      (rw (long, fills_stated state whole (with_plex plex state whole v) v plex refl refl refl v.plexes) most.0) live);
}

-- ---- the loss of a log

log_has_kept : (blocks : ℕ) (is_lost : Bool) (o : Option LogEntry) → log_has blocks (lost_as is_lost o) ≡ log_has blocks o
log_has_kept blocks is_lost None = refl
log_has_kept blocks is_lost (Some l) = refl

log_runs_kept : (is_lost : Bool) (o : Option LogEntry) → log_runs (lost_as is_lost o) ≡ log_runs o
log_runs_kept is_lost None = refl
log_runs_kept is_lost (Some l) = refl

lost_runs : (log : VolumeLog) (is_lost : Bool) (v : VolumeEntry) → volume_runs (with_lost log is_lost v) ≡ volume_runs v
lost_runs Drl is_lost v = ap (λ (rs : List Subdisk). flat_map plex_runs v.plexes ++ (rs ++ log_runs v.fmr)) (log_runs_kept is_lost v.drl)
lost_runs Fmr is_lost v = ap (λ (rs : List Subdisk). flat_map plex_runs v.plexes ++ (log_runs v.drl ++ rs)) (log_runs_kept is_lost v.fmr)

lost_fills : (v w : VolumeEntry) → v.width ≡ w.width → v.blocks ≡ w.blocks → v.ncol ≡ w.ncol → (ps : List PlexEntry) → list_all (plex_fills v) ps ≡ list_all (plex_fills w) ps
unfolding column_blocks
lost_fills v w width blocks ncol ps = rw (width, blocks, ncol) refl

-- it is as much a volume as before
lost_volume : (log : VolumeLog) (is_lost : Bool) (v : VolumeEntry) → is_volume (with_lost log is_lost v) ≡ is_volume v
lost_volume Drl is_lost v = rw (log_has_kept (map_blocks v.blocks) is_lost v.drl, lost_fills (with_lost Drl is_lost v) v refl refl refl v.plexes) refl
lost_volume Fmr is_lost v = rw (log_has_kept (length v.plexes * map_blocks v.blocks) is_lost v.fmr, lost_fills (with_lost Fmr is_lost v) v refl refl refl v.plexes) refl

pub lost_keeps : (log : VolumeLog) (is_lost : Bool) → KeepsVolume (with_lost log is_lost)
lost_keeps log is_lost = record {
  name = λ v. elim log as (λ l. (with_lost l is_lost v).name ≡ v.name) [ Drl ↦ refl | Fmr ↦ refl ];
  blocks = λ v. elim log as (λ l. (with_lost l is_lost v).blocks ≡ v.blocks) [ Drl ↦ refl | Fmr ↦ refl ];
  runs = lost_runs log is_lost;
  count = λ v. elim log as (λ l. volume_subdisks (with_lost l is_lost v) ≡ volume_subdisks v) [ Drl ↦ refl | Fmr ↦ refl ];
  volume = λ v is live. lost_volume log is_lost v ∙ is;
}

pub sound_lost : (k : ℕ) (log : VolumeLog) (is_lost : Bool) (c : Config) → is_sound (lost k log is_lost c) ≡ is_sound c
unfolding is_sound runs
sound_lost k log is_lost c =
    rw (
      count_kept (with_lost log is_lost) (lost_keeps log is_lost) k c,
      changed-flat (with_lost log is_lost) volume_runs (lost_runs log is_lost) k c.volumes,
      differ_kept (with_lost log is_lost) (lost_keeps log is_lost) k c.volumes,
      changed-all (with_lost log is_lost) is_volume (lost_volume log is_lost) k c.volumes,
      group_kept (with_lost log is_lost) (lost_keeps log is_lost) k c.volumes c.rvg,
    ) refl

-- ---- the calls, over what they answer

pub state_count : (volume plex : ℕ) (state : PlexState) (whole : Bool) (c : Config) (vs : List VolumeEntry) → vs ≡ changed_at (with_plex plex state whole) volume c.volumes
    → subdisk_count (with_volumes vs c) ≡ subdisk_count c
state_count volume plex state whole c vs is = ap (λ (ws : List VolumeEntry). subdisk_count (with_volumes ws c)) is ∙ count_kept (with_plex plex state whole) (stated_keeps plex state whole) volume c

pub state_sound : (volume plex : ℕ) (state : PlexState) (whole : Bool) (c : Config) (vs : List VolumeEntry) → vs ≡ changed_at (with_plex plex state whole) volume c.volumes
    → is_sound c ≡ true → has_live (slice_get vs volume) ≡ true → is_sound (with_volumes vs c) ≡ true
state_sound volume plex state whole c vs is sound live =
    ap (λ (ws : List VolumeEntry). is_sound (with_volumes ws c)) is
    ∙ sound_changed (with_plex plex state whole) (stated_keeps plex state whole) volume c sound (subst (λ (ws : List VolumeEntry). has_live (slice_get ws volume) ≡ true) is live)

pub lost_count : (volume : ℕ) (log : VolumeLog) (is_lost : Bool) (c : Config) (vs : List VolumeEntry) → vs ≡ changed_at (with_lost log is_lost) volume c.volumes
    → subdisk_count (with_volumes vs c) ≡ subdisk_count c
lost_count volume log is_lost c vs is = ap (λ (ws : List VolumeEntry). subdisk_count (with_volumes ws c)) is ∙ count_kept (with_lost log is_lost) (lost_keeps log is_lost) volume c

pub lost_sound : (volume : ℕ) (log : VolumeLog) (is_lost : Bool) (c : Config) (vs : List VolumeEntry) → vs ≡ changed_at (with_lost log is_lost) volume c.volumes
    → is_sound (with_volumes vs c) ≡ is_sound c
lost_sound volume log is_lost c vs is = ap (λ (ws : List VolumeEntry). is_sound (with_volumes ws c)) is ∙ sound_lost volume log is_lost c
