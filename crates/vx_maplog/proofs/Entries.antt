-- What a checked configuration says of a log of a volume.
use Rattle.std.proofs.Common.{◌≡◌, ◌∙◌, ℕ, zero, suc, ◌+◌, ◌*◌, ◌<◌, ◌≤◌, Bool, true, false, Option, Some, None, List, [], ◌∷◌, ◌++◌, length, refl, ap, sym, arith}
use Rattle.std.specs.Prelude.{◌&&◌, nat_le, slice_get, flat_map}
use Rattle.std.specs.List.{list_all, list_any}
use Rattle.std.specs.Int.{div_ceil}
use Rattle.std.proofs.lemmas.Bool.{eqb-true, leb-true}
use Rattle.std.proofs.lemmas.List.Folds.{list_all-append}
use Rattle.std.proofs.lemmas.Nat.{mul-le}
use Rattle.vx_model.specs.Sizes.{map_blocks}
use Rattle.vx_model.proofs.Lists.{all_at}
use Rattle.vx_model.proofs.Tests.{and_left, and_right}
use Rattle.vx_disk.specs.Shelf.{Meaning}
use Rattle.vx_config.specs.Checks.{are_apart, are_placed, blocks_of, blocks_or_none, differ, ends_within, group_or_none, has_logs, has_plexes, has_shape, in_region, is_live, is_sound, is_volume, log_has, log_run, log_runs, pairwise, plex_fills, plex_runs, preferred_is, runs, volume_runs, plexes_of, plexes_or}
use Rattle.vx_config.specs.Configs.{subdisk_count}
use Rattle.vx_config.specs.declared.config.Config.{Config}
use Rattle.vx_config.specs.declared.entry.DiskEntry.{DiskEntry}
use Rattle.vx_config.specs.declared.entry.LogEntry.{LogEntry}
use Rattle.vx_config.specs.declared.entry.PlexEntry.{PlexEntry}
use Rattle.vx_config.specs.declared.entry.Subdisk.{Subdisk}
use Rattle.vx_config.specs.declared.entry.VolumeEntry.{VolumeEntry}
use Rattle.vx_config.specs.declared.entry.VolumeLog.{VolumeLog}
use Rattle.vx_config.specs.declared.entry.VolumeLog.TheVariants.{Drl, Fmr}
use Rattle.vx_maplog.specs.Logs.{DisksReach, log_blocks, log_in, log_of, log_or, maps_in_log}

-- ---- tests of a list, at one of its items

all_left : {A : Type 0} (p : A → Bool) (xs ys : List A) → list_all p (xs ++ ys) ≡ true → list_all p xs ≡ true
all_left p xs ys all = and_left (list_all p xs) (list_all p ys) (sym (list_all-append p xs ys) ∙ all)

all_right : {A : Type 0} (p : A → Bool) (xs ys : List A) → list_all p (xs ++ ys) ≡ true → list_all p ys ≡ true
all_right p xs ys all = and_right (list_all p xs) (list_all p ys) (sym (list_all-append p xs ys) ∙ all)

-- all that the volumes have, and so what one of them has
flat_at : (p : Subdisk → Bool) (vs : List VolumeEntry) (i : ℕ) (v : VolumeEntry) → list_all p (flat_map volume_runs vs) ≡ true → slice_get vs i ≡ Some v → list_all p (volume_runs v) ≡ true
flat_at p [] i v all at = absurd cc
flat_at p (w ∷ vs) zero v all at = let same : w ≡ v = cc in ap (λ (x : VolumeEntry). list_all p (volume_runs x)) (sym same) ∙ all_left p (volume_runs w) (flat_map volume_runs vs) all
flat_at p (w ∷ vs) (suc i) v all at = flat_at p vs i v (all_right p (volume_runs w) (flat_map volume_runs vs) all) at

-- ---- the parts of the test of a configuration

sound_runs : (c : Config) → is_sound c ≡ true → (list_all (in_region c.disks) (runs c) ≡ true) × (list_all is_volume c.volumes ≡ true)
unfolding is_sound
sound_runs c is =
    let four : nat_le (subdisk_count c) 1024 && are_placed c && pairwise differ c.volumes && list_all is_volume c.volumes ≡ true = and_left _ (group_or_none c.volumes c.rvg) is in
    let volumes : list_all is_volume c.volumes ≡ true = and_right (nat_le (subdisk_count c) 1024 && are_placed c && pairwise differ c.volumes) _ four in
    let three : nat_le (subdisk_count c) 1024 && are_placed c && pairwise differ c.volumes ≡ true = and_left _ (list_all is_volume c.volumes) four in
    let two : nat_le (subdisk_count c) 1024 && are_placed c ≡ true = and_left _ (pairwise differ c.volumes) three in
    let placed : are_placed c ≡ true = and_right (nat_le (subdisk_count c) 1024) _ two in
    (and_left (list_all (in_region c.disks) (runs c)) (pairwise are_apart (runs c)) placed, volumes)

-- the run of a log is one of the volume's runs
run_in : (p : Subdisk → Bool) (v : VolumeEntry) (log : VolumeLog) (l : LogEntry) → log_in log v ≡ Some l → list_all p (volume_runs v) ≡ true → p (log_run l) ≡ true
run_in p v log l is all = by log is (all_right p (flat_map plex_runs v.plexes) (log_runs v.drl ++ log_runs v.fmr) all)
  where
    one : (o : Option LogEntry) → o ≡ Some l → list_all p (log_runs o) ≡ true → p (log_run l) ≡ true
    one None none all = absurd cc
    one (Some k) some all = let same : k ≡ l = cc in ap (λ (x : LogEntry). p (log_run x)) (sym same) ∙ and_left (p (log_run k)) true all

    by : (log : VolumeLog) → log_in log v ≡ Some l → list_all p (log_runs v.drl ++ log_runs v.fmr) ≡ true → p (log_run l) ≡ true
    by Drl is logs = one v.drl is (all_left p (log_runs v.drl) (log_runs v.fmr) logs)
    by Fmr is logs = one v.fmr is (all_right p (log_runs v.drl) (log_runs v.fmr) logs)

log_size : (n : ℕ) (o : Option LogEntry) (l : LogEntry) → o ≡ Some l → log_has n o ≡ true → l.blocks ≡ n
log_size n None l none has = absurd cc
log_size n (Some k) l some has = let same : k ≡ l = cc in ap (λ (x : LogEntry). x.blocks) (sym same) ∙ eqb-true k.blocks n has

sized : (v : VolumeEntry) (log : VolumeLog) (l : LogEntry) → log_in log v ≡ Some l → is_volume v ≡ true → l.blocks ≡ maps_in_log log (length v.plexes) * map_blocks v.blocks
sized v Drl l is all =
    let logs : has_logs v ≡ true = and_right (has_shape v) _ (and_left _ (has_plexes v) all) in
    let e : l.blocks ≡ map_blocks v.blocks = log_size (map_blocks v.blocks) v.drl l is (and_left _ (log_has (length v.plexes * map_blocks v.blocks) v.fmr) logs) in
    omega (arith, e)
sized v Fmr l is all =
    let logs : has_logs v ≡ true = and_right (has_shape v) _ (and_left _ (has_plexes v) all) in
    log_size (length v.plexes * map_blocks v.blocks) v.fmr l is (and_right (log_has (map_blocks v.blocks) v.drl) _ logs)

-- a volume has a plex
some_plex : (v : VolumeEntry) → is_volume v ≡ true → 0 < length v.plexes
some_plex v all = by v.plexes (and_right (nat_le (length v.plexes) 8 && list_all (plex_fills v) v.plexes && preferred_is (length v.plexes) v.prefer) _ (and_right (has_shape v && has_logs v) _ all))
  where
    by : (ps : List PlexEntry) → list_any is_live ps ≡ true → 0 < length ps
    by [] any = absurd (let clash : false ≡ true = any in cc)
    by (p ∷ ps) any = omega arith

pub some_maps : (blocks : ℕ) → 0 < blocks → 0 < map_blocks blocks
some_maps blocks some = ceil_pos (div_ceil blocks 64) 4096 (ceil_pos blocks 64 some (omega arith)) (omega arith)
  where
    ceil_pos : (a b : ℕ) → 0 < a → 0 < b → 0 < div_ceil a b
    ceil_pos a b some more = grind (arith)

-- ---- where a log lies

pub record Placed (c : Config) (v : ℕ) (log : VolumeLog) (l : LogEntry) (m : Meaning) : Type 0 where
  pub exists : l.disk < m.units
  pub within : l.start + l.blocks ≤ m.size l.disk
  pub blocks : l.blocks ≡ log_blocks c v log
  pub some : 0 < l.blocks

region_there : (c : Config) (m : Meaning) (s : Subdisk) → DisksReach c.disks m → in_region c.disks s ≡ true → (s.disk < m.units) × (s.start + s.blocks ≤ m.size s.disk)
region_there c m s fit is = by (slice_get c.disks s.disk) refl is
  where
    by : (o : Option DiskEntry) → slice_get c.disks s.disk ≡ o → ends_within s o ≡ true → (s.disk < m.units) × (s.start + s.blocks ≤ m.size s.disk)
    by None at is = absurd (let clash : false ≡ true = is in cc)
    by (Some d) at is =
        let end : s.start + s.blocks ≤ d.blocks = leb-true (s.start + s.blocks) d.blocks (and_right (nat_le 512 s.start) _ is) in
        (fit.there s.disk d at, omega (arith, end, fit.size s.disk d at))

pub placed : (c : Config) (v : ℕ) (log : VolumeLog) (l : LogEntry) (m : Meaning) → is_sound c ≡ true → log_of c v log ≡ Some l → 0 < blocks_of c.volumes v → DisksReach c.disks m → Placed c v log l m
unfolding runs
placed c v log l m sound is some fit = by (slice_get c.volumes v) refl
  where
    more : (log : VolumeLog) (p n : ℕ) → 0 < p → 0 < n → 0 < maps_in_log log p * n
    more Drl p n some_p some_n = omega (arith, some_n)
    more Fmr p n some_p some_n = let k = mul-le 1 1 p n (omega (arith, some_p)) (omega (arith, some_n)) in omega (arith, k)

    by : (o : Option VolumeEntry) → slice_get c.volumes v ≡ o → Placed c v log l m
    by None at = absurd (let clash : None ≡ Some l = ap (log_or log) (sym at) ∙ is in cc)
    by (Some x) at =
        let all = sound_runs c sound in
        let mine : log_in log x ≡ Some l = ap (log_or log) (sym at) ∙ is in
        let volume : is_volume x ≡ true = all_at is_volume c.volumes v x all.1 at in
        let region = region_there c m (log_run l) fit (run_in (in_region c.disks) x log l mine (flat_at (in_region c.disks) c.volumes v x all.0 at)) in
        let count : plexes_of c v ≡ length x.plexes = ap plexes_or at in
        let size : blocks_of c.volumes v ≡ x.blocks = ap blocks_or_none at in
        let long : l.blocks ≡ maps_in_log log (length x.plexes) * map_blocks x.blocks = sized x log l mine volume in
        let least = more log (length x.plexes) (map_blocks x.blocks) (some_plex x volume) (some_maps x.blocks (omega (arith, some, size))) in
        record {
          exists = region.0;
          within = region.1;
          blocks = long ∙ ap (λ (n : ℕ). maps_in_log log n * map_blocks x.blocks) (sym count) ∙ ap (λ (n : ℕ). maps_in_log log (plexes_of c v) * map_blocks n) (sym size);
          some = omega (arith, least, long);
        }
