-- Where the logs of a volume lie, and that no plex lies there.
use Rattle.std.proofs.Common.{◌≡◌, ◌∙◌, inl, inr, ℕ, suc, ◌+◌, ◌-◌, ◌<◌, ◌≤◌, ◌⊎◌, Bool, true, false, Option, Some, None, List, [], ◌∷◌, ◌++◌, length, IsTrue, refl, sym, ap, arith}
use Rattle.std.specs.Prelude.{◌&&◌, ◌||◌, ◌==◌, not, nat_lt, nat_le, min, max, is_some, if◌then◌else◌, slice_get, flat_map, sum_by}
use Rattle.std.proofs.lemmas.Bool.{cases_lt, eq-eqb, leb-true, ltb-true, lt-ltb}
use Rattle.std.proofs.lemmas.List.Sums.{sum_by-cons}
use Rattle.std.proofs.lemmas.Option.{slice_get_within}
use Rattle.vx_bitmap.specs.Maps.{Lies, Map, map_block_count}
use Rattle.vx_config.specs.Checks.{are_apart, blocks_of as blocks_in, blocks_or_none, column_blocks, is_sound, is_volume, log_run, log_runs, pairwise, plex_runs, runs, volume_runs, plexes_of, plexes_or, blocks_or}
use Rattle.vx_config.specs.declared.config.Config.{Config}
use Rattle.vx_config.specs.declared.entry.DiskEntry.{DiskEntry}
use Rattle.vx_config.specs.declared.entry.LogEntry.{LogEntry}
use Rattle.vx_config.specs.declared.entry.PlexEntry.{PlexEntry}
use Rattle.vx_config.specs.declared.entry.Subdisk.{Subdisk}
use Rattle.vx_config.specs.declared.entry.VolumeEntry.{VolumeEntry}
use Rattle.vx_config.specs.declared.entry.VolumeLog.{VolumeLog}
use Rattle.vx_config.specs.declared.entry.VolumeLog.TheVariants.{Drl, Fmr}
use Rattle.vx_disk.specs.Blocks.{bit_at}
use Rattle.vx_disk.specs.Moves.{Run}
use Rattle.vx_disk.specs.Shelf.{Meaning}
use Rattle.vx_layout.specs.Places.{HasBlock, subdisk_blocks as blocks_at, has_plex, linear, located, place, place_in, place_or, plex_in}
use Rattle.vx_layout.proofs.Pairs.{all_at, flat_across, flat_part, get_left, get_right, in_flat, pairs_across, pairs_right}
use Rattle.vx_layout.proofs.Placing.{filled, from_sound, linear_within}
use Rattle.vx_maplog.specs.Logs.{DisksReach as HoldDisks, LogLoaded, log_in, log_of, log_or}
use Rattle.vx_maplog.proofs.Entries.{Placed, placed}
use Rattle.vx_volume.specs.Plexes.{DisksFit}
use Rattle.vx_volume.proofs.PlaceLemmas.{count_few}
use Rattle.vx_logs.specs.Held.{stale, stale_or}
use Rattle.vx_logs.specs.Noting.{is_one}

-- ---- plexes that are STALE

pub stale_below : (c : Config) (v p : ℕ) → IsTrue (stale c v p) → p < plexes_of c v
unfolding stale
stale_below c v p is = by (slice_get c.volumes v) refl
  where
    at_plex : (x : VolumeEntry) → slice_get c.volumes v ≡ Some x → (o : Option PlexEntry) → slice_get x.plexes p ≡ o → stale_or o ≡ true → p < plexes_of c v
    at_plex x at None at_p stale_is = absurd (let clash : false ≡ true = stale_is in cc)
    at_plex x at (Some a) at_p stale_is = let count : plexes_of c v ≡ length x.plexes = ap plexes_or at in omega (arith, count, slice_get_within x.plexes p a at_p)

    by : (o : Option VolumeEntry) → slice_get c.volumes v ≡ o → p < plexes_of c v
    by None at = absurd (let clash : false ≡ true = ap (λ (o : Option VolumeEntry). stale_or (plex_in o p)) (sym at) ∙ is in cc)
    by (Some x) at = at_plex x at (slice_get x.plexes p) refl (ap (λ (o : Option VolumeEntry). stale_or (plex_in o p)) (sym at) ∙ is)

pub stale_few : (c : Config) → is_sound c ≡ true → (v p : ℕ) → IsTrue (stale c v p) → p < 8
stale_few c sound v p is = omega (arith, stale_below c v p is, count_few c sound v)

-- a set of the first eight plexes has all of them
pub set_is : (c : Config) → is_sound c ≡ true → (v set : ℕ) → ((p : ℕ) → p < 8 → bit_at set p ≡ stale c v p) → (p : ℕ) → is_one set p ≡ stale c v p
set_is c sound v set those p = elim (cases_lt p 8) [
  | inl lt ↦ ap (λ (t : Bool). t && bit_at set p) (lt-ltb p 8 lt) ∙ those p lt
  | inr ge ↦ by (is_one set p) (stale c v p) refl refl ge
]
  where
    by : (a b : Bool) → is_one set p ≡ a → stale c v p ≡ b → 8 ≤ p → a ≡ b
    by false false a_is b_is le = refl
    by true b a_is b_is le = absurd (let lt : p < 8 = ltb-true p 8 (first _ _ a_is) in omega (arith, lt, le)) where
      first : (x y : Bool) → (x && y) ≡ true → x ≡ true
      first true y e = refl
      first false y e = e
    by false true a_is b_is le = absurd (let lt = stale_few c sound v p b_is in omega (arith, lt, le))

-- ---- where a log lies

pub holds_of : (ds : List DiskEntry) (m : Meaning) → DisksFit ds m → HoldDisks ds m
holds_of ds m fit = record {
  there = λ u d at. fit.there u (slice_get_within ds u d at);
  size = λ u d at. let size : m.size u ≡ d.blocks = fit.size u (slice_get_within ds u d at) ∙ ap blocks_or at in omega (arith, size);
}

pub log_placed : (c : Config) (v : ℕ) (log : VolumeLog) (map : Map) (m : Meaning) → is_sound c ≡ true → 0 < blocks_in c.volumes v → DisksFit c.disks m → (l : LogLoaded c v log map) → Placed c v log l.entry m
log_placed c v log map m sound some fit l = placed c v log l.entry m sound l.is some (holds_of c.disks m fit)

pub log_lies : (c : Config) (v : ℕ) (log : VolumeLog) (map : Map) (m : Meaning) → is_sound c ≡ true → 0 < blocks_in c.volumes v → DisksFit c.disks m → LogLoaded c v log map → Lies map m
log_lies c v log map m sound some fit l =
    let at = log_placed c v log map m sound some fit l in
    record {
      exists = omega (arith, at.exists, l.run.there);
      within =
          let size : m.size map.unit ≡ m.size l.entry.disk = ap m.size l.run.there in
          omega (arith, at.within, l.run.begins, l.run.long, at.blocks, size);
    }

-- ---- the run of a log is one of the volume's, behind those of its plexes

record AsRun (v : VolumeEntry) (log : VolumeLog) (l : LogEntry) : Type 0 where
  index : ℕ
  at : slice_get (log_runs v.drl ++ log_runs v.fmr) index ≡ Some (log_run l)

as_run : (v : VolumeEntry) (log : VolumeLog) (l : LogEntry) → log_in log v ≡ Some l → AsRun v log l
as_run v Drl l is = record { index = 0; at = ap (λ (o : Option LogEntry). slice_get (log_runs o ++ log_runs v.fmr) 0) is }
as_run v Fmr l is = let it = get_right (log_runs v.drl) (log_runs v.fmr) 0 (log_run l) (ap (λ (o : Option LogEntry). slice_get (log_runs o) 0) is) in record { index = it.0; at = it.1 }

-- a volume with a log
record HasRun (c : Config) (v : ℕ) (log : VolumeLog) (l : LogEntry) : Type 0 where
  volume : VolumeEntry
  at : slice_get c.volumes v ≡ Some volume
  is : log_in log volume ≡ Some l

has_run : (c : Config) (v : ℕ) (log : VolumeLog) (l : LogEntry) → log_of c v log ≡ Some l → HasRun c v log l
has_run c v log l is = by (slice_get c.volumes v) refl
  where
    by : (o : Option VolumeEntry) → slice_get c.volumes v ≡ o → HasRun c v log l
    by None at = absurd (let clash : None ≡ Some l = ap (log_or log) (sym at) ∙ is in cc)
    by (Some x) at = record { volume = x; at = at; is = ap (log_or log) (sym at) ∙ is }

-- ---- two runs that are apart

pub no_block : (s t : Subdisk) (b : ℕ) → are_apart s t ≡ true → s.disk ≡ t.disk → s.start ≤ b → b < s.start + s.blocks → t.start ≤ b → b < t.start + t.blocks → ⊥
unfolding are_apart
no_block s t b apart disk low_s high_s low_t high_t = by (s.disk == t.disk) (eq-eqb s.disk t.disk disk) apart
  where
    by : (x : Bool) → x ≡ true → not x || nat_le (min (s.start + s.blocks) (t.start + t.blocks)) (max s.start t.start) ≡ true → ⊥
    by true is test = let le : min (s.start + s.blocks) (t.start + t.blocks) ≤ max s.start t.start = leb-true _ _ test in omega (arith, le, low_s, high_s, low_t, high_t)
    by false is test = let clash : false ≡ true = is in absurd cc

-- the subdisk that holds a block of a plex
record Sits (c : Config) (v p k : ℕ) : Type 0 where
  volume : VolumeEntry
  at_v : slice_get c.volumes v ≡ Some volume
  index : ℕ
  subdisk : Subdisk
  there : slice_get (flat_map plex_runs volume.plexes) index ≡ Some subdisk
  disk : (place c v p k).0 ≡ subdisk.disk
  low : subdisk.start ≤ (place c v p k).1
  high : (place c v p k).1 < subdisk.start + subdisk.blocks

record Located (ss : List Subdisk) (k : ℕ) : Type 0 where
  index : ℕ
  subdisk : Subdisk
  there : slice_get ss index ≡ Some subdisk
  disk : (located ss k).0 ≡ subdisk.disk
  low : subdisk.start ≤ (located ss k).1
  high : (located ss k).1 < subdisk.start + subdisk.blocks

located_at : (ss : List Subdisk) (k : ℕ) → k < sum_by blocks_at ss → Located ss k
located_at [] k lt = absurd (omega (arith, lt))
located_at (s ∷ ss) k lt = elim (cases_lt k s.blocks) [
  | inl here ↦
      let is : located (s ∷ ss) k ≡ (s.disk, s.start + k) = ap (λ (b : Bool). if b then (s.disk, s.start + k) else located ss (k - s.blocks)) (lt-ltb k s.blocks here) in
      let at : (located (s ∷ ss) k).1 ≡ s.start + k = ap (λ (q : ℕ × ℕ). q.1) is in
      record { index = 0; subdisk = s; there = refl; disk = ap (λ (q : ℕ × ℕ). q.0) is; low = omega (arith, at); high = omega (arith, at, here) }
  | inr past ↦
      let sum : sum_by blocks_at (s ∷ ss) ≡ s.blocks + sum_by blocks_at ss = sum_by-cons blocks_at s ss in
      let it = located_at ss (k - s.blocks) (omega (arith, lt, past, sum)) in
      let is : located (s ∷ ss) k ≡ located ss (k - s.blocks) = ap (λ (b : Bool). if b then (s.disk, s.start + k) else located ss (k - s.blocks)) (not_lt k s.blocks past) in
      let at : (located (s ∷ ss) k).1 ≡ (located ss (k - s.blocks)).1 = ap (λ (q : ℕ × ℕ). q.1) is in
      record { index = suc it.index; subdisk = it.subdisk; there = it.there; disk = ap (λ (q : ℕ × ℕ). q.0) is ∙ it.disk; low = omega (arith, at, it.low); high = omega (arith, at, it.high) }
]
  where
    not_lt : (m n : ℕ) → n ≤ m → nat_lt m n ≡ false
    not_lt m n le = by (nat_lt m n) refl where
      by : (t : Bool) → nat_lt m n ≡ t → t ≡ false
      by true is = absurd (let lt : m < n = ltb-true m n is in omega (arith, le, lt))
      by false is = refl

sits_of : (c : Config) → is_sound c ≡ true → (v p k : ℕ) → HasBlock c v p k → Sits c v p k
unfolding has_plex place
sits_of c sound v p k has = by_volume (slice_get c.volumes v) refl
  where
    by_plex : (x : VolumeEntry) → slice_get c.volumes v ≡ Some x → (o : Option PlexEntry) → slice_get x.plexes p ≡ o → is_some o ≡ true → Sits c v p k
    by_plex x at None at_p is = absurd (let clash : false ≡ true = is in cc)
    by_plex x at (Some a) at_p is =
        let blocks : blocks_in c.volumes v ≡ x.blocks = ap blocks_or_none at in
        let full = filled x p a (all_at is_volume c.volumes v x (from_sound c sound).2 at) at_p in
        let it = located_at a.subdisks (linear (column_blocks x) x.ncol x.width k) (linear_within x a k full (omega (arith, blocks, has.block))) in
        let is_at : place_or (slice_get c.volumes v) p k ≡ located a.subdisks (linear (column_blocks x) x.ncol x.width k) = ap (λ (o : Option VolumeEntry). place_or o p k) at ∙ ap (λ (o : Option PlexEntry). place_in x o k) at_p in
        let second : (place_or (slice_get c.volumes v) p k).1 ≡ (located a.subdisks (linear (column_blocks x) x.ncol x.width k)).1 = ap (λ (q : ℕ × ℕ). q.1) is_at in
        let run = in_flat plex_runs x.plexes p it.index a it.subdisk at_p it.there in
        record {
          volume = x;
          at_v = at;
          index = run.0;
          subdisk = it.subdisk;
          there = run.1;
          disk = ap (λ (q : ℕ × ℕ). q.0) is_at ∙ it.disk;
          low = omega (arith, second, it.low);
          high = omega (arith, second, it.high);
        }

    by_volume : (o : Option VolumeEntry) → slice_get c.volumes v ≡ o → Sits c v p k
    by_volume None at = absurd (let clash : false ≡ true = ap (λ (o : Option VolumeEntry). is_some (plex_in o p)) (sym at) ∙ has.plex in cc)
    by_volume (Some x) at = by_plex x at (slice_get x.plexes p) refl (ap (λ (o : Option VolumeEntry). is_some (plex_in o p)) (sym at) ∙ has.plex)

same_volume : (c : Config) (v : ℕ) (x y : VolumeEntry) → slice_get c.volumes v ≡ Some x → slice_get c.volumes v ≡ Some y → y ≡ x
same_volume c v x y at at' = let both : Some y ≡ Some x = sym at' ∙ at in cc

-- no block of a plex lies in a log
pub log_off_plex : (c : Config) → is_sound c ≡ true → (v : ℕ) (log : VolumeLog) (l : LogEntry) → log_of c v log ≡ Some l → (w p k b : ℕ) → HasBlock c w p k → place c w p k ≡ (l.disk, b) → l.start ≤ b → b < l.start + l.blocks → ⊥
unfolding runs
log_off_plex c sound v log l is w p k b has at low high = by (cases_lt w v)
  where
    pairs : pairwise are_apart (flat_map volume_runs c.volumes) ≡ true
    pairs = (from_sound c sound).1

    at_disk : (place c w p k).0 ≡ l.disk
    at_disk = ap (λ (q : ℕ × ℕ). q.0) at

    at_block : (place c w p k).1 ≡ b
    at_block = ap (λ (q : ℕ × ℕ). q.1) at

    s : Sits c w p k
    s = sits_of c sound w p k has

    h : HasRun c v log l
    h = has_run c v log l is

    r : AsRun h.volume log l
    r = as_run h.volume log l h.is

    mine : (j : ℕ) × (slice_get (volume_runs h.volume) j ≡ Some (log_run l))
    mine = get_right (flat_map plex_runs h.volume.plexes) (log_runs h.volume.drl ++ log_runs h.volume.fmr) r.index (log_run l) r.at

    theirs : (j : ℕ) × (slice_get (volume_runs s.volume) j ≡ Some s.subdisk)
    theirs = get_left (flat_map plex_runs s.volume.plexes) (log_runs s.volume.drl ++ log_runs s.volume.fmr) s.index s.subdisk s.there

    clash_left : are_apart s.subdisk (log_run l) ≡ true → ⊥
    clash_left apart = no_block s.subdisk (log_run l) b apart (sym s.disk ∙ at_disk) (omega (arith, s.low, at_block)) (omega (arith, s.high, at_block)) low high

    clash_right : are_apart (log_run l) s.subdisk ≡ true → ⊥
    clash_right apart = no_block (log_run l) s.subdisk b apart (sym at_disk ∙ s.disk) low high (omega (arith, s.low, at_block)) (omega (arith, s.high, at_block))

    here : w ≡ v → ⊥
    here same =
        let one : s.volume ≡ h.volume = same_volume c v h.volume s.volume h.at (ap (slice_get c.volumes) (sym same) ∙ s.at_v) in
        clash_left (pairs_across are_apart (flat_map plex_runs h.volume.plexes) (log_runs h.volume.drl ++ log_runs h.volume.fmr) s.index r.index s.subdisk (log_run l)
        (flat_part volume_runs are_apart c.volumes v h.volume pairs h.at) (ap (λ (x : VolumeEntry). slice_get (flat_map plex_runs x.plexes) s.index) (sym one) ∙ s.there) r.at)

    by : (w < v) ⊎ (v ≤ w) → ⊥
    by (inl lt) = clash_left (flat_across volume_runs are_apart c.volumes w v theirs.0 mine.0 s.volume h.volume s.subdisk (log_run l) pairs lt s.at_v h.at theirs.1 mine.1)
    by (inr le) = elim (cases_lt v w) [
      | inl lt ↦ clash_right (flat_across volume_runs are_apart c.volumes v w mine.0 theirs.0 h.volume s.volume (log_run l) s.subdisk pairs lt h.at s.at_v mine.1 theirs.1)
      | inr ge ↦ here (omega (arith, le, ge))
    ]

-- the two logs of a volume have no block in common
pub logs_off : (c : Config) → is_sound c ≡ true → (v : ℕ) (d f : LogEntry) → log_of c v Drl ≡ Some d → log_of c v Fmr ≡ Some f → d.disk ≡ f.disk → (b : ℕ) → d.start ≤ b → b < d.start + d.blocks → f.start ≤ b → b < f.start + f.blocks → ⊥
unfolding runs
logs_off c sound v d f is_d is_f disk b low_d high_d low_f high_f = no_block (log_run d) (log_run f) b apart disk low_d high_d low_f high_f
  where
    pairs : pairwise are_apart (flat_map volume_runs c.volumes) ≡ true
    pairs = (from_sound c sound).1

    h : HasRun c v Drl d
    h = has_run c v Drl d is_d

    k : HasRun c v Fmr f
    k = has_run c v Fmr f is_f

    fmr : h.volume.fmr ≡ Some f
    fmr = ap (λ (x : VolumeEntry). x.fmr) (same_volume c v k.volume h.volume k.at h.at) ∙ k.is

    apart : are_apart (log_run d) (log_run f) ≡ true
    apart =
        pairs_across are_apart (log_runs h.volume.drl) (log_runs h.volume.fmr) 0 0 (log_run d) (log_run f)
        (pairs_right are_apart (flat_map plex_runs h.volume.plexes) (log_runs h.volume.drl ++ log_runs h.volume.fmr) (flat_part volume_runs are_apart c.volumes v h.volume pairs h.at))
        (ap (λ (o : Option LogEntry). slice_get (log_runs o) 0) h.is) (ap (λ (o : Option LogEntry). slice_get (log_runs o) 0) fmr)

-- the same by the maps in memory
pub map_off_plex : (c : Config) → is_sound c ≡ true → (v : ℕ) (log : VolumeLog) (map : Map) (m : Meaning) → 0 < blocks_in c.volumes v → DisksFit c.disks m → LogLoaded c v log map
    → (w p k u b : ℕ) → HasBlock c w p k → place c w p k ≡ (u, b) → Run map.unit map.first (map_block_count map) u b → ⊥
map_off_plex c sound v log map m some fit l w p k u b has at run =
    let put = log_placed c v log map m sound some fit l in
    let disk : u ≡ l.entry.disk = run.there ∙ l.run.there in
    log_off_plex c sound v log l.entry l.is w p k b has (at ∙ ap (λ (x : ℕ). (x, b)) disk) (omega (arith, run.first, l.run.begins)) (omega (arith, run.last, l.run.begins, l.run.long, put.blocks))

pub maps_off : (c : Config) → is_sound c ≡ true → (v : ℕ) (d f : Map) (m : Meaning) → 0 < blocks_in c.volumes v → DisksFit c.disks m → LogLoaded c v Drl d → LogLoaded c v Fmr f
    → (u b : ℕ) → Run d.unit d.first (map_block_count d) u b → Run f.unit f.first (map_block_count f) u b → ⊥
maps_off c sound v d f m some fit ld lf u b run_d run_f =
    let put_d = log_placed c v Drl d m sound some fit ld in
    let put_f = log_placed c v Fmr f m sound some fit lf in
    logs_off c sound v ld.entry lf.entry ld.is lf.is (sym ld.run.there ∙ sym run_d.there ∙ run_f.there ∙ lf.run.there) b
    (omega (arith, run_d.first, ld.run.begins)) (omega (arith, run_d.last, ld.run.begins, ld.run.long, put_d.blocks))
    (omega (arith, run_f.first, lf.run.begins)) (omega (arith, run_f.last, lf.run.begins, lf.run.long, put_f.blocks))
