-- Where the logs of a volume lie beside the plexes and the configuration areas.
use Rattle.std.proofs.Common.{◌≡◌, ◌∙◌, ℕ, ◌+◌, ◌<◌, ◌≤◌, ◌⊎◌, inl, inr, true, Option, Some, None, List, ◌++◌, IsTrue, refl, sym, ap, arith}
use Rattle.std.specs.Prelude.{slice_get, flat_map}
use Rattle.std.proofs.lemmas.Bool.{cases_lt}
use Rattle.vx_bitmap.specs.Maps.{Map, map_block_count}
use Rattle.vx_config.specs.Checks.{are_apart, blocks_of as blocks_in, in_region, is_sound, log_run, log_runs, plex_runs, runs, volume_runs}
use Rattle.vx_config.specs.declared.config.Config.{Config}
use Rattle.vx_config.specs.declared.entry.LogEntry.{LogEntry}
use Rattle.vx_config.specs.declared.entry.VolumeEntry.{VolumeEntry}
use Rattle.vx_config.specs.declared.entry.VolumeLog.{VolumeLog}
use Rattle.vx_config.specs.declared.entry.VolumeLog.TheVariants.{Drl, Fmr}
use Rattle.vx_disk.specs.Moves.{Run}
use Rattle.vx_disk.specs.Shelf.{Meaning}
use Rattle.vx_drl.specs.Dirty.{Dirty}
use Rattle.vx_fmr.specs.Missed.{Missed}
use Rattle.vx_layout.specs.Places.{place}
use Rattle.vx_layout.proofs.Pairs.{all_at, flat_across, get_right, in_flat}
use Rattle.vx_layout.proofs.Placing.{from_sound, region_of}
use Rattle.vx_logs.specs.Held.{DrlRun, FmrRun, LogsFit}
use Rattle.vx_logs.specs.declared.logs.Logs.{Logs}
use Rattle.vx_logs.proofs.LogLemmas.{holds_of, log_off_plex, log_placed, logs_off, no_block}
use Rattle.vx_maplog.proofs.Entries.{placed}
use Rattle.vx_maplog.specs.Logs.{LogLoaded, log_in, log_of, log_or}
use Rattle.vx_model.specs.Sizes.{map_blocks}
use Rattle.vx_volume.specs.Plexes.{DisksFit, Inside, active}
use Rattle.vx_volume.proofs.PlaceLemmas.{has_of}
use Rattle.vx_grouplogs.specs.Covering.{OnLogs}

-- ---- a log lies in the public region

run_of : (v : VolumeEntry) (log : VolumeLog) (l : LogEntry) → log_in log v ≡ Some l → (j : ℕ) × (slice_get (log_runs v.drl ++ log_runs v.fmr) j ≡ Some (log_run l))
run_of v Drl l is = (0, ap (λ (o : Option LogEntry). slice_get (log_runs o ++ log_runs v.fmr) 0) is)
run_of v Fmr l is = get_right (log_runs v.drl) (log_runs v.fmr) 0 (log_run l) (ap (λ (o : Option LogEntry). slice_get (log_runs o) 0) is)

pub log_public : (c : Config) → is_sound c ≡ true → (v : ℕ) (log : VolumeLog) (l : LogEntry) → log_of c v log ≡ Some l → 512 ≤ l.start
unfolding runs
log_public c sound v log l is = by (slice_get c.volumes v) refl
  where
    by : (o : Option VolumeEntry) → slice_get c.volumes v ≡ o → 512 ≤ l.start
    by None at = absurd (let clash : None ≡ Some l = ap (log_or log) (sym at) ∙ is in cc)
    by (Some x) at =
        let mine : log_in log x ≡ Some l = ap (log_or log) (sym at) ∙ is in
        let one = run_of x log l mine in
        let two = get_right (flat_map plex_runs x.plexes) (log_runs x.drl ++ log_runs x.fmr) one.0 (log_run l) one.1 in
        let three = in_flat volume_runs c.volumes v two.0 x (log_run l) at two.1 in
        (region_of c.disks (log_run l) (all_at (in_region c.disks) (flat_map volume_runs c.volumes) three.0 (log_run l) (from_sound c sound).0 three.1)).public

-- ---- blocks of the logs

module _ (c : Config) (sound : is_sound c ≡ true) (v : ℕ) where
  pub logs_above : (u b : ℕ) (x : List ℕ) → OnLogs c v u b x → 512 ≤ b
  logs_above u b x on = omega (arith, log_public c sound v on.log on.entry on.is, on.run.first)

  pub logs_beside : (w p k u b : ℕ) (x : List ℕ) → Inside c w k → IsTrue (active c w p) → place c w p k ≡ (u, b) → OnLogs c v u b x → ⊥
  logs_beside w p k u b x inside is_on at on =
      log_off_plex c sound v on.log on.entry on.is w p k b (has_of c w p k is_on inside) (at ∙ ap (λ (y : ℕ). (y, b)) on.run.there) on.run.first on.run.last

  module _ (some : 0 < blocks_in c.volumes v) (m : Meaning) (fit : DisksFit c.disks m) where
    pub entry_blocks : (e : LogEntry) → log_of c v Drl ≡ Some e → e.blocks ≡ map_blocks (blocks_in c.volumes v)
    entry_blocks e is = let at = placed c v Drl e m sound is some (holds_of c.disks m fit) in omega (arith, at.blocks)

    pub map_on : (log : VolumeLog) (map : Map) → LogLoaded c v log map → (u b : ℕ) (x : List ℕ) → Run map.unit map.first (map_block_count map) u b → OnLogs c v u b x
    map_on log map l u b x run =
        let at = log_placed c v log map m sound some fit l in
        record {
          log = log;
          entry = l.entry;
          is = l.is;
          run = record { there = run.there ∙ l.run.there; first = omega (arith, run.first, l.run.begins); last = omega (arith, run.last, l.run.begins, l.run.long, at.blocks) };
        }

    -- the blocks of the logs in memory are blocks of the volume's logs
    pub run_on : (l : Logs) → LogsFit c v l → (u b : ℕ) (x : List ℕ) → DrlRun l.drl u b ⊎ FmrRun l.fmr u b → OnLogs c v u b x
    run_on l fits u b x run = by l.drl l.fmr refl refl run
      where
        by : (o : Option Dirty) (q : Option Missed) → l.drl ≡ o → l.fmr ≡ q → DrlRun o u b ⊎ FmrRun q u b → OnLogs c v u b x
        by None q is is' (inl none) = absurd none
        by (Some d) q is is' (inl run) = map_on Drl d.map (fits.drl d is).log u b x run
        by o None is is' (inr none) = absurd none
        by o (Some f) is is' (inr run) = map_on Fmr f.map (fits.fmr f is').log u b x run

    -- a block of the dirty region log is none of the log of missed regions
    pub drl_alone : (l : Logs) → LogsFit c v l → (e : LogEntry) (k : ℕ) → log_of c v Drl ≡ Some e → k < e.blocks → FmrRun l.fmr e.disk (e.start + k) → ⊥
    drl_alone l fits e k is low = by l.fmr refl
      where
        by : (q : Option Missed) → l.fmr ≡ q → FmrRun q e.disk (e.start + k) → ⊥
        by None at none = none
        by (Some f) at run =
            let log = (fits.fmr f at).log in
            let put = log_placed c v Fmr f.map m sound some fit log in
            logs_off c sound v e log.entry is log.is (run.there ∙ log.run.there) (e.start + k) (omega arith) (omega (arith, low))
            (omega (arith, run.first, log.run.begins)) (omega (arith, run.last, log.run.begins, log.run.long, put.blocks))

-- ---- logs of two volumes

-- the run of a log among those of its volume
record HasRun (c : Config) (v : ℕ) (l : LogEntry) : Type 0 where
  volume : VolumeEntry
  at : slice_get c.volumes v ≡ Some volume
  index : ℕ
  there : slice_get (volume_runs volume) index ≡ Some (log_run l)

has_run : (c : Config) (v : ℕ) (log : VolumeLog) (l : LogEntry) → log_of c v log ≡ Some l → HasRun c v l
has_run c v log l is = by (slice_get c.volumes v) refl
  where
    by : (o : Option VolumeEntry) → slice_get c.volumes v ≡ o → HasRun c v l
    by None at = absurd (let clash : None ≡ Some l = ap (log_or log) (sym at) ∙ is in cc)
    by (Some x) at =
        let one = run_of x log l (ap (log_or log) (sym at) ∙ is) in
        let two = get_right (flat_map plex_runs x.plexes) (log_runs x.drl ++ log_runs x.fmr) one.0 (log_run l) one.1 in
        record { volume = x; at = at; index = two.0; there = two.1 }

across_less : (c : Config) → is_sound c ≡ true → (v w : ℕ) → v < w → (log k : VolumeLog) (l e : LogEntry) → log_of c v log ≡ Some l → log_of c w k ≡ Some e
    → l.disk ≡ e.disk → (b : ℕ) → l.start ≤ b → b < l.start + l.blocks → e.start ≤ b → b < e.start + e.blocks → ⊥
unfolding runs
across_less c sound v w lt log k l e is_l is_e disk b low_l high_l low_e high_e =
    let one = has_run c v log l is_l in
    let two = has_run c w k e is_e in
    no_block (log_run l) (log_run e) b
    (flat_across volume_runs are_apart c.volumes v w one.index two.index one.volume two.volume (log_run l) (log_run e) (from_sound c sound).1 lt one.at two.at one.there two.there)
    disk low_l high_l low_e high_e

-- they have no block in common
pub logs_across : (c : Config) → is_sound c ≡ true → (v w : ℕ) → (w ≡ v → ⊥) → (u b : ℕ) (x y : List ℕ) → OnLogs c v u b x → OnLogs c w u b y → ⊥
logs_across c sound v w apart u b x y one two = elim (cases_lt v w) [
  | inl lt ↦ across_less c sound v w lt one.log two.log one.entry two.entry one.is two.is (sym one.run.there ∙ two.run.there) b one.run.first one.run.last two.run.first two.run.last
  | inr le ↦ across_less c sound w v (lt_of v w le apart) two.log one.log two.entry one.entry two.is one.is (sym two.run.there ∙ one.run.there) b two.run.first two.run.last one.run.first one.run.last
]
  where
    lt_of : (v w : ℕ) → w ≤ v → (w ≡ v → ⊥) → w < v
    lt_of v w le apart = elim (cases_lt w v) [ inl lt ↦ lt | inr ge ↦ absurd (apart (omega (arith, le, ge))) ]
