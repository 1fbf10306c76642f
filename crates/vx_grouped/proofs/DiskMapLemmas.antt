-- The regions that plexes missed, as the logs on the disks of a site have them, by its note.
use Rattle.std.proofs.Common.{◌≡◌, ◌<◌, ◌+◌, ◌*◌, ◌/◌, ◌%◌, ◌&&◌, ℕ, Bool, true, false, List, refl, sym, ◌∙◌, ap, subst, inl, inr}
use Rattle.std.specs.Prelude.{Option, Some, None, not, is_some}
use Rattle.vx_bitmap.specs.Bits.{is_marked}
use Rattle.vx_bitmap.specs.Maps.{Map, MapOn, map_block_count}
use Rattle.vx_bitmap.proofs.Blocks.{by_block}
use Rattle.vx_config.specs.Checks.{blocks_of, is_sound, is_stale, plexes_of}
use Rattle.vx_config.specs.declared.config.Config.{Config}
use Rattle.vx_config.specs.declared.entry.LogEntry.{LogEntry}
use Rattle.vx_config.specs.declared.entry.Subdisk.{Subdisk}
use Rattle.vx_config.specs.declared.entry.VolumeLog.TheVariants.{Fmr}
use Rattle.vx_disk.specs.Shelf.{Each, Image, Meaning}
use Rattle.vx_fmr.specs.Missed.{FmrLoaded, Missed, has_missed}
use Rattle.vx_history.specs.Groups.{MissedNote}
use Rattle.vx_history.specs.Missing.{maps_returned}
use Rattle.vx_groupmaps.proofs.MapPlaces.{bit_low, last_low, stale_off}
use Rattle.vx_logs.specs.Held.{InUse, logged_in, stale, stale_or}
use Rattle.vx_logs.specs.Marks.{stride_of}
use Rattle.vx_logs.specs.declared.logs.Logs.{Logs}
use Rattle.vx_kept.specs.LogRuns.{log_place, run_or}
use Rattle.vx_maplog.specs.Logs.{log_of}
use Rattle.vx_loggroup.specs.Attaching.{fmr_at}
use Rattle.vx_loggroup.specs.LoggedVolumes.{is_alike}
use Rattle.vx_loggroup.specs.Moving.{IsThere, MapTaken, goes_by}
use Rattle.vx_grouped.specs.MapsNoted.{MapsNoted, MapsOnDisk}
use Rattle.vx_grouped.proofs.NotedMapLemmas.{going, map_in, had_b, missed_b, noted_b}
use Rattle.vx_config.specs.declared.entry.PlexEntry.{PlexEntry}
use Rattle.vx_grouplogs.proofs.FreshLemmas.{has_low}
use Rattle.vx_kept.specs.Choice.{live, live_or}
use Rattle.vx_kept.specs.Keeping.{AllOn}
use Rattle.vx_layout.specs.Places.{has_plex, plex_at}
use Rattle.vx_grouped.proofs.WrittenMapLemmas.{live_active}

both_true : (x y : Bool) → x ≡ true → y ≡ true → (x && y) ≡ true
both_true true y on is = is
both_true false y on is = let clash : false ≡ true = on in cc

not_false : (x : Bool) → not x ≡ false → x ≡ true
not_false true is = refl
not_false false is = let clash : true ≡ false = is in cc

-- ---- one log

-- an image has the regions of a log as memory has them
logged_is : (map : Map) (m : Meaning) (i : Image) (q : ℕ) (e : LogEntry) → map.unit ≡ e.disk → map.first ≡ e.start → MapOn map m → Each m.leaves i → q / 4096 < map_block_count map → logged_in e i q ≡ is_marked map.bytes q
logged_is map m i q e there begins on each low =
    ap (λ (u : ℕ). is_marked (i u (e.start + q / 4096)) (q % 4096)) (sym there)
    ∙ ap (λ (b : ℕ). is_marked (i map.unit (b + q / 4096)) (q % 4096)) (sym begins)
    ∙ ap (λ (b : List ℕ). is_marked b (q % 4096)) ((on.each (q / 4096) low).only (i map.unit (map.first + q / 4096)) (each map.unit (map.first + q / 4096)))
    ∙ sym (by_block map.bytes q)

-- the maps of a volume in memory are where the configuration has its log, and stand
pub record MapLies (c : Config) (v : ℕ) (f : Missed) (m : Meaning) : Type 0 where
  pub there : (e : LogEntry) → log_of c v Fmr ≡ Some e → f.map.unit ≡ e.disk
  pub begins : (e : LogEntry) → log_of c v Fmr ≡ Some e → f.map.first ≡ e.start
  pub stride : f.stride ≡ stride_of c v
  pub fit : (p r : ℕ) → IsThere c v p r → (p * f.stride + r) / 4096 < map_block_count f.map
  pub on : MapOn f.map m

-- another configuration has a log where this one has it
pub record LogThere (c : Config) (v : ℕ) (e : LogEntry) : Type 0 where
  pub entry : LogEntry
  pub is : log_of c v Fmr ≡ Some entry
  pub disk : entry.disk ≡ e.disk
  pub start : entry.start ≡ e.start

-- so they are where the log was read, and stand
pub map_lies : (c : Config) → is_sound c ≡ true → (v : ℕ) → 0 < blocks_of c.volumes v → (f : Missed) (m : Meaning) → FmrLoaded c v f → MapOn f.map m → MapLies c v f m
map_lies c sound v some f m it on = record {
  there = λ e is. it.log.run.there ∙ ap (λ (x : LogEntry). x.disk) (entry_is e is);
  begins = λ e is. it.log.run.begins ∙ ap (λ (x : LogEntry). x.start) (entry_is e is);
  stride = it.stride;
  fit = λ p r at. bit_low c sound v some f it p r (subst (λ (n : ℕ). p < n) (sym it.plexes) at.plex) (last_low c sound v some f it r at.region);
  on = on;
}
  where
    entry_is : (e : LogEntry) → log_of c v Fmr ≡ Some e → it.log.entry ≡ e
    entry_is e is = let both : Some it.log.entry ≡ Some e = sym it.log.is ∙ is in cc

-- a configuration with the same run of blocks has it there
pub log_there : (c x : Config) (v : ℕ) → log_place x v Fmr ≡ log_place c v Fmr → (e : LogEntry) → log_of x v Fmr ≡ Some e → LogThere c v e
unfolding log_place
log_there c x v same e is = by (log_of c v Fmr) refl (sym (ap run_or is) ∙ same)
  where
    by : (o : Option LogEntry) → log_of c v Fmr ≡ o → run_or (Some e) ≡ run_or (log_of c v Fmr) → LogThere c v e
    by None at run = let clash : run_or (Some e) ≡ None = run ∙ ap run_or at in cc
    by (Some f) at run =
        let both : run_or (Some e) ≡ run_or (Some f) = run ∙ ap run_or at in
        record { entry = f; is = at; disk = ap (λ (r : Option Subdisk). disk_of r) (sym both); start = ap (λ (r : Option Subdisk). start_of r) (sym both) }
      where
        disk_of : Option Subdisk → ℕ
        disk_of None = 0
        disk_of (Some r) = r.disk

        start_of : Option Subdisk → ℕ
        start_of None = 0
        start_of (Some r) = r.start

pub missed_logged : (c : Config) (v p r : ℕ) (f : Missed) (m : Meaning) (i : Image) (e : LogEntry) → MapLies c v f m → LogThere c v e → Each m.leaves i → IsThere c v p r → logged_in e i (p * stride_of c v + r) ≡ has_missed f p r
missed_logged c v p r f m i e lies at each it =
    ap (λ (n : ℕ). logged_in e i (p * n + r)) (sym lies.stride)
    ∙ logged_is f.map m i (p * f.stride + r) e (lies.there at.entry at.is ∙ at.disk) (lies.begins at.entry at.is ∙ at.start) lies.on each (lies.fit p r it)

-- ---- behind a crash, or a deport

module _ (w : MissedNote) (c x : Config) (logs : List Logs) (alike : List Bool) (s : Bool) (m : Meaning) (i : Image) (noted : MapsNoted w c logs alike s) (lies : (v p r : ℕ) (f : Missed) → s ≡ false → fmr_at logs v ≡ Some f → IsThere c v p r → MapLies c v f m)
    (there : (v p r : ℕ) (e : LogEntry) → IsThere c v p r → log_of x v Fmr ≡ Some e → LogThere c v e) (each : Each m.leaves i) where
  at_region : (e : LogEntry) (v p r : ℕ) → w.mapped v ≡ true → InUse x v Fmr e → IsThere c v p r → (f : Missed) × (fmr_at logs v ≡ Some f) × (logged_in e i (p * stride_of c v + r) ≡ has_missed f p r)
  at_region e v p r on used it =
      let goes = sym (noted.mapped v) ∙ on in
      let f = map_in logs c s v goes in
      (f.0, f.1, missed_logged c v p r f.0 m i e (lies v p r f.0 (going logs c s v goes) f.1 it) (there v p r e it used.is) each it)

  pub disk_noted : MapsOnDisk w c x i
  disk_noted = record {
    most = λ e v p r on used it has. let f = at_region e v p r on used it in noted.most v p r f.0 on f.1 it (sym f.2 ∙ has);
    least = λ e v p r on used it old has. let f = at_region e v p r on used it in f.2 ∙ noted.least v p r f.0 on f.1 it (stale_off c v p old) has;
  }

-- ---- behind an import

-- a plex that is there and takes no part is STALE
gone_stale : (c : Config) (v p : ℕ) → p < plexes_of c v → live c v p ≡ false → stale c v p ≡ true
unfolding stale live has_plex
gone_stale c v p low off = by (plex_at c v p) (has_low c v p low) off
  where
    by_state : (x : Bool) → not x ≡ false → x ≡ true
    by_state true is = refl
    by_state false is = let clash : true ≡ false = is in cc

    by : (o : Option PlexEntry) → is_some o ≡ true → live_or o ≡ false → stale_or o ≡ true
    by None none off = let clash : false ≡ true = none in cc
    by (Some a) some off = by_state (is_stale a.state) off

-- The image i had the configuration x, where c was noted; d is in memory now.
module _ (w : MissedNote) (c x d : Config) (logs : List Logs) (alike : List Bool) (t : Bool) (i : Image) (disk : MapsOnDisk w c x i) (plexes : (v p r : ℕ) → goes_by logs d t v ≡ true → IsThere d v p r → IsThere c v p r) (strides : (v : ℕ) → goes_by logs d t v ≡ true → stride_of d v ≡ stride_of c v)
    (taken : (v : ℕ) (f : Missed) → goes_by logs d t v ≡ true → fmr_at logs v ≡ Some f → (w.mapped v ≡ true) × MapTaken x d v f i) (all : AllOn d) where
  -- one that goes off has missed nothing, but perhaps what was left in its map
  pub noted_returned : MapsNoted (maps_returned (goes_by logs d t) d.serial (live c) (live d) (λ v. not (is_alike alike v)) w) d logs alike t
  noted_returned = record {
    mapped = λ v. refl;
    most = λ v p r f on at it has.
        let here = taken v f on at in
        let low = plexes v p r on it in
        noted_b (live c v p) (live d v p) false (w.mapped v) (w.missed v p r) (w.perhaps v p r) false (λ was gone. refl) here.0
        (disk.most here.1.entry v p r here.0 here.1.used low (sym (ap (λ (n : ℕ). logged_in here.1.entry i (p * n + r)) (strides v on)) ∙ sym (here.1.same p r it) ∙ has));
    least = λ v p r f on at it none has.
        let here = taken v f on at in
        let low = plexes v p r on it in
        elim (had_b (live c v p) (w.mapped v) (w.missed v p r) false (subst (λ (y : Bool). missed_b (live c v p) y (w.mapped v) (w.missed v p r) false ≡ true) (sym (live_active d all v p) ∙ none) has)) [
          | inl run ↦ absurd (let clash : false ≡ true = run in cc)
          | inr had ↦
              here.1.same p r it ∙ ap (λ (n : ℕ). logged_in here.1.entry i (p * n + r)) (strides v on)
              ∙ disk.least here.1.entry v p r here.0 here.1.used low (gone_stale c v p low.plex had.off) (had.noted here.0)
        ];
    alike = λ v low sure. not_false (is_alike alike v) sure;
    serial = refl;
  }
