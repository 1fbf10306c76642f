-- The log of a volume stands on beside calls that spare it.
use Rattle.std.proofs.Common.{◌≡◌, ◌∙◌, inl, inr, ℕ, ◌+◌, ◌/◌, ◌%◌, true, false, Option, Some, None, List, length, IsTrue, refl, sym, ap, subst, arith}
use Rattle.vx_bitmap.proofs.Blocks.{by_block}
use Rattle.vx_bitmap.specs.Bits.{is_marked}
use Rattle.vx_bitmap.specs.Maps.{Map, MapOn}
use Rattle.vx_config.specs.Checks.{blocks_of as blocks_in, is_sound}
use Rattle.vx_config.specs.declared.config.Config.{Config}
use Rattle.vx_config.specs.declared.entry.LogEntry.{LogEntry}
use Rattle.vx_config.specs.declared.entry.VolumeLog.{VolumeLog}
use Rattle.vx_config.specs.declared.entry.VolumeLog.TheVariants.{Drl as DrlLog, Fmr as FmrLog}
use Rattle.vx_disk.specs.Shelf.{Meaning, Values}
use Rattle.vx_drl.specs.Dirty.{Dirty, is_dirty}
use Rattle.vx_kept.specs.Groups.{OnSome}
use Rattle.vx_kept.specs.LogRuns.{log_trusted}
use Rattle.vx_kept.specs.PlexActs.{PlexActs}
use Rattle.vx_kept.proofs.Narrower.{stand_apart}
use Rattle.vx_kept.proofs.Steps.{inside_same}
use Rattle.vx_layout.specs.Places.{place}
use Rattle.vx_logs.specs.Writes.{first_region, last_region}
use Rattle.vx_logs.specs.declared.logs.Logs.{Logs}
use Rattle.vx_maplog.specs.Logs.{LogLoaded, log_of}
use Rattle.vx_volume.specs.Plexes.{DisksFit, InRun, Inside, active}
use Rattle.vx_volume.specs.Volumes.{OnPlexes}
use Rattle.vx_grouplogs.specs.Covering.{DiskCovers, MemoryCovers, OnLogs}
use Rattle.vx_grouplogs.specs.Marking.{HoldRegions}
use Rattle.vx_grouplogs.specs.On.{MayTouch, SparesVolume, VolumeOn}
use Rattle.vx_grouplogs.proofs.CoverLemmas.{low_of, region_inside, region_low, some_of}
use Rattle.vx_grouplogs.proofs.LogShape.{fits_same, run_back}
use Rattle.vx_grouplogs.proofs.LogPlaces.{entry_blocks, logs_above, logs_beside, map_on}

-- ---- calls that spare the volume

module _ (W : Values) (c d : Config) (sound : is_sound c ≡ true) (v : ℕ) (l : Logs) (m m' : Meaning) (fit : DisksFit c.disks m) (acts : PlexActs W c d m m') (spares : SparesVolume W c v l) (on : VolumeOn c v l m) where
  map_stays : (log : VolumeLog) (map : Map) → LogLoaded c v log map → MapOn map m → MapOn map m'
  map_stays log map it stood = record {
    each = λ k lt. record {
      only = λ x left.
          let there = map_on c sound v (some_of c v log map k it lt) m fit log map it map.unit (map.first + k) x (record { there = refl; first = omega arith; last = omega (arith, lt) }) in
          elim (acts.acts.leaves map.unit (map.first + k) x (logs_above c sound v map.unit (map.first + k) x there) left) [
            | inl was ↦ (stood.each k lt).only x was
            | inr put ↦ absurd (spares.logs map.unit (map.first + k) x put there)
          ];
    };
  }

  -- what a crash leaves of a plex that is ACTIVE is as before, but in regions that may be touched
  left_or : (b p : ℕ) (x : List ℕ) → Inside c v b → IsTrue (active c v p) → m'.leaves (place c v p b).0 (place c v p b).1 x → (MayTouch c v l (b / 64) → ⊥) → m.leaves (place c v p b).0 (place c v p b).1 x
  left_or b p x inside is_on left off = elim (acts.acts.leaves (place c v p b).0 (place c v p b).1 x ((stand_apart c sound).above v p b inside is_on) left) [
    | inl was ↦ was
    | inr put ↦ absurd (off (spares.plexes b p x inside is_on put))
  ]

  at_old : (b p : ℕ) (x : List ℕ) → m'.leaves (place d v p b).0 (place d v p b).1 x → m'.leaves (place c v p b).0 (place c v p b).1 x
  at_old b p x left = subst (λ (q : ℕ × ℕ). m'.leaves q.0 q.1 x) (acts.shape.place v p b) left

  some_old : (b : ℕ) (x : List ℕ) → (MayTouch c v l (b / 64) → ⊥) → OnSome d m'.leaves v b x → OnSome c m.leaves v b x
  some_old b x off is =
      let inside = inside_same d c acts.shape v b is.inside in
      let is_on = acts.on v is.plex is.is_on in
      record { inside = inside; plex = is.plex; is_on = is_on; value = left_or b is.plex x inside is_on (at_old b is.plex x is.value) off }

  clean_off : (e : Dirty) → l.drl ≡ Some e → (r : ℕ) → is_dirty e r ≡ false → MayTouch c v l r → ⊥
  clean_off e is r off may = let clash : true ≡ false = sym (may.held e is) ∙ off in cc

  memory_on : MemoryCovers d v l m'
  memory_on = record {
    so = λ e is. record {
      one = λ b x y off one two.
          (on.memory.so e is).one b x y off (some_old b x (clean_off e is (b / 64) off) one) (some_old b y (clean_off e is (b / 64) off) two);
    };
  }

  -- a region without its mark on the disk may not be touched
  module _ (trusted : log_trusted c v DrlLog ≡ true) (e : LogEntry) (is : log_of c v DrlLog ≡ Some e) (b : ℕ) (inside : Inside c v b) where
    entry_on : (z : List ℕ) → OnLogs c v e.disk (e.start + (b / 64) / 4096) z
    entry_on z =
        let blocks = entry_blocks c sound v (omega (arith, inside.within)) m fit e is in
        let low = region_inside (blocks_in c.volumes v) b inside.within in
        record { log = DrlLog; entry = e; is = is; run = record { there = refl; first = omega arith; last = omega (arith, blocks, low) } }

    log_left : (z : List ℕ) → m'.leaves e.disk (e.start + (b / 64) / 4096) z → m.leaves e.disk (e.start + (b / 64) / 4096) z
    log_left z left = elim (acts.acts.leaves e.disk (e.start + (b / 64) / 4096) z (logs_above c sound v e.disk (e.start + (b / 64) / 4096) z (entry_on z)) left) [
      | inl was ↦ was
      | inr put ↦ absurd (spares.logs e.disk (e.start + (b / 64) / 4096) z put (entry_on z))
    ]

    unmarked : (g : Dirty) → l.drl ≡ Some g → (z : List ℕ) → m.leaves e.disk (e.start + (b / 64) / 4096) z → is_marked z ((b / 64) % 4096) ≡ false → is_dirty g (b / 64) ≡ false
    unmarked g at z left off =
        let it = on.fits.drl g at in
        let same : e ≡ it.log.entry = one_entry (log_of c v DrlLog) it.log.entry e it.log.is is in
        let unit : e.disk ≡ g.map.unit = ap (λ (n : LogEntry). n.disk) same ∙ sym it.log.run.there in
        let start : e.start ≡ g.map.first = ap (λ (n : LogEntry). n.start) same ∙ sym it.log.run.begins in
        let here : m.leaves g.map.unit (g.map.first + (b / 64) / 4096) z = subst (λ (n : ℕ). m.leaves g.map.unit (n + (b / 64) / 4096) z) start (subst (λ (u : ℕ). m.leaves u (e.start + (b / 64) / 4096) z) unit left) in
        let low = low_of _ (length g.map.bytes) (b / 64) it.log.run.long (region_low c sound v (omega (arith, inside.within)) l on.fits m fit g it (b / 64) (region_inside (blocks_in c.volumes v) b inside.within)) in
        by_block g.map.bytes (b / 64) ∙ ap (λ (x : List ℕ). is_marked x ((b / 64) % 4096)) (sym (((on.stands.drl g at).each ((b / 64) / 4096) low).only z here)) ∙ off
      where
        one_entry : (o : Option LogEntry) (f h : LogEntry) → o ≡ Some f → o ≡ Some h → h ≡ f
        one_entry o f h one two = let both : Some h ≡ Some f = sym two ∙ one in cc

    untouched : (z : List ℕ) → m.leaves e.disk (e.start + (b / 64) / 4096) z → is_marked z ((b / 64) % 4096) ≡ false → MayTouch c v l (b / 64) → ⊥
    untouched z left off may = by l.drl refl
      where
        by : (o : Option Dirty) → l.drl ≡ o → ⊥
        by None none = may.some trusted none
        by (Some g) at = clean_off g at (b / 64) (unmarked g at z left off) may

  disk_on : log_trusted d v DrlLog ≡ true → DiskCovers d v m'
  disk_on told = record {
    so = λ e b p q x y z is in_d on_p on_q left off at_p at_q.
        let trusted = acts.shape.trusted v DrlLog told in
        let run = run_back c d v DrlLog (acts.shape.logs v DrlLog) e is in
        let inside = inside_same d c acts.shape v b in_d in
        let left' : m'.leaves run.entry.disk (run.entry.start + (b / 64) / 4096) z = subst (λ (n : ℕ). m'.leaves run.entry.disk (n + (b / 64) / 4096) z) (sym run.start) (subst (λ (u : ℕ). m'.leaves u (e.start + (b / 64) / 4096) z) (sym run.disk) left) in
        let was = log_left trusted run.entry run.is b inside z left' in
        let none = untouched trusted run.entry run.is b inside z was off in
        (on.disk trusted).so run.entry b p q x y z run.is inside (acts.on v p on_p) (acts.on v q on_q) was off
        (left_or b p x inside (acts.on v p on_p) (at_old b p x at_p) none) (left_or b q y inside (acts.on v q on_q) (at_old b q y at_q) none);
  }

  pub on_acts : VolumeOn d v l m'
  on_acts = record {
    fits = fits_same c d v (acts.shape.frames v) (acts.shape.blocks v) (acts.shape.logs v) l on.fits;
    stands = record { drl = λ e is. map_stays DrlLog e.map (on.fits.drl e is).log (on.stands.drl e is); fmr = λ f is. map_stays FmrLog f.map (on.fits.fmr f is).log (on.stands.fmr f is) };
    memory = memory_on;
    disk = disk_on;
  }

-- ---- which calls spare it

pub spares_none : (W : Values) (c : Config) (v : ℕ) (l : Logs) → ((u b : ℕ) (x : List ℕ) → W u b x → ⊥) → SparesVolume W c v l
spares_none W c v l none = record { logs = λ u b x put at. none u b x put; plexes = λ b p x inside is_on put. absurd (none (place c v p b).0 (place c v p b).1 x put) }

module _ (c : Config) (sound : is_sound c ≡ true) (w block n : ℕ) (bytes : List ℕ) (within : (k : ℕ) → InRun block n k → Inside c w k) where
  plexes_off : (v u b : ℕ) (x : List ℕ) → OnPlexes c w block n bytes u b x → OnLogs c v u b x → ⊥
  plexes_off v u b x put at = logs_beside c sound v w put.plex put.put.number u b x (within put.put.number put.put.run) put.is_on put.put.at at

  here_at : (v b p : ℕ) (x : List ℕ) → Inside c v b → IsTrue (active c v p) → OnPlexes c w block n bytes (place c v p b).0 (place c v p b).1 x → (v ≡ w) × InRun block n b
  here_at v b p x inside is_on put =
      let one = (stand_apart c sound).one v p b w put.plex put.put.number inside (within put.put.number put.put.run) is_on put.is_on (sym put.put.at) in
      let at : b ≡ put.put.number = one.2 in
      (one.0, record { first = omega (arith, at, put.put.run.first); last = omega (arith, at, put.put.run.last) })

  -- a write of another volume
  pub spares_other : (v : ℕ) (l : Logs) → (v ≡ w → ⊥) → SparesVolume (OnPlexes c w block n bytes) c v l
  spares_other v l apart = record { logs = plexes_off v; plexes = λ b p x inside is_on put. absurd (apart (here_at v b p x inside is_on put).0) }

  -- a write of regions that are marked
  pub spares_marked : (l : Logs) → (log_trusted c w DrlLog ≡ true → l.drl ≡ None → ⊥) → HoldRegions (first_region block) (last_region block n) l → SparesVolume (OnPlexes c w block n bytes) c w l
  spares_marked l some hold = record {
    logs = plexes_off w;
    plexes = λ b p x inside is_on put.
        let run = (here_at w b p x inside is_on put).1 in
        record { some = some; held = λ e is. (hold.so e is).each (b / 64) (omega (arith, run.first)) (omega (arith, run.first, run.last)) };
  }
