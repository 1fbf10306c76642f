-- Which regions the logs of a volume have, and that its plexes are alike elsewhere.
use Rattle.std.proofs.Common.{◌≡◌, ◌∙◌, inl, inr, ℕ, ◌+◌, ◌*◌, ◌/◌, ◌%◌, ◌<◌, ◌≤◌, Bool, true, false, Option, Some, None, List, length, IsTrue, refl, sym, ap, subst, arith}
use Rattle.std.specs.Prelude.{if◌then◌else◌, Err}
use Rattle.std.proofs.lemmas.Bool.{cases_lt, eq-eqb}
use Rattle.std.proofs.Math.Nat.{mul-zero}
use Rattle.vx_bitmap.proofs.Blocks.{by_block}
use Rattle.vx_bitmap.specs.Bits.{is_among, is_marked}
use Rattle.vx_bitmap.specs.Maps.{ChangedAt, Map, MapOn, map_block_count, marks_with, regions_mapped}
use Rattle.vx_config.specs.Checks.{blocks_of as blocks_in, is_sound, plexes_of}
use Rattle.vx_config.specs.declared.config.Config.{Config}
use Rattle.vx_config.specs.declared.entry.LogEntry.{LogEntry}
use Rattle.vx_config.specs.declared.entry.VolumeLog.{VolumeLog}
use Rattle.vx_config.specs.declared.entry.VolumeLog.TheVariants.{Drl as DrlLog, Fmr as FmrLog}
use Rattle.vx_disk.specs.Shelf.{Goes, Meaning, Values}
use Rattle.vx_disk.proofs.Runs.{weaker}
use Rattle.vx_drl.proofs.Keeping.{kept_of}
use Rattle.vx_drl.specs.Dirty.{Dirty, IsDirtyKept, is_dirty}
use Rattle.vx_fmr.specs.Missed.{Missed}
use Rattle.vx_kept.specs.Groups.{OnSome}
use Rattle.vx_layout.specs.Places.{place}
use Rattle.vx_logs.specs.Dirtying.{DrlAt, DrlEnds}
use Rattle.vx_logs.specs.Held.{DrlFits, DrlRun, FmrRun, LogsFit, LogsStand, stale}
use Rattle.vx_logs.specs.Noting.{FmrEnds}
use Rattle.vx_logs.specs.Writes.{MarkedLogs, MarkedAt}
use Rattle.vx_logs.specs.declared.logs.Logs.{Logs}
use Rattle.vx_logs.specs.declared.logs.Lost.{Lost}
use Rattle.vx_logs.proofs.LogLemmas.{log_lies}
use Rattle.vx_logs.proofs.MarkLemmas.{drl_run, fmr_run, logs_apart, stands_beside}
use Rattle.vx_logs.proofs.NoteLemmas.{among_is}
use Rattle.vx_logs.proofs.WriteLemmas.{marked_run}
use Rattle.vx_maplog.specs.Logs.{LogLoaded, log_of, maps_in_log}
use Rattle.vx_model.specs.declared.no.No.{No}
use Rattle.vx_model.specs.declared.no.No.TheVariants as refusal
use Rattle.vx_model.specs.Sizes.{map_blocks, regions_of as regions_in}
use Rattle.vx_volume.specs.Plexes.{DisksFit, Inside, active}
use Rattle.vx_grouplogs.specs.Clearing.{ClearedAt, Clears, DrlClears, DrlEnding, DrlLies, greatest_region}
use Rattle.vx_grouplogs.specs.Covering.{AlikeBut, AllAlike, DiskCovers, KeepsOthers, MemoryCovers, OnLogs}
use Rattle.vx_grouplogs.specs.Marking.{HoldRegions}
use Rattle.vx_grouplogs.proofs.LogPlaces.{drl_alone, entry_blocks, logs_across, logs_beside, map_on, run_on}

-- ---- the plexes beside what is written of the logs

module _ (c : Config) (sound : is_sound c ≡ true) (v : ℕ) (W : Values) (m m' : Meaning) (goes : Goes W m m') (in_logs : (u b : ℕ) (x : List ℕ) → W u b x → OnLogs c v u b x) where
  pub plex_stays : (w p k : ℕ) (x : List ℕ) → Inside c w k → IsTrue (active c w p) → m'.leaves (place c w p k).0 (place c w p k).1 x → m.leaves (place c w p k).0 (place c w p k).1 x
  plex_stays w p k x inside is_on left = elim (goes.leaves (place c w p k).0 (place c w p k).1 x left) [
    | inl was ↦ was
    | inr now ↦ absurd (logs_beside c sound v w p k (place c w p k).0 (place c w p k).1 x inside is_on refl (in_logs (place c w p k).0 (place c w p k).1 x now))
  ]

  pub some_stays : (w b : ℕ) (x : List ℕ) → OnSome c m'.leaves w b x → OnSome c m.leaves w b x
  some_stays w b x is = record { inside = is.inside; plex = is.plex; is_on = is.is_on; value = plex_stays w is.plex b x is.inside is.is_on is.value }

  -- plexes are alike where they were
  pub alike_stays : (w : ℕ) (f h : ℕ → Bool) → ((b : ℕ) → Inside c w b → h (b / 64) ≡ false → f (b / 64) ≡ false) → AlikeBut c w f m → AlikeBut c w h m'
  alike_stays w f h less alike = record { one = λ b x y off one two. alike.one b x y (less b one.inside off) (some_stays w b x one) (some_stays w b y two) }

  -- where all were alike, any log covers them
  pub all_cover : AllAlike c v m → DiskCovers c v m'
  all_cover alike = record {
    so = λ e b p q x y z is inside on_p on_q left off at_p at_q.
        alike.one b x y refl (record { inside = inside; plex = p; is_on = on_p; value = plex_stays v p b x inside on_p at_p }) (record { inside = inside; plex = q; is_on = on_q; value = plex_stays v q b y inside on_q at_q });
  }

  pub all_memory : (l : Logs) → AllAlike c v m → MemoryCovers c v l m'
  all_memory l alike = record { so = λ d is. alike_stays v (λ r. false) (is_dirty d) (λ b inside off. refl) alike }

-- ---- bits of regions

pub region_inside : (blocks b : ℕ) → b < blocks → b / 64 < regions_in blocks
region_inside blocks b lt = omega (arith, lt)

pub low_of : (n len r : ℕ) → len ≡ 512 * n → r < 8 * len → r / 4096 < len / 512
low_of n len r long lt = omega (arith, long, lt)

less_of : (t old new : Bool) → new ≡ (if t then true else old) → new ≡ false → old ≡ false
less_of true old new is off = absurd (let clash : true ≡ false = sym is ∙ off in cc)
less_of false old new is off = sym is ∙ off

among_of : (t old new : Bool) → new ≡ (if t then true else old) → t ≡ true → new ≡ true
among_of true old new is at = is
among_of false old new is at = absurd (let clash : false ≡ true = at in cc)

one_entry : (o : Option LogEntry) (d e : LogEntry) → o ≡ Some d → o ≡ Some e → e ≡ d
one_entry o d e one two = let both : Some e ≡ Some d = sym two ∙ one in cc

at_some : (first last : ℕ) (value : Bool) (o : Option Dirty) (d : Dirty) (m : Meaning) (u b : ℕ) (x : List ℕ) → o ≡ Some d → DrlAt first last value o m u b x → ChangedAt d.map first last value m u b x
at_some first last value None d m u b x is at = absurd at
at_some first last value (Some g) d m u b x is at = let same : g ≡ d = cc in subst (λ (y : Dirty). ChangedAt y.map first last value m u b x) same at

-- a region by the value of its block
pub with_block : (map : Map) (z : List ℕ) (r : ℕ) → marks_with map (map.first + r / 4096) z r ≡ is_marked z (r % 4096)
with_block map z r = ap (λ (t : Bool). if t then is_marked z (r % 4096) else is_marked map.bytes r) (eq-eqb (map.first + r / 4096) (map.first + r / 4096) refl)

-- ---- marks

module _ (c : Config) (sound : is_sound c ≡ true) (v : ℕ) (some : 0 < blocks_in c.volumes v) (l : Logs) (fits : LogsFit c v l) (m : Meaning) (fit : DisksFit c.disks m) where
  -- the map has a bit for each region of the volume
  bits_of : (d : Dirty) → DrlFits c v d → IsDirtyKept d.map d.regions
  bits_of d it = kept_of c v d.map (blocks_in c.volumes v) d.regions it.log refl some it.regions

  pub region_low : (d : Dirty) → DrlFits c v d → (r : ℕ) → r < regions_in (blocks_in c.volumes v) → r < regions_mapped d.map
  region_low d it r lt = omega (arith, (bits_of d it).fit, it.regions, lt)

  module _ (first last : ℕ) (m' : Meaning) (goes : Goes (MarkedAt c v first last l m) m m') where
    pub in_logs : (u b : ℕ) (x : List ℕ) → MarkedAt c v first last l m u b x → OnLogs c v u b x
    in_logs u b x at = run_on c sound v some m fit l fits u b x (marked_run c v first last l m u b x at)

    pub mark_goes : Goes (OnLogs c v) m m'
    mark_goes = weaker (MarkedAt c v first last l m) (OnLogs c v) m m' goes in_logs

    -- a region that a crash may leave without its mark had none in memory
    module _ (d : Dirty) (is : l.drl ≡ Some d) (on : MapOn d.map m) (r : ℕ) (lt : r < regions_in (blocks_in c.volumes v)) where
      low : r / 4096 < map_block_count d.map
      low = low_of _ (length d.map.bytes) r (fits.drl d is).log.run.long (region_low d (fits.drl d is) r lt)

      here : DrlRun l.drl d.map.unit (d.map.first + r / 4096)
      here = subst (λ (o : Option Dirty). DrlRun o d.map.unit (d.map.first + r / 4096)) (sym is) (record { there = refl; first = omega arith; last = omega (arith, low) })

      changed_off : (z : List ℕ) → ChangedAt d.map first last true m d.map.unit (d.map.first + r / 4096) z → is_marked z (r % 4096) ≡ false → is_dirty d r ≡ false
      changed_off z at off = elim ((at.so on).each r (region_low d (fits.drl d is) r lt)) [
        | inl same ↦ sym same ∙ with_block d.map z r ∙ off
        | inr new ↦ absurd (let clash : true ≡ false = sym new.1 ∙ with_block d.map z r ∙ off in cc)
      ]

      pub mark_off : (z : List ℕ) → m'.leaves d.map.unit (d.map.first + r / 4096) z → is_marked z (r % 4096) ≡ false → is_dirty d r ≡ false
      mark_off z left off = elim (goes.leaves d.map.unit (d.map.first + r / 4096) z left) [
        | inl was ↦ by_block d.map.bytes r ∙ ap (λ (x : List ℕ). is_marked x (r % 4096)) (sym ((on.each (r / 4096) low).only z was)) ∙ off
        | inr (inl at) ↦ changed_off z (at_some first last true l.drl d m d.map.unit (d.map.first + r / 4096) z is at) off
        | inr (inr at) ↦ absurd (logs_apart c sound v some l fits m fit d.map.unit (d.map.first + r / 4096) here (fmr_run (stale c v) false first last l.fmr m d.map.unit (d.map.first + r / 4096) z at))
      ]

    -- whatever was answered, the log on its disk covers what it covered, and what memory knew
    pub mark_covers : LogsStand l m → MemoryCovers c v l m → DiskCovers c v m → DiskCovers c v m'
    mark_covers stand memory disk = record {
      so = λ e b p q x y z is inside on_p on_q left off at_p at_q.
          by e b p q x y z is inside on_p on_q left off (plex_stays c sound v (MarkedAt c v first last l m) m m' goes in_logs v p b x inside on_p at_p) (plex_stays c sound v (MarkedAt c v first last l m) m m' goes in_logs v q b y inside on_q at_q) l.drl refl;
    }
      where
        -- where there is no log in memory, no block of the one on disk was written
        drl_stays : l.drl ≡ None → (e : LogEntry) (k : ℕ) (z : List ℕ) → log_of c v DrlLog ≡ Some e → k < e.blocks → m'.leaves e.disk (e.start + k) z → m.leaves e.disk (e.start + k) z
        drl_stays none e k z is lt left = elim (goes.leaves e.disk (e.start + k) z left) [
          | inl was ↦ was
          | inr (inl at) ↦ absurd (subst (λ (o : Option Dirty). DrlAt first last true o m e.disk (e.start + k) z) none at)
          | inr (inr at) ↦ absurd (drl_alone c sound v some m fit l fits e k is lt (fmr_run (stale c v) false first last l.fmr m e.disk (e.start + k) z at))
        ]

        by : (e : LogEntry) (b p q : ℕ) (x y z : List ℕ) → log_of c v DrlLog ≡ Some e → Inside c v b → IsTrue (active c v p) → IsTrue (active c v q)
            → m'.leaves e.disk (e.start + (b / 64) / 4096) z → is_marked z ((b / 64) % 4096) ≡ false
            → m.leaves (place c v p b).0 (place c v p b).1 x → m.leaves (place c v q b).0 (place c v q b).1 y → (o : Option Dirty) → l.drl ≡ o → x ≡ y
        by e b p q x y z is inside on_p on_q left off at_p at_q None none =
            let map = entry_blocks c sound v some m fit e is in
            disk.so e b p q x y z is inside on_p on_q (drl_stays none e ((b / 64) / 4096) z is (omega (arith, map, region_inside (blocks_in c.volumes v) b inside.within)) left) off at_p at_q
        by e b p q x y z is inside on_p on_q left off at_p at_q (Some d) at =
            let it = fits.drl d at in
            let same : e ≡ it.log.entry = one_entry (log_of c v DrlLog) it.log.entry e it.log.is is in
            let unit : e.disk ≡ d.map.unit = ap (λ (n : LogEntry). n.disk) same ∙ sym it.log.run.there in
            let start : e.start ≡ d.map.first = ap (λ (n : LogEntry). n.start) same ∙ sym it.log.run.begins in
            let left' : m'.leaves d.map.unit (d.map.first + (b / 64) / 4096) z = subst (λ (n : ℕ). m'.leaves d.map.unit (n + (b / 64) / 4096) z) start (subst (λ (u : ℕ). m'.leaves u (e.start + (b / 64) / 4096) z) unit left) in
            (memory.so d at).one b x y (mark_off d at (stand.drl d at) (b / 64) (region_inside (blocks_in c.volumes v) b inside.within) z left' off)
            (record { inside = inside; plex = p; is_on = on_p; value = at_p }) (record { inside = inside; plex = q; is_on = on_q; value = at_q })

    -- ---- done

    module _ (lost : Lost) (l' : Logs) (marked : MarkedLogs c v first last lost l l' m m') where
      pub mark_memory : MemoryCovers c v l m → MemoryCovers c v l' m'
      mark_memory memory = record { so = λ e is. by e l.drl l'.drl refl is marked.drl }
        where
          less : (d g : Dirty) → l.drl ≡ Some d → DrlEnds first last lost.drl (Some d) (Some g) m m' → (b : ℕ) → Inside c v b → is_dirty g (b / 64) ≡ false → is_dirty d (b / 64) ≡ false
          less d g at ends b inside off =
              less_of (is_among first last (b / 64)) (is_dirty d (b / 64)) (is_dirty g (b / 64)) (ends.1.marks.each (b / 64) (region_low d (fits.drl d at) (b / 64) (region_inside (blocks_in c.volumes v) b inside.within))) off

          by : (e : Dirty) (o n : Option Dirty) → l.drl ≡ o → n ≡ Some e → DrlEnds first last lost.drl o n m m' → AlikeBut c v (is_dirty e) m'
          by e None None at is ends = absurd cc
          by e None (Some g) at is ends = absurd ends
          by e (Some d) None at is ends = absurd cc
          by e (Some d) (Some g) at is ends =
              let same : g ≡ e = cc in
              subst (λ (x : Dirty). AlikeBut c v (is_dirty x) m') same (alike_stays c sound v (MarkedAt c v first last l m) m m' goes in_logs v (is_dirty d) (is_dirty g) (less d g at ends) (memory.so d at))

      pub mark_held : last < regions_in (blocks_in c.volumes v) → HoldRegions first last l'
      mark_held inside = record { so = λ e is. record { each = λ r low high. by e r low high l.drl l'.drl refl is marked.drl } }
        where
          by : (e : Dirty) (r : ℕ) → first ≤ r → r ≤ last → (o n : Option Dirty) → l.drl ≡ o → n ≡ Some e → DrlEnds first last lost.drl o n m m' → is_dirty e r ≡ true
          by e r low high None None at is ends = absurd cc
          by e r low high None (Some g) at is ends = absurd ends
          by e r low high (Some d) None at is ends = absurd cc
          by e r low high (Some d) (Some g) at is ends =
              let same : g ≡ e = cc in
              subst (λ (x : Dirty). is_dirty x r ≡ true) same
              (among_of (is_among first last r) (is_dirty d r) (is_dirty g r) (ends.1.marks.each r (region_low d (fits.drl d at) r (omega (arith, high, inside)))) (among_is first last r low high))

      pub mark_stands : LogsStand l m → LogsStand l' m'
      mark_stands stand = record { drl = λ e is. by_drl e l.drl l'.drl refl is marked.drl; fmr = λ f is. by_fmr f l.fmr l'.fmr refl is marked.fmr }
        where
          by_drl : (e : Dirty) (o n : Option Dirty) → l.drl ≡ o → n ≡ Some e → DrlEnds first last lost.drl o n m m' → MapOn e.map m'
          by_drl e None None at is ends = absurd cc
          by_drl e None (Some g) at is ends = absurd ends
          by_drl e (Some d) None at is ends = absurd cc
          by_drl e (Some d) (Some g) at is ends = let same : g ≡ e = cc in subst (λ (x : Dirty). MapOn x.map m') same (ends.1.stands (stand.drl d at))

          by_fmr : (f : Missed) (o n : Option Missed) → l.fmr ≡ o → n ≡ Some f → FmrEnds (stale c v) false first last lost.fmr o n m m' → MapOn f.map m'
          by_fmr f None None at is ends = absurd cc
          by_fmr f None (Some g) at is ends = absurd ends
          by_fmr f (Some d) None at is ends = absurd cc
          by_fmr f (Some d) (Some g) at is ends = let same : g ≡ f = cc in subst (λ (x : Missed). MapOn x.map m') same (ends.1.stands (stand.fmr d at))

-- ---- other volumes

-- a log with a block is one of a volume with blocks
pub some_of : (c : Config) (w : ℕ) (log : VolumeLog) (map : Map) (k : ℕ) → LogLoaded c w log map → k < map_block_count map → 0 < blocks_in c.volumes w
some_of c w log map k l lt = elim (cases_lt 0 (blocks_in c.volumes w)) [ inl some ↦ some | inr none ↦ absurd (no_blocks log (blocks_in c.volumes w) (plexes_of c w) (length map.bytes) (omega (arith, none)) l.run.long (omega (arith, lt))) ]
  where
    no_blocks : (log : VolumeLog) (blocks plexes len : ℕ) → blocks ≡ 0 → len ≡ 512 * (maps_in_log log plexes * map_blocks blocks) → 0 < len / 512 → ⊥
    no_blocks log blocks plexes len none long some =
        let zero_maps : map_blocks blocks ≡ 0 = ap map_blocks none in
        let zero_len : len ≡ 512 * (maps_in_log log plexes * 0) = long ∙ ap (λ (n : ℕ). 512 * (maps_in_log log plexes * n)) zero_maps in
        let zero : maps_in_log log plexes * 0 ≡ 0 = mul-zero (maps_in_log log plexes) in
        let len_zero : len ≡ 0 = zero_len ∙ ap (λ (n : ℕ). 512 * n) zero in
        omega (arith, len_zero, some)

module _ (c : Config) (sound : is_sound c ≡ true) (v : ℕ) (m m' : Meaning) (fit : DisksFit c.disks m) (goes : Goes (OnLogs c v) m m') where
  map_still : (w : ℕ) (log : VolumeLog) (map : Map) → (w ≡ v → ⊥) → LogLoaded c w log map → MapOn map m → MapOn map m'
  map_still w log map apart l on = record {
    each = λ k lt. record {
      only = λ x left. elim (goes.leaves map.unit (map.first + k) x left) [
        | inl was ↦ (on.each k lt).only x was
        | inr now ↦ absurd (logs_across c sound v w apart map.unit (map.first + k) x x now
            (map_on c sound w (some_of c w log map k l lt) m fit log map l map.unit (map.first + k) x (record { there = refl; first = omega arith; last = omega (arith, lt) })))
      ];
    };
  }

  pub others_kept : KeepsOthers c v m m'
  others_kept = record {
    stands = λ w l apart fits stand. record { drl = λ d is. map_still w DrlLog d.map apart (fits.drl d is).log (stand.drl d is); fmr = λ f is. map_still w FmrLog f.map apart (fits.fmr f is).log (stand.fmr f is) };
    memory = λ w l apart memory. record { so = λ d is. alike_stays c sound v (OnLogs c v) m m' goes (λ u b x on. on) w (is_dirty d) (is_dirty d) (λ b inside off. off) (memory.so d is) };
    covers = λ w apart disk. record {
      so = λ e b p q x y z is inside on_p on_q left off at_p at_q.
          disk.so e b p q x y z is inside on_p on_q (log_still w e ((b / 64) / 4096) z apart is (below w e b is inside) left) off
          (plex_stays c sound v (OnLogs c v) m m' goes (λ u b x on. on) w p b x inside on_p at_p) (plex_stays c sound v (OnLogs c v) m m' goes (λ u b x on. on) w q b y inside on_q at_q);
    };
  }
    where
      below : (w : ℕ) (e : LogEntry) (b : ℕ) → log_of c w DrlLog ≡ Some e → Inside c w b → (b / 64) / 4096 < e.blocks
      below w e b is inside =
          let blocks = entry_blocks c sound w (omega (arith, inside.within)) m fit e is in
          omega (arith, blocks, region_inside (blocks_in c.volumes w) b inside.within)

      log_still : (w : ℕ) (e : LogEntry) (k : ℕ) (z : List ℕ) → (w ≡ v → ⊥) → log_of c w DrlLog ≡ Some e → k < e.blocks → m'.leaves e.disk (e.start + k) z → m.leaves e.disk (e.start + k) z
      log_still w e k z apart is lt left = elim (goes.leaves e.disk (e.start + k) z left) [
        | inl was ↦ was
        | inr now ↦ absurd (logs_across c sound v w apart e.disk (e.start + k) z z now (record { log = DrlLog; entry = e; is = is; run = record { there = refl; first = omega arith; last = omega (arith, lt) } }))
      ]

-- ---- marks that are taken off

module _ (c : Config) (sound : is_sound c ≡ true) (v : ℕ) (some : 0 < blocks_in c.volumes v) (l : Logs) (fits : LogsFit c v l) (m m' : Meaning) (fit : DisksFit c.disks m) (goes : Goes (ClearedAt l.drl m) m m') where
  clear_logs : (u b : ℕ) (x : List ℕ) → ClearedAt l.drl m u b x → OnLogs c v u b x
  clear_logs u b x at = run_on c sound v some m fit l fits u b x (inl (drl_run 0 (greatest_region l.drl) false l.drl m u b x at))

  pub clear_goes : Goes (OnLogs c v) m m'
  clear_goes = weaker (ClearedAt l.drl m) (OnLogs c v) m m' goes clear_logs

  pub clear_stands : (gone : Bool) (l' : Logs) → DrlEnding gone l.drl l'.drl m m' → l'.fmr ≡ l.fmr → LogsStand l m → LogsStand l' m'
  clear_stands gone l' ending same stand = record { drl = λ e is. by e l.drl l'.drl refl is ending; fmr = λ f is. fmr_still f (sym same ∙ is) }
    where
      by : (e : Dirty) (o n : Option Dirty) → l.drl ≡ o → n ≡ Some e → DrlEnding gone o n m m' → MapOn e.map m'
      by e None None at is ends = absurd cc
      by e None (Some g) at is ends = absurd ends
      by e (Some d) None at is ends = absurd cc
      by e (Some d) (Some g) at is ends = let one : g ≡ e = cc in subst (λ (x : Dirty). MapOn x.map m') one (ends.1.stands (stand.drl d at))

      fmr_still : (f : Missed) → l.fmr ≡ Some f → MapOn f.map m'
      fmr_still f is = stands_beside f.map (ClearedAt l.drl m) m m' goes
          (λ u b x run at. logs_apart c sound v some l fits m fit u b (drl_run 0 (greatest_region l.drl) false l.drl m u b x at) (subst (λ (o : Option Missed). FmrRun o u b) (sym is) run)) (stand.fmr f is)

-- the log in memory lies on its disk
pub drl_lies : (c : Config) → is_sound c ≡ true → (v : ℕ) → 0 < blocks_in c.volumes v → (l : Logs) → LogsFit c v l → (m : Meaning) → DisksFit c.disks m → DrlLies l.drl m
drl_lies c sound v some l fits m fit = by l.drl refl
  where
    by : (o : Option Dirty) → l.drl ≡ o → DrlLies o m
    by None is = tt
    by (Some d) is = log_lies c v DrlLog d.map m sound some fit (fits.drl d is).log

-- a refusal
pub clears_refused : (o n : Option Dirty) (l l' : Logs) (m m' : Meaning) (no : No) → DrlClears o n m m' (Err no) → Clears l l' m m' (Err no)
clears_refused o n l l' m m' refusal.Down down = down
clears_refused o n l l' m m' other none = absurd none
