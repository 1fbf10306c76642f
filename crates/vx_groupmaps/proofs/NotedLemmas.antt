-- Marks in the maps of plexes that are STALE.
use Rattle.std.proofs.Common.{◌≡◌, ◌∙◌, ◌⊎◌, inl, inr, ℕ, ◌/◌, ◌<◌, ◌≤◌, Bool, true, false, Option, Some, None, List, IsTrue, refl, sym, ap, subst, arith}
use Rattle.std.specs.Prelude.{OnOk, Result, Ok, Err, ◌||◌, if◌then◌else◌}
use Rattle.vx_bitmap.specs.Bits.{is_among}
use Rattle.vx_bitmap.specs.Maps.{Map, map_block_count}
use Rattle.vx_config.specs.Checks.{blocks_of as blocks_in, is_sound}
use Rattle.vx_config.specs.declared.config.Config.{Config}
use Rattle.vx_config.specs.declared.entry.VolumeLog.{VolumeLog}
use Rattle.vx_config.specs.declared.entry.VolumeLog.TheVariants.{Drl as DrlLog, Fmr as FmrLog}
use Rattle.vx_disk.specs.Moves.{Run}
use Rattle.vx_disk.specs.Shelf.{Goes, Meaning}
use Rattle.vx_drl.specs.Dirty.{Dirty}
use Rattle.vx_fmr.specs.Missed.{Missed, has_missed}
use Rattle.vx_layout.specs.Places.{HasBlock, place}
use Rattle.vx_logs.specs.Held.{DrlRun, FmrRun, LogsFit, stale}
use Rattle.vx_logs.specs.Noting.{FmrEnds}
use Rattle.vx_logs.specs.Writes.{MarkedAt, MarksLogs}
use Rattle.vx_logs.specs.declared.logs.Logs.{Logs}
use Rattle.vx_logs.specs.declared.logs.Lost.{Lost}
use Rattle.vx_logs.proofs.LogLemmas.{log_off_plex, log_placed}
use Rattle.vx_logs.proofs.NoteLemmas.{among_is}
use Rattle.vx_logs.proofs.WriteLemmas.{marked_run}
use Rattle.vx_maplog.specs.Logs.{LogLoaded}
use Rattle.vx_model.specs.Sizes.{regions_of as regions_in}
use Rattle.vx_model.specs.declared.no.No.{No}
use Rattle.vx_volume.specs.Plexes.{DisksFit, active}
use Rattle.vx_volume.proofs.PlaceLemmas.{active_below}
use Rattle.vx_groupmaps.specs.Missing.{HoldMissed, MapAgrees, MapsCoverBy, MapsReady, or_run, or_spared}
use Rattle.vx_groupmaps.proofs.AgreeLemmas.{agree_stays}
use Rattle.vx_groupmaps.proofs.MapPlaces.{active_fresh, last_low, mapped_stale, region_low, stale_there}

-- ---- one bit

less_noted : (t a w h s : Bool) → h ≡ (if t then (a || w) else w) → t ≡ true → s || h ≡ false → (a || s) || w ≡ false
less_noted t a w h true is on clear = absurd (let clash : true ≡ false = clear in cc)
less_noted true true w h false is on clear = absurd (let clash : true ≡ false = sym is ∙ clear in cc)
less_noted true false true h false is on clear = absurd (let clash : true ≡ false = sym is ∙ clear in cc)
less_noted true false false h false is on clear = refl
less_noted false a w h false is on clear = absurd (let clash : false ≡ true = on in cc)

held_noted : (t a w h : Bool) → h ≡ (if t then (a || w) else w) → t ≡ true → a ≡ true → h ≡ true
held_noted true true w h is on among = is
held_noted true false w h is on among = absurd (let clash : false ≡ true = among in cc)
held_noted false a w h is on among = absurd (let clash : false ≡ true = on in cc)

still_noted : (t a w h : Bool) → h ≡ (if t then (a || w) else w) → t ≡ false → h ≡ w
still_noted true a w h is off = absurd (let clash : true ≡ false = off in cc)
still_noted false a w h is off = is

-- ---- the logs of a volume

module _ (c : Config) (sound : is_sound c ≡ true) (v : ℕ) (some : 0 < blocks_in c.volumes v) (l : Logs) (fits : LogsFit c v l) (m : Meaning) (fit : DisksFit c.disks m) (first last : ℕ) where
  log_hit : (u b : ℕ) (w p k : ℕ) → HasBlock c w p k → place c w p k ≡ (u, b) → (log : VolumeLog) (map : Map) → LogLoaded c v log map → Run map.unit map.first (map_block_count map) u b → ⊥
  log_hit u b w p k has at log map ld run =
      let placed = log_placed c v log map m sound some fit ld in
      log_off_plex c sound v log ld.entry ld.is w p k b has (at ∙ ap (λ (y : ℕ). (y, b)) (run.there ∙ ld.run.there)) (omega (arith, run.first, ld.run.begins)) (omega (arith, run.last, ld.run.begins, ld.run.long, placed.blocks))

  -- no plex has a block that is written
  pub marked_off : (w p k : ℕ) (x : List ℕ) → HasBlock c w p k → MarkedAt c v first last l m (place c w p k).0 (place c w p k).1 x → ⊥
  marked_off w p k x has at = by l.drl l.fmr refl refl (marked_run c v first last l m (place c w p k).0 (place c w p k).1 x at)
    where
      by : (o : Option Dirty) (q : Option Missed) → l.drl ≡ o → l.fmr ≡ q → DrlRun o (place c w p k).0 (place c w p k).1 ⊎ FmrRun q (place c w p k).0 (place c w p k).1 → ⊥
      by None q is is' (inl none) = none
      by (Some d) q is is' (inl run) = log_hit (place c w p k).0 (place c w p k).1 w p k has refl DrlLog d.map (fits.drl d is).log run
      by o None is is' (inr none) = none
      by o (Some f) is is' (inr run) = log_hit (place c w p k).0 (place c w p k).1 w p k has refl FmrLog f.map (fits.fmr f is').log run

  module _ (l' : Logs) (m' : Meaning) where
    pub noted_covers : Goes (MarkedAt c v first last l m) m m' → (r : Result Lost No) → MarksLogs c v first last l l' m m' r → (spare : ℕ → ℕ → Bool) → OnOk r (MapsCoverBy c v (or_run first last spare) l m → MapsCoverBy c v spare l' m')
    noted_covers goes (Ok lost) marked spare = λ cover. record { so = λ g is up. by g up l.fmr l'.fmr refl is marked.fmr cover }
      where
        by : (g : Missed) → (IsTrue m'.down → ⊥) → (o n : Option Missed) → l.fmr ≡ o → n ≡ Some g → FmrEnds (stale c v) false first last lost.fmr o n m m' → MapsCoverBy c v (or_run first last spare) l m → MapAgrees c v (or_spared spare (has_missed g)) m'.reads
        by g up None None at is ends cover = absurd cc
        by g up None (Some h) at is ends cover = absurd ends
        by g up (Some f) None at is ends cover = absurd cc
        by g up (Some f) (Some h) at is ends cover =
            let same : h ≡ g = cc in
            let it = fits.fmr f at in
            subst (λ (x : Missed). MapAgrees c v (or_spared spare (has_missed x)) m'.reads) same
            (agree_stays c (MarkedAt c v first last l m) m m' goes up marked_off v (or_spared (or_run first last spare) (has_missed f)) (or_spared spare (has_missed h))
            (λ p b is_map inside clear.
            less_noted (stale c v p) (is_among first last (b / 64)) (has_missed f p (b / 64)) (has_missed h p (b / 64)) (spare p (b / 64))
            (ends.1.notes.each p (b / 64) (stale_there c sound v some f it p (mapped_stale c v p is_map)) (region_low c sound v some f it b inside)) (mapped_stale c v p is_map) clear)
            (cover.so f at (λ down. up (goes.falls down))))
    noted_covers goes (Err why) marked spare = tt

    pub noted_holds : last < regions_in (blocks_in c.volumes v) → (r : Result Lost No) → MarksLogs c v first last l l' m m' r → OnOk r (HoldMissed c v first last l')
    noted_holds inside (Ok lost) marked = record { so = λ g is p r is_stale low high. by g p r is_stale low high l.fmr l'.fmr refl is marked.fmr }
      where
        by : (g : Missed) (p r : ℕ) → IsTrue (stale c v p) → first ≤ r → r ≤ last → (o n : Option Missed) → l.fmr ≡ o → n ≡ Some g → FmrEnds (stale c v) false first last lost.fmr o n m m' → has_missed g p r ≡ true
        by g p r is_stale low high None None at is ends = absurd cc
        by g p r is_stale low high None (Some h) at is ends = absurd ends
        by g p r is_stale low high (Some f) None at is ends = absurd cc
        by g p r is_stale low high (Some f) (Some h) at is ends =
            let same : h ≡ g = cc in
            let it = fits.fmr f at in
            subst (λ (x : Missed). has_missed x p r ≡ true) same
            (held_noted (stale c v p) (is_among first last r) (has_missed f p r) (has_missed h p r)
            (ends.1.notes.each p r (stale_there c sound v some f it p is_stale) (last_low c sound v some f it r (omega (arith, high, inside)))) is_stale (among_is first last r low high))
    noted_holds inside (Err why) marked = tt

    pub noted_ready : (r : Result Lost No) → MarksLogs c v first last l l' m m' r → OnOk r (MapsReady c v l → MapsReady c v l')
    noted_ready (Ok lost) marked = λ ready. record { so = λ g is p r on low. by g p r on l.fmr l'.fmr refl is marked.fmr ready low }
      where
        by : (g : Missed) (p r : ℕ) → IsTrue (active c v p) → (o n : Option Missed) → l.fmr ≡ o → n ≡ Some g → FmrEnds (stale c v) false first last lost.fmr o n m m' → MapsReady c v l → r < g.stride → has_missed g p r ≡ false
        by g p r on None None at is ends ready = absurd cc
        by g p r on None (Some h) at is ends ready = absurd ends
        by g p r on (Some f) None at is ends ready = absurd cc
        by g p r on (Some f) (Some h) at is ends ready =
            let same : h ≡ g = cc in
            subst (λ (x : Missed). r < x.stride → has_missed x p r ≡ false) same
            (λ low. let here : r < f.stride = omega (arith, low, ends.1.same.shape.stride) in
            still_noted (stale c v p) (is_among first last r) (has_missed f p r) (has_missed h p r)
            (ends.1.notes.each p r (omega (arith, active_below c sound v p on, (fits.fmr f at).plexes)) here) (active_fresh c v p on) ∙ ready.so f at p r on here)
    noted_ready (Err why) marked = tt
