-- The map of a plex that is emptied.
use Rattle.std.proofs.Common.{◌≡◌, ◌∙◌, inl, inr, ℕ, ◌-◌, ◌/◌, ◌<◌, Bool, true, false, Option, Some, None, List, IsTrue, refl, sym, ap, subst, arith}
use Rattle.std.specs.Prelude.{OnOk, Result, Ok, Err, if◌then◌else◌}
use Rattle.std.proofs.lemmas.Bool.{cases_eq}
use Rattle.vx_bitmap.specs.Bits.{Changed}
use Rattle.vx_bitmap.specs.Maps.{MapOn, SamePlace}
use Rattle.vx_config.specs.Checks.{blocks_of as blocks_in, is_sound, plexes_of}
use Rattle.vx_config.specs.declared.config.Config.{Config}
use Rattle.vx_config.specs.declared.entry.VolumeLog.TheVariants.{Fmr as FmrLog}
use Rattle.vx_disk.specs.Shelf.{Goes, Meaning}
use Rattle.vx_disk.proofs.Runs.{weaker}
use Rattle.vx_drl.specs.Dirty.{Dirty}
use Rattle.vx_fmr.specs.Missed.{Missed, OthersSame, SameMissedShape, has_missed}
use Rattle.vx_layout.specs.Places.{place}
use Rattle.vx_logs.specs.Held.{DrlRun, FmrRun, LogsFit, LogsStand}
use Rattle.vx_logs.specs.Noting.{FmrKeeps}
use Rattle.vx_logs.specs.declared.logs.Logs.{Logs}
use Rattle.vx_logs.proofs.LogLemmas.{log_lies}
use Rattle.vx_logs.proofs.MarkLemmas.{logs_apart, stands_beside}
use Rattle.vx_logs.proofs.NoteLemmas.{among_is}
use Rattle.vx_model.specs.declared.no.No.{No}
use Rattle.vx_model.specs.declared.no.No.TheVariants as refusal
use Rattle.vx_volume.specs.Plexes.{DisksFit, Inside, active}
use Rattle.vx_volume.proofs.PlaceLemmas.{active_below}
use Rattle.vx_groupmaps.specs.Beginning.{EmptiedAt, EmptyAnswers, EmptyEnds, HasPlexMap, MapEmptied}
use Rattle.vx_groupmaps.specs.Missing.{MapAgrees, MapsCoverBy, MapsReady, OnMaps, by_map, or_spared}
use Rattle.vx_groupmaps.proofs.AgreeLemmas.{agree_stays, spared_less}
use Rattle.vx_groupmaps.proofs.MapPlaces.{mapped_stale, maps_beside, maps_on, region_low, stale_there}

-- ---- one map

-- what is known where the map began
pub begun : (f g : Missed) (plex : ℕ) (m m' : Meaning) → SamePlace f.map g.map → SameMissedShape f g → OthersSame plex f g → Changed 0 (f.stride - 1) false f.stride (has_missed f plex) (has_missed g plex)
    → (MapOn f.map m → MapOn g.map m') → MapEmptied plex f g m m'
begun f g plex m m' place shape others changed stands = record {
  same = record { place = place; shape = shape };
  none = λ r low. changed.each r low ∙ ap (λ (t : Bool). if t then false else has_missed f plex r) (among_is 0 (f.stride - 1) r (omega arith) (omega (arith, low)));
  others = others;
  stands = stands;
}

pub emptied_run : (plex : ℕ) (o : Option Missed) (m : Meaning) (u b : ℕ) (x : List ℕ) → EmptiedAt plex o m u b x → FmrRun o u b
emptied_run plex None m u b x at = at
emptied_run plex (Some f) m u b x at = at.run

pub emptied_keeps : (plex : ℕ) (gone : Bool) (o n : Option Missed) (m m' : Meaning) → EmptyEnds plex gone o n m m' → FmrKeeps o n
emptied_keeps plex gone None None m m' ends = tt
emptied_keeps plex gone None (Some g) m m' ends = ends
emptied_keeps plex gone (Some f) None m m' ends = tt
emptied_keeps plex gone (Some f) (Some g) m m' ends = ends.1.same

-- a refusal comes of a shelf that is down
pub down_of : (plex : ℕ) (o n : Option Missed) (m m' : Meaning) (why : No) → EmptyAnswers plex o n m m' (Err why) → IsTrue m'.down
down_of plex o n m m' refusal.Down down = down
down_of plex o n m m' other none = absurd none

-- ---- the logs of a volume

module _ (c : Config) (sound : is_sound c ≡ true) (v : ℕ) (some : 0 < blocks_in c.volumes v) (l : Logs) (fits : LogsFit c v l) (m : Meaning) (fit : DisksFit c.disks m) (plex : ℕ) where
  pub has_map : plex < plexes_of c v → HasPlexMap plex l.fmr m
  has_map there = by l.fmr refl
    where
      by : (o : Option Missed) → l.fmr ≡ o → HasPlexMap plex o m
      by None is = tt
      by (Some f) is = let it = fits.fmr f is in (log_lies c v FmrLog f.map m sound some fit it.log, omega (arith, there, it.plexes))

  emptied_on : (u b : ℕ) (x : List ℕ) → EmptiedAt plex l.fmr m u b x → OnMaps c v u b x
  emptied_on u b x at = by l.fmr refl (emptied_run plex l.fmr m u b x at)
    where
      by : (o : Option Missed) → l.fmr ≡ o → FmrRun o u b → OnMaps c v u b x
      by None is none = absurd none
      by (Some f) is run = maps_on c sound v some f (fits.fmr f is) m fit u b x run

  module _ (m' : Meaning) (goes : Goes (EmptiedAt plex l.fmr m) m m') where
    pub begin_goes : Goes (OnMaps c v) m m'
    begin_goes = weaker (EmptiedAt plex l.fmr m) (OnMaps c v) m m' goes emptied_on

    module _ (n : Option Missed) where
      abbrev l' : Logs
      l' = record { drl = l.drl; fmr = n }

      pub begin_stands : (r : Result Bool No) → EmptyAnswers plex l.fmr n m m' r → OnOk r (LogsStand l m → LogsStand l' m')
      begin_stands (Ok gone) answers = λ stand. record {
        drl = λ d is. stands_beside d.map (EmptiedAt plex l.fmr m) m m' goes
            (λ u b x run at. logs_apart c sound v some l fits m fit u b (subst (λ (o : Option Dirty). DrlRun o u b) (sym is) run) (emptied_run plex l.fmr m u b x at)) (stand.drl d is);
        fmr = λ g is. by g l.fmr n refl is answers.0 stand;
      }
        where
          by : (g : Missed) (o k : Option Missed) → l.fmr ≡ o → k ≡ Some g → EmptyEnds plex gone o k m m' → LogsStand l m → MapOn g.map m'
          by g None None at is ends stand = absurd cc
          by g None (Some h) at is ends stand = absurd ends
          by g (Some f) None at is ends stand = absurd cc
          by g (Some f) (Some h) at is ends stand = let same : h ≡ g = cc in subst (λ (x : Missed). MapOn x.map m') same (ends.1.stands (stand.fmr f at))
      begin_stands (Err why) answers = tt

      less : (f h : Missed) → l.fmr ≡ Some f → OthersSame plex f h → by_map c v plex ≡ false → (p b : ℕ) → IsTrue (by_map c v p) → Inside c v b → has_missed h p (b / 64) ≡ false → has_missed f p (b / 64) ≡ false
      less f h at others off p b is inside clear =
          let other : p ≡ plex → ⊥ = λ same. let clash : true ≡ false = sym is ∙ ap (λ (q : ℕ). by_map c v q) same ∙ off in cc in
          sym (others.each p (b / 64) (stale_there c sound v some f (fits.fmr f at) p (mapped_stale c v p is)) (region_low c sound v some f (fits.fmr f at) b inside) other) ∙ clear

      pub begin_covers : (r : Result Bool No) → EmptyAnswers plex l.fmr n m m' r → (spare : ℕ → ℕ → Bool) → by_map c v plex ≡ false → MapsCoverBy c v spare l m → MapsCoverBy c v spare l' m'
      begin_covers r answers spare off cover = record { so = λ g is up. by g up r l.fmr n refl is answers }
        where
          by : (g : Missed) → (IsTrue m'.down → ⊥) → (r : Result Bool No) (o k : Option Missed) → l.fmr ≡ o → k ≡ Some g → EmptyAnswers plex o k m m' r → MapAgrees c v (or_spared spare (has_missed g)) m'.reads
          by g up (Err why) o k at is answers = absurd (up (down_of plex o k m m' why answers))
          by g up (Ok gone) None None at is answers = absurd cc
          by g up (Ok gone) None (Some h) at is answers = absurd answers.0
          by g up (Ok gone) (Some f) None at is answers = absurd cc
          by g up (Ok gone) (Some f) (Some h) at is answers =
              let same : h ≡ g = cc in
              subst (λ (x : Missed). MapAgrees c v (or_spared spare (has_missed x)) m'.reads) same
              (agree_stays c (OnMaps c v) m m' begin_goes up (λ w p k x has on. maps_beside c sound v w p k (place c w p k).0 (place c w p k).1 x has refl on) v (or_spared spare (has_missed f)) (or_spared spare (has_missed h))
              (λ p b is_map inside clear. spared_less (spare p (b / 64)) (has_missed h p (b / 64)) (has_missed f p (b / 64)) (λ none. less f h at answers.0.1.others off p b is_map inside none) clear)
              (cover.so f at (λ down. up (goes.falls down))))

      -- a plex of the volume that is ACTIVE has a map
      active_there : (f : Missed) → l.fmr ≡ Some f → (p : ℕ) → IsTrue (active c v p) → p < f.plexes
      active_there f at p on = omega (arith, active_below c sound v p on, (fits.fmr f at).plexes)

      pub begin_ready : (r : Result Bool No) → EmptyAnswers plex l.fmr n m m' r → OnOk r (MapsReady c v l → MapsReady c v l')
      begin_ready (Ok gone) answers = λ ready. record { so = λ g is p r on low. by g p r on l.fmr n refl is answers.0 ready low }
        where
          by : (g : Missed) (p r : ℕ) → IsTrue (active c v p) → (o k : Option Missed) → l.fmr ≡ o → k ≡ Some g → EmptyEnds plex gone o k m m' → MapsReady c v l → r < g.stride → has_missed g p r ≡ false
          by g p r on None None at is ends ready = absurd cc
          by g p r on None (Some h) at is ends ready = absurd ends
          by g p r on (Some f) None at is ends ready = absurd cc
          by g p r on (Some f) (Some h) at is ends ready =
              let same : h ≡ g = cc in
              subst (λ (x : Missed). r < x.stride → has_missed x p r ≡ false) same
              (λ low. let here : r < f.stride = omega (arith, low, ends.1.same.shape.stride) in
              elim (cases_eq p plex) [
                | inl is ↦ subst (λ (q : ℕ). has_missed h q r ≡ false) (sym is) (ends.1.none r here)
                | inr other ↦ ends.1.others.each p r (active_there f at p on) here other ∙ ready.so f at p r on here
              ])
      begin_ready (Err why) answers = tt

-- the map that began, where there is a log
pub begun_ok : (plex : ℕ) (o : Option Missed) (f g : Missed) (m m' : Meaning) → o ≡ Some f → MapEmptied plex f g m m' → EmptyEnds plex false o (Some g) m m'
begun_ok plex o f g m m' is done = subst (λ (x : Option Missed). EmptyEnds plex false x (Some g) m m') (sym is) (refl, done)
