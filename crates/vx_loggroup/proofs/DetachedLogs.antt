-- The map of a plex that was detached, as it begins.
use Rattle.std.proofs.Common.{◌≡◌, ◌∙◌, inl, inr, ℕ, ◌/◌, ◌<◌, ◌≤◌, Bool, true, false, Option, Some, None, List, IsTrue, length, refl, sym, ap, subst, arith}
use Rattle.std.specs.Prelude.{IfErr, Result, Ok, Err, slice_get}
use Rattle.std.proofs.lemmas.Option.{slice_get_within}
use Rattle.vx_config.specs.declared.entry.VolumeEntry.{VolumeEntry}
use Rattle.std.proofs.Math.ListN.{set}
use Rattle.std.proofs.lemmas.Bool.{cases_eq}
use Rattle.vx_config.specs.Checks.{blocks_of as blocks_in, is_sound}
use Rattle.vx_config.specs.declared.config.Config.{Config}
use Rattle.vx_disk.specs.Causes.{Cause, refusal_of}
use Rattle.vx_disk.specs.Counts.{Rose}
use Rattle.vx_disk.specs.Shelf.{Goes, Meaning}
use Rattle.vx_disk.specs.declared.shelf.ShelfError.{ShelfError}
use Rattle.vx_disk.specs.declared.shelf.ShelfError.TheVariants.{Fault, Down as Fell}
use Rattle.vx_disk.proofs.Causing.{Rose_before, cause_before}
use Rattle.vx_fmr.specs.Missed.{FmrLoaded, Missed, has_missed}
use Rattle.vx_group.specs.Dets.{DetStops}
use Rattle.vx_groupmaps.specs.Beginning.{EmptyEnds, MapEmptied}
use Rattle.vx_groupmaps.specs.Knowing.{MapsKnow, PlexesKnow}
use Rattle.vx_groupmaps.specs.Missing.{OnMaps, none_spared, or_spared}
use Rattle.vx_groupmaps.proofs.BetweenLemmas.{goes_reads}
use Rattle.vx_groupmaps.proofs.KnowLemmas.{plex_below, read_old}
use Rattle.vx_groupmaps.proofs.MapPlaces.{region_low}
use Rattle.vx_grouplogs.specs.On.{VolumeOn}
use Rattle.vx_grouplogs.proofs.KnowActs.{know_logs, logs_off_plex}
use Rattle.vx_grouplogs.proofs.MapLemmas.{goes_logs, maps_logs}
use Rattle.vx_layout.specs.Places.{HasBlock, place, plex_in}
use Rattle.vx_logs.specs.declared.logs.Logs.{Logs}
use Rattle.vx_model.specs.declared.errors.Stop.{Stop}
use Rattle.vx_model.specs.declared.errors.Stop.TheVariants.{No as Refused, OutOfMemory}
use Rattle.vx_model.specs.declared.no.No.TheVariants.{Down as DownNo}
use Rattle.vx_volume.specs.Plexes.{Inside, active, active_or}
use Rattle.vx_volume.proofs.PlaceLemmas.{has_of}
use Rattle.vx_loggroup.specs.Attaching.{fmr_at, fmr_or}
use Rattle.vx_loggroup.specs.Detaching.{BeginsMap, LogsBegin, MapIsEmpty, MapsBegin, ReadsAlike}
use Rattle.vx_loggroup.proofs.AlikeLemmas.{same_item}
use Rattle.vx_loggroup.proofs.SetLemmas.{set_here, set_other}

-- logs of which the dirty region log is this one
pub as_logs : (c : Config) (v : ℕ) (l k : Logs) (m : Meaning) → k.drl ≡ l.drl → VolumeOn c v (record { drl = l.drl; fmr = k.fmr }) m → VolumeOn c v k m
as_logs c v l k m same on = subst (λ (o : Option _). VolumeOn c v (record { drl = o; fmr = k.fmr }) m) (sym same) on

-- ---- what a map that begins knows

module _ (c : Config) (sound : is_sound c ≡ true) (v : ℕ) (some : 0 < blocks_in c.volumes v) (plex : ℕ) (l k : Logs) (m m' : Meaning) (goes : Goes (OnMaps c v) m m') (loaded : (f : Missed) → l.fmr ≡ Some f → FmrLoaded c v f) (gone : Bool) (ends : EmptyEnds plex gone l.fmr k.fmr m m') where
  off_maps : (p b : ℕ) (x : List ℕ) → HasBlock c v p b → OnMaps c v (place c v p b).0 (place c v p b).1 x → ⊥
  off_maps p b x has on = logs_off_plex c sound v v p b x has (maps_logs c v (place c v p b).0 (place c v p b).1 x on)

  pub begun_knows : ReadsAlike c v plex m → MapsKnow c v l m → MapsKnow c v k m'
  begun_knows reads know = record { so = λ g is up. by g up l.fmr k.fmr refl is ends }
    where
      known : (f g : Missed) → l.fmr ≡ Some f → (IsTrue m'.down → ⊥) → MapEmptied plex f g m m' → PlexesKnow c v (or_spared none_spared (has_missed g)) m'.reads
      known f g at up it = record {
        so = λ p q b x y has on inside clear at_p at_q. elim (cases_eq p plex) [
          | inl same ↦ (
              let old_p = read_old c sound v (OnMaps c v) m m' (goes_reads (OnMaps c v) m m' goes) up p b x has (off_maps p b x has) at_p in
              let has_q = has_of c v q b on inside in
              let old_q = read_old c sound v (OnMaps c v) m m' (goes_reads (OnMaps c v) m m' goes) up q b y has_q (off_maps q b y has_q) at_q in
              reads.so (λ down. up (goes.falls down)) q b x y (subst (λ (r : ℕ). HasBlock c v r b) same has) on inside (subst (λ (r : ℕ). m.reads (place c v r b).0 (place c v r b).1 x) same old_p) old_q
              )
          | inr other ↦ (
              let low = plex_below c v p b has in
              let many = (loaded f at).plexes in
              let bit = it.others.each p (b / 64) (omega (arith, low, many)) (region_low c sound v some f (loaded f at) b inside) other in
              ((know_logs c sound v m m' (goes_logs c v m m' goes) v none_spared l know).so f at up).so p q b x y has on inside (sym bit ∙ clear) at_p at_q
              )
        ];
      }

      by : (g : Missed) → (IsTrue m'.down → ⊥) → (o n : Option Missed) → l.fmr ≡ o → n ≡ Some g → EmptyEnds plex gone o n m m' → PlexesKnow c v (or_spared none_spared (has_missed g)) m'.reads
      by g up None None at is ends = absurd cc
      by g up None (Some h) at is ends = absurd ends
      by g up (Some f) None at is ends = absurd cc
      by g up (Some f) (Some h) at is ends = let same : h ≡ g = cc in subst (λ (x : Missed). PlexesKnow c v (or_spared none_spared (has_missed x)) m'.reads) same (known f h at up ends.1)

  -- it has no region then
  pub begun_empty : MapIsEmpty c v plex k.fmr
  begun_empty = record { so = λ g is b inside. by g b inside l.fmr k.fmr refl is ends }
    where
      by : (g : Missed) (b : ℕ) → Inside c v b → (o n : Option Missed) → l.fmr ≡ o → n ≡ Some g → EmptyEnds plex gone o n m m' → has_missed g plex (b / 64) ≡ false
      by g b inside None None at is ends = absurd cc
      by g b inside None (Some h) at is ends = absurd ends
      by g b inside (Some f) None at is ends = absurd cc
      by g b inside (Some f) (Some h) at is ends = let same : h ≡ g = cc in subst (λ (x : Missed). has_missed x plex (b / 64) ≡ false) same (ends.1.none (b / 64) (region_low c sound v some f (loaded f at) b inside))

  pub begun_maps : k.drl ≡ l.drl → LogsBegin plex l k
  begun_maps same = record { drl = same; gone = λ none. by_none l.fmr k.fmr none ends; here = λ f g at is. by f g l.fmr k.fmr at is ends }
    where
      by_none : (o n : Option Missed) → o ≡ None → EmptyEnds plex gone o n m m' → n ≡ None
      by_none None None is ends = refl
      by_none None (Some h) is ends = absurd ends
      by_none (Some f) n is ends = absurd (let clash : Some f ≡ None = is in cc)

      more : (f h : Missed) → MapEmptied plex f h m m' → BeginsMap plex f h
      more f h it = record {
        shape = it.same.shape;
        others = it.others;
        fewer = λ r lt low on. absurd (let clash : true ≡ false = sym on ∙ it.none r low in cc);
      }

      by : (f g : Missed) (o n : Option Missed) → o ≡ Some f → n ≡ Some g → EmptyEnds plex gone o n m m' → BeginsMap plex f g
      by f g None n at is ends = absurd cc
      by f g (Some e) None at is ends = absurd cc
      by f g (Some e) (Some h) at is ends =
          let old : e ≡ f = cc in
          let new : h ≡ g = cc in
          subst (λ (x : Missed). BeginsMap plex x g) old (subst (λ (y : Missed). BeginsMap plex e y) new (more e h ends.1))

-- maps that are in memory no more
pub none_begins : (plex : ℕ) (l k : Logs) → k.drl ≡ l.drl → k.fmr ≡ None → LogsBegin plex l k
none_begins plex l k same none = record { drl = same; gone = λ is. none; here = λ f g at is. absurd (let clash : None ≡ Some g = sym none ∙ is in cc) }

-- ---- in their place

pub begin_set : (v plex : ℕ) (ls : List Logs) (l k : Logs) → slice_get ls v ≡ Some l → LogsBegin plex l k → MapsBegin v plex ls (set ls v k)
begin_set v plex ls l k is begins = record {
  others = λ w apart. set_other ls v k w apart;
  here = λ x y was now.
      let old : l ≡ x = same_item (slice_get ls v) l x is was in
      subst (LogsBegin plex x) (set_here ls v k y now) (subst (λ (z : Logs). LogsBegin plex z k) old begins);
}

pub begin_none : (v plex : ℕ) (ls : List Logs) → MapsBegin v plex ls ls
begin_none v plex ls = record {
  others = λ w apart. refl;
  here = λ l k was now. let same : l ≡ k = same_item (slice_get ls v) l k was now in subst (LogsBegin plex l) same (record { drl = refl; gone = λ none. none; here = λ f g at is. one l f g at is });
}
  where
    map_one : (o : Option Missed) (f g : Missed) → o ≡ Some f → o ≡ Some g → f ≡ g
    map_one o f g at is = let both : Some f ≡ Some g = sym at ∙ is in cc

    one : (l : Logs) (f g : Missed) → l.fmr ≡ Some f → l.fmr ≡ Some g → BeginsMap plex f g
    one l f g at is = subst (λ (x : Missed). BeginsMap plex f x) (map_one l.fmr f g at is) (record {
      shape = record { plexes = refl; stride = refl; regions = refl };
      others = record { each = λ p r lt low other. refl };
      fewer = λ r lt low on. on;
    })

pub empty_set : (c : Config) (v plex : ℕ) (ls : List Logs) (k : Logs) → MapIsEmpty c v plex k.fmr → MapIsEmpty c v plex (fmr_at (set ls v k) v)
empty_set c v plex ls k empty = record { so = λ f is b inside. by (slice_get (set ls v k) v) refl f is b inside }
  where
    by : (o : Option Logs) → slice_get (set ls v k) v ≡ o → (f : Missed) → fmr_or o ≡ Some f → (b : ℕ) → Inside c v b → has_missed f plex (b / 64) ≡ false
    by None at f is b inside = absurd (let clash : None ≡ Some f = is in cc)
    by (Some y) at f is b inside = empty.so f (ap (λ (x : Logs). x.fmr) (set_here ls v k y at) ∙ is) b inside

-- a volume without blocks has no region
pub empty_none : (c : Config) (v plex : ℕ) (o : Option Missed) → blocks_in c.volumes v ≡ 0 → MapIsEmpty c v plex o
empty_none c v plex o none = record { so = λ f is b inside. absurd (let within = inside.within in omega (arith, within, none)) }

-- by a configuration whose volumes lie alike
pub empty_later : (c d : Config) (v plex : ℕ) (o : Option Missed) → ((b : ℕ) → Inside d v b → Inside c v b) → MapIsEmpty c v plex o → MapIsEmpty d v plex o
empty_later c d v plex o back empty = record { so = λ f is b inside. empty.so f is b (back b inside) }

-- ---- why

-- the only refusal
pub down_stops : (m m1 m2 : Meaning) (r : Result (Unit {0}) Stop) → IfErr r (λ stop. (stop ≡ Refused DownNo) × IsTrue m2.down) → DetStops m m2 r
down_stops m m1 m2 (Ok x) why = tt
down_stops m m1 m2 (Err stop) why = subst (λ (s : Stop). DetStops {T = Unit {0}} m m2 (Err s)) (sym why.0) why.1

-- a refusal of a commit
pub det_cause : (T U : Type 0) (a m m' : Meaning) (v : ℕ) (i j : Meaning) → i.disk_faults ≡ m.disk_faults → j.disk_faults ≡ m'.disk_faults → j.down ≡ m'.down → ((u : ℕ) → a.disk_faults u ≤ m.disk_faults u) → (e : ShelfError) → Cause {T = T} i j v (Err e) → DetStops {T = U} a m' (Err (Refused (refusal_of e)))
det_cause T U a m m' v i j one two down rises (Fault disk) cause =
    Rose_before (a.disk_faults disk) (m.disk_faults disk) (m'.disk_faults disk) (rises disk) (subst (λ (f : ℕ → ℕ). Rose (m.disk_faults disk) (f disk)) two (subst (λ (f : ℕ → ℕ). Rose (f disk) (j.disk_faults disk)) one cause.0.disk_count))
det_cause T U a m m' v i j one two down rises Fell cause = sym down ∙ cause

-- a refusal behind calls before it
pub det_later : {T : Type 0} (a m m' : Meaning) → ((u : ℕ) → a.disk_faults u ≤ m.disk_faults u) → (r : Result T Stop) → DetStops m m' r → DetStops a m' r
det_later a m m' rises (Ok x) stops = tt
det_later a m m' rises (Err (Refused why)) stops = cause_before a m m' rises why stops
det_later a m m' rises (Err OutOfMemory) stops = stops

-- ---- answers

pub err_any : {T E P : Type 0} (r : Result T E) → P → IfErr r (λ e. P)
err_any (Ok x) p = tt
err_any (Err e) p = p

pub active_low : (c : Config) (v p : ℕ) → IsTrue (active c v p) → v < length c.volumes
unfolding active
active_low c v p on = by (slice_get c.volumes v) refl
  where
    by : (o : Option VolumeEntry) → slice_get c.volumes v ≡ o → v < length c.volumes
    by None none = absurd (let clash : false ≡ true = sym (ap (λ (o : Option VolumeEntry). active_or (plex_in o p)) none) ∙ on in cc)
    by (Some x) is = slice_get_within c.volumes v x is
