-- Marks in the logs of a volume.
use Rattle.std.proofs.Common.{◌≡◌, ◌∙◌, inl, inr, ⊎_elim, ◌⊎◌, ℕ, ◌+◌, ◌<◌, ◌≤◌, Bool, true, false, Option, Some, None, List, IsTrue, refl, sym, ap, subst, arith}
use Rattle.std.specs.Prelude.{if◌then◌else◌, Err}
use Rattle.vx_model.specs.Sizes.{regions_of as regions_in}
use Rattle.vx_bitmap.specs.Maps.{Map, MapOn, SamePlace, map_block_count}
use Rattle.vx_config.specs.Checks.{blocks_of as blocks_in, is_sound, plexes_of}
use Rattle.vx_config.specs.declared.config.Config.{Config}
use Rattle.vx_config.specs.declared.entry.VolumeLog.TheVariants.{Drl as DrlLog, Fmr as FmrLog}
use Rattle.vx_disk.specs.Moves.{Run}
use Rattle.vx_disk.specs.Shelf.{Goes, Meaning, Or, Values}
use Rattle.vx_disk.proofs.Causing.{Rose_after, Rose_before}
use Rattle.vx_disk.proofs.Runs.{both_Goes, weaker}
use Rattle.vx_drl.specs.Dirty.{Dirty}
use Rattle.vx_fmr.specs.Missed.{FmrLoaded, Missed, has_missed}
use Rattle.vx_fmr.proofs.Keeping.{kept_of}
use Rattle.vx_maplog.specs.Logs.{LogLoaded}
use Rattle.vx_volume.specs.Plexes.{DisksFit}
use Rattle.vx_model.specs.declared.no.No.{No}
use Rattle.vx_model.specs.declared.no.No.TheVariants as refusal
use Rattle.vx_logs.specs.Dirtying.{DrlAnswers, DrlAt, DrlEnds, DrlHas, DrlKeeps}
use Rattle.vx_logs.specs.Held.{DrlFits, DrlRun, FmrRun, LogsFit, stale}
use Rattle.vx_logs.specs.Noting.{FmrAnswers, FmrAt, FmrEnds, FmrKeeps, FmrReady, FmrStill, MayBeNoted, Noted, is_one, noted_region}
use Rattle.vx_logs.specs.Writes.{MarkedLogs, MarkedAt, MarksLogs, StaleStill}
use Rattle.vx_logs.specs.declared.logs.Logs.{Logs}
use Rattle.vx_logs.specs.declared.logs.Lost.{Lost}
use Rattle.vx_logs.proofs.LogLemmas.{log_lies, maps_off}

-- a volume with a region has blocks
pub some_blocks : (blocks last : ℕ) → last < regions_in blocks → 0 < blocks
some_blocks blocks last lt = omega (arith, lt)

-- ---- a map beside what is written elsewhere

pub stands_beside : (map : Map) (W : Values) (m m' : Meaning) → Goes W m m' → ((u b : ℕ) (x : List ℕ) → Run map.unit map.first (map_block_count map) u b → W u b x → ⊥) → MapOn map m → MapOn map m'
stands_beside map W m m' goes off on = record {
  each = λ k low. record {
    only = λ x left. elim (goes.leaves map.unit (map.first + k) x left) [
      | inl was ↦ (on.each k low).only x was
      | inr now ↦ absurd (off map.unit (map.first + k) x (record { there = refl; first = omega arith; last = omega (arith, low) }) now)
    ];
  };
}

-- what is written of a log lies in its blocks
pub drl_run : (first last : ℕ) (value : Bool) (o : Option Dirty) (m : Meaning) (u b : ℕ) (x : List ℕ) → DrlAt first last value o m u b x → DrlRun o u b
drl_run first last value None m u b x at = at
drl_run first last value (Some d) m u b x at = at.run

pub fmr_run : (those : ℕ → Bool) (anew : Bool) (first last : ℕ) (o : Option Missed) (m : Meaning) (u b : ℕ) (x : List ℕ) → FmrAt those anew first last o m u b x → FmrRun o u b
fmr_run those anew first last None m u b x at = at
fmr_run those anew first last (Some f) m u b x at = at.run

-- ---- the logs fit

loaded_later : {log : _} (c : Config) (v : ℕ) (old new : Map) → LogLoaded c v log old → SamePlace old new → LogLoaded c v log new
loaded_later c v old new l same = record {
  entry = l.entry;
  is = l.is;
  run = record { there = same.unit ∙ l.run.there; begins = same.first ∙ l.run.begins; long = same.long ∙ l.run.long; few = l.run.few };
}

drl_fits : (c : Config) (v : ℕ) (o n : Option Dirty) → ((d : Dirty) → o ≡ Some d → DrlFits c v d) → DrlKeeps o n → (e : Dirty) → n ≡ Some e → DrlFits c v e
drl_fits c v None None old keeps e is = absurd cc
drl_fits c v None (Some g) old keeps e is = absurd keeps
drl_fits c v (Some d) None old keeps e is = absurd cc
drl_fits c v (Some d) (Some g) old keeps e is =
    let same : g ≡ e = cc in
    let fits = old d refl in
    subst (λ (x : Dirty). DrlFits c v x) same (record { log = loaded_later c v d.map g.map fits.log keeps.place; regions = keeps.regions ∙ fits.regions })

fmr_fits : (c : Config) (v : ℕ) (o n : Option Missed) → ((f : Missed) → o ≡ Some f → FmrLoaded c v f) → FmrKeeps o n → (g : Missed) → n ≡ Some g → FmrLoaded c v g
fmr_fits c v None None old keeps e is = absurd cc
fmr_fits c v None (Some g) old keeps e is = absurd keeps
fmr_fits c v (Some d) None old keeps e is = absurd cc
fmr_fits c v (Some f) (Some g) old keeps e is =
    let same : g ≡ e = cc in
    let fits = old f refl in
    subst (λ (x : Missed). FmrLoaded c v x) same
    (record { log = loaded_later c v f.map g.map fits.log keeps.place; plexes = keeps.shape.plexes ∙ fits.plexes; stride = keeps.shape.stride ∙ fits.stride; regions = keeps.shape.regions ∙ fits.regions })

pub fits_later : (c : Config) (v : ℕ) (l l' : Logs) → LogsFit c v l → DrlKeeps l.drl l'.drl → FmrKeeps l.fmr l'.fmr → LogsFit c v l'
fits_later c v l l' fits drl fmr = record { drl = drl_fits c v l.drl l'.drl fits.drl drl; fmr = fmr_fits c v l.fmr l'.fmr fits.fmr fmr }

pub same_drl : (o : Option Dirty) → DrlKeeps o o
same_drl None = tt
same_drl (Some d) = record { place = record { unit = refl; first = refl; long = refl }; regions = refl }

pub same_fmr : (o : Option Missed) → FmrKeeps o o
same_fmr None = tt
same_fmr (Some f) = record { place = record { unit = refl; first = refl; long = refl }; shape = record { plexes = refl; stride = refl; regions = refl } }

-- ---- on a shelf that has the disks

module _ (c : Config) (sound : is_sound c ≡ true) (v : ℕ) (some : 0 < blocks_in c.volumes v) (l : Logs) (fits : LogsFit c v l) where
  pub drl_has : (last : ℕ) (m : Meaning) → DisksFit c.disks m → last < regions_in (blocks_in c.volumes v) → DrlHas last l.drl m
  drl_has last m fit inside = by l.drl refl
    where
      by : (o : Option Dirty) → l.drl ≡ o → DrlHas last o m
      by None is = tt
      by (Some d) is = let it = fits.drl d is in (log_lies c v DrlLog d.map m sound some fit it.log, omega (arith, inside, it.regions))

  pub fmr_ready : (set last : ℕ) (m : Meaning) → DisksFit c.disks m → last < regions_in (blocks_in c.volumes v) → ((p : ℕ) → is_one set p ≡ true → p < plexes_of c v) → FmrReady set last l.fmr m
  fmr_ready set last m fit inside below = by l.fmr refl
    where
      by : (o : Option Missed) → l.fmr ≡ o → FmrReady set last o m
      by None is = tt
      by (Some f) is =
          let it = fits.fmr f is in
          record {
            map = record {
              lies = log_lies c v FmrLog f.map m sound some fit it.log;
              kept = kept_of c v f.map (blocks_in c.volumes v) f.plexes f.stride f.regions it.log refl some it.plexes it.stride it.regions;
              inside = omega (arith, inside, it.regions);
            };
            exist = λ p is. omega (arith, below p is, it.plexes);
          }

  -- the two logs are apart
  pub logs_apart : (m : Meaning) → DisksFit c.disks m → (u b : ℕ) → DrlRun l.drl u b → FmrRun l.fmr u b → ⊥
  logs_apart m fit u b = by l.drl l.fmr refl refl
    where
      by : (o : Option Dirty) (q : Option Missed) → l.drl ≡ o → l.fmr ≡ q → DrlRun o u b → FmrRun q u b → ⊥
      by None q is is' none run = none
      by (Some d) None is is' run none = none
      by (Some d) (Some f) is is' run run' = maps_off c sound v d.map f.map m some fit (fits.drl d is).log (fits.fmr f is').log u b run run'

  -- marks of one log leave the other one's map
  pub maps_stay : (first last : ℕ) (m m1 : Meaning) → DisksFit c.disks m → Goes (DrlAt first last true l.drl m) m m1 → (f : Missed) → l.fmr ≡ Some f → MapOn f.map m → MapOn f.map m1
  maps_stay first last m m1 fit goes f is on = stands_beside f.map (DrlAt first last true l.drl m) m m1 goes
      (λ u b x run at. logs_apart m fit u b (drl_run first last true l.drl m u b x at) (subst (λ (o : Option Missed). FmrRun o u b) (sym is) run)) on

-- ---- plexes by a set and by their states

maybe_those : (a b : ℕ → Bool) (anew : Bool) (first last p r : ℕ) (was now : Bool) → ((q : ℕ) → a q ≡ b q) → MayBeNoted a anew first last p r was now → MayBeNoted b anew first last p r was now
maybe_those a b anew first last p r was now same (inl is) = inl is
maybe_those a b anew first last p r was now same (inr is) = inr (sym (same p) ∙ is.0, is.1)

-- what a note leaves of a block is said of an earlier moment, where the map stood then
pub at_before : (a b : ℕ → Bool) (anew : Bool) (first last : ℕ) (o : Option Missed) (m m1 : Meaning) → ((q : ℕ) → a q ≡ true → b q ≡ true) → ((f : Missed) → o ≡ Some f → MapOn f.map m → MapOn f.map m1)
    → (u d : ℕ) (x : List ℕ) → FmrAt a anew first last o m1 u d x → FmrAt b anew first last o m u d x
at_before a b anew first last None m m1 wide stays u d x at = at
at_before a b anew first last (Some f) m m1 wide stays u d x at = record { run = at.run; so = λ on p r lt low. by p r (at.so (stays f refl on) p r lt low) }
  where
    by : (p r : ℕ) → {was now : Bool} → MayBeNoted a anew first last p r was now → MayBeNoted b anew first last p r was now
    by p r (inl is) = inl is
    by p r (inr is) = inr (wide p is.0, is.1)

noted_those : (a b : ℕ → Bool) (anew : Bool) (first last : ℕ) (f g : Missed) → ((q : ℕ) → a q ≡ b q) → Noted a anew first last f g → Noted b anew first last f g
noted_those a b anew first last f g same notes = record { each = λ p r lt low. notes.each p r lt low ∙ ap (λ (t : Bool). if t then noted_region anew first last r (has_missed f p r) else has_missed f p r) (same p) }

pub fmr_ends : (a b : ℕ → Bool) (anew : Bool) (first last : ℕ) (lost : Bool) (o n : Option Missed) (m m1 m2 : Meaning) → ((q : ℕ) → a q ≡ b q) → ((f : Missed) → o ≡ Some f → MapOn f.map m → MapOn f.map m1) → ((u : ℕ) → m.faults u ≤ m1.faults u)
    → FmrEnds a anew first last lost o n m1 m2 → FmrEnds b anew first last lost o n m m2
fmr_ends a b anew first last lost None None m m1 m2 same stays counts ends = ends
fmr_ends a b anew first last lost None (Some g) m m1 m2 same stays counts ends = ends
fmr_ends a b anew first last lost (Some f) None m m1 m2 same stays counts ends = (ends.0, Rose_before (m.faults f.map.unit) (m1.faults f.map.unit) (m2.faults f.map.unit) (counts f.map.unit) ends.1)
fmr_ends a b anew first last lost (Some f) (Some g) m m1 m2 same stays counts ends = (ends.0, record { same = ends.1.same; notes = noted_those a b anew first last f g same ends.1.notes; stands = λ on. ends.1.stands (stays f refl on) })

-- the dirty region log behind a call that writes none of its blocks
pub drl_ends : (first last : ℕ) (lost : Bool) (o n : Option Dirty) (W : Values) (m m1 m2 : Meaning) → DrlKeeps o n → Goes W m1 m2 → ((u b : ℕ) (x : List ℕ) → DrlRun o u b → W u b x → ⊥) → DrlEnds first last lost o n m m1 → DrlEnds first last lost o n m m2
drl_ends first last lost None None W m m1 m2 keeps goes off ends = ends
drl_ends first last lost None (Some e) W m m1 m2 keeps goes off ends = ends
drl_ends first last lost (Some d) None W m m1 m2 keeps goes off ends = (ends.0, Rose_after (m.faults d.map.unit) (m1.faults d.map.unit) (m2.faults d.map.unit) ends.1 (goes.faults d.map.unit))
drl_ends first last lost (Some d) (Some e) W m m1 m2 keeps goes off ends = (
  ends.0,
  record {
    same = ends.1.same;
    marks = ends.1.marks;
    held = ends.1.held;
    stands = λ on. stands_beside e.map W m1 m2 goes (λ u b x run at. off u b x (back u b run) at) (ends.1.stands on);
  },
)
  where
    back : (u b : ℕ) → Run e.map.unit e.map.first (map_block_count e.map) u b → Run d.map.unit d.map.first (map_block_count d.map) u b
    back u b run = record {
      there = run.there ∙ keeps.place.unit;
      first = omega (arith, run.first, keeps.place.first);
      last = omega (arith, run.last, keeps.place.first, keeps.place.long);
    }

-- a note of plexes that have noted all changes nothing
pub stale_still : (c : Config) (v set first last : ℕ) (o : Option Missed) → ((q : ℕ) → is_one set q ≡ stale c v q) → StaleStill c v first last o → FmrStill set false first last o
stale_still c v set first last None same all = tt
stale_still c v set first last (Some f) same all = record { each = λ p is. (refl, all p (sym (same p) ∙ is)) }

-- ---- a mark of both logs

module _ (c : Config) (sound : is_sound c ≡ true) (v : ℕ) (some : 0 < blocks_in c.volumes v) (l : Logs) (fits : LogsFit c v l) (first last set : ℕ) (those : (q : ℕ) → is_one set q ≡ stale c v q)
    (m m1 : Meaning) (fit : DisksFit c.disks m) (one : Goes (DrlAt first last true l.drl m) m m1) where
  pub first_writes : Goes (MarkedAt c v first last l m) m m1
  first_writes = weaker (DrlAt first last true l.drl m) (MarkedAt c v first last l m) m m1 one (λ u b x at. inl at)

  module _ (m2 : Meaning) (two : Goes (FmrAt (is_one set) false first last l.fmr m1) m1 m2) where
    pub both_write : Goes (MarkedAt c v first last l m) m m2
    both_write =
        weaker (Or (DrlAt first last true l.drl m) (FmrAt (is_one set) false first last l.fmr m1)) (MarkedAt c v first last l m) m m2 (both_Goes (DrlAt first last true l.drl m) (FmrAt (is_one set) false first last l.fmr m1) m m1 m2 one two)
        (λ u b x. ⊎_elim (λ at. inl at) (λ at. inr (at_before (is_one set) (stale c v) false first last l.fmr m m1 (λ q is. sym (those q) ∙ is) (maps_stay c sound v some l fits first last m m1 fit one) u b x at)))

    pub both_marked : (lost : Lost) (l' : Logs) → DrlKeeps l.drl l'.drl → DrlEnds first last lost.drl l.drl l'.drl m m1 → (IsTrue m1.down → IsTrue m.down)
        → FmrEnds (is_one set) false first last lost.fmr l.fmr l'.fmr m1 m2 → (IsTrue m2.down → IsTrue m1.down) → MarkedLogs c v first last lost l l' m m2
    both_marked lost l' keeps drl up fmr up' = record {
      drl = drl_ends first last lost.drl l.drl l'.drl (FmrAt (is_one set) false first last l.fmr m1) m m1 m2 keeps two (λ u b x run at. logs_apart c sound v some l fits m fit u b run (fmr_run (is_one set) false first last l.fmr m1 u b x at)) drl;
      fmr = fmr_ends (is_one set) (stale c v) false first last lost.fmr l.fmr l'.fmr m m1 m2 those (maps_stay c sound v some l fits first last m m1 fit one) one.faults fmr;
      up = λ down. up (up' down);
    }

-- a refusal
pub drl_refused : (c : Config) (v first last : ℕ) (o n : Option Dirty) (l l' : Logs) (m m' : Meaning) (no : No) → DrlAnswers first last o n m m' (Err no) → MarksLogs c v first last l l' m m' (Err no)
drl_refused c v first last o n l l' m m' refusal.Down down = down
drl_refused c v first last o n l l' m m' other none = absurd none

pub fmr_refused : (c : Config) (v : ℕ) (those : ℕ → Bool) (anew : Bool) (first last : ℕ) (o n : Option Missed) (l l' : Logs) (m m1 m' : Meaning) (no : No) → FmrAnswers those anew first last o n m1 m' (Err no) → MarksLogs c v first last l l' m m' (Err no)
fmr_refused c v those anew first last o n l l' m m1 m' refusal.Down down = down
fmr_refused c v those anew first last o n l l' m m1 m' other none = absurd none
