-- Maps that are filled, one after the other.
use Rattle.std.proofs.Common.{◌≡◌, ◌∙◌, inl, inr, ⊎_elim, ℕ, ◌+◌, ◌-◌, ◌/◌, ◌<◌, ◌≤◌, Bool, true, false, Option, Some, None, List, IsTrue, refl, sym, ap, subst, arith}
use Rattle.std.specs.Prelude.{◌||◌, ◌&&◌, leb, Err, if◌then◌else◌}
use Rattle.std.proofs.lemmas.Bool.{cases_eq, le-leb, leb-true}
use Rattle.vx_bitmap.specs.Bits.{Changed}
use Rattle.vx_bitmap.specs.Maps.{MapOn, SamePlace}
use Rattle.vx_config.specs.Checks.{blocks_of as blocks_in, is_sound}
use Rattle.vx_config.specs.declared.config.Config.{Config}
use Rattle.vx_config.specs.declared.entry.VolumeLog.TheVariants.{Fmr as FmrLog}
use Rattle.vx_disk.specs.Blocks.{bit_at}
use Rattle.vx_disk.specs.Counts.{Rose}
use Rattle.vx_disk.specs.Shelf.{Goes, Meaning, Or}
use Rattle.vx_disk.proofs.Causing.{Rose_before}
use Rattle.vx_disk.proofs.Runs.{both_Goes, same_Goes, weaker}
use Rattle.vx_drl.specs.Dirty.{Dirty}
use Rattle.vx_fmr.specs.Missed.{Missed, OthersSame, SameMissedShape, has_missed}
use Rattle.vx_layout.specs.Places.{place}
use Rattle.vx_logs.specs.Held.{DrlRun, FmrRun, LogsFit, LogsStand}
use Rattle.vx_logs.specs.Noting.{FmrKeeps}
use Rattle.vx_logs.specs.declared.logs.Logs.{Logs}
use Rattle.vx_logs.proofs.LogLemmas.{log_lies}
use Rattle.vx_logs.proofs.MarkLemmas.{fits_later, logs_apart, same_drl, stands_beside}
use Rattle.vx_logs.proofs.NoteLemmas.{among_is}
use Rattle.vx_model.specs.Sizes.{regions_of as regions_in}
use Rattle.vx_model.specs.declared.no.No.{No}
use Rattle.vx_model.specs.declared.no.No.TheVariants as refusal
use Rattle.vx_volume.specs.Plexes.{DisksFit, Inside, active}
use Rattle.vx_volume.proofs.CopyLemmas.{disks_still}
use Rattle.vx_volume.proofs.PlaceLemmas.{active_below}
use Rattle.vx_groupmaps.specs.Filling.{AreFilled, FillAnswers, FillEnds, FilledAt, HasMapRegion, LostAnswers, LostEnds, MapFilled}
use Rattle.vx_groupmaps.specs.Missing.{MapAgrees, MapsCoverBy, MapsReady, OnMaps, by_map, or_set, or_spared}
use Rattle.vx_groupmaps.proofs.AgreeLemmas.{agree_spared, agree_stays}
use Rattle.vx_groupmaps.proofs.MapPlaces.{active_unmapped, last_low, mapped_few, mapped_stale, maps_beside, maps_on, region_low, stale_there}
use Rattle.vx_groupmaps.proofs.ReadyLemmas.{same_then}

-- ---- one map

pub filled_map : (f g : Missed) (plex last : ℕ) (m m' : Meaning) → last < f.stride → SamePlace f.map g.map → SameMissedShape f g → OthersSame plex f g → Changed 0 last true f.stride (has_missed f plex) (has_missed g plex)
    → (MapOn f.map m → MapOn g.map m') → MapFilled plex last f g m m'
filled_map f g plex last m m' lt place shape others changed stands = record {
  same = record { place = place; shape = shape };
  all = λ r le. changed.each r (omega (arith, le, lt)) ∙ ap (λ (t : Bool). if t then true else has_missed f plex r) (among_is 0 last r (omega arith) le);
  others = others;
  stands = stands;
}

filled_run : (plex last : ℕ) (o : Option Missed) (m : Meaning) (u b : ℕ) (x : List ℕ) → FilledAt plex last o m u b x → FmrRun o u b
filled_run plex last None m u b x at = at
filled_run plex last (Some f) m u b x at = at.run

-- the map that is filled, where there is a log
pub filled_ok : (plex last : ℕ) (o : Option Missed) (f g : Missed) (m m' : Meaning) → o ≡ Some f → MapFilled plex last f g m m' → FillEnds plex last false o (Some g) m m'
filled_ok plex last o f g m m' is done = subst (λ (x : Option Missed). FillEnds plex last false x (Some g) m m') (sym is) (refl, done)

pub last_in : (plex last : ℕ) (o : Option Missed) (f : Missed) (m : Meaning) → o ≡ Some f → HasMapRegion plex last o m → last < f.stride
last_in plex last None f m is has = absurd cc
last_in plex last (Some h) f m is has = let same : h ≡ f = cc in subst (λ (x : Missed). last < x.stride) same has.3

-- ---- the loop

-- the plexes of the set from this one on
abbrev pub from_on : ℕ → ℕ → ℕ → Bool
from_on set n p = bit_at set p && leb n p

-- with each of their regions spared
abbrev pub or_from : ℕ → ℕ → (ℕ → ℕ → Bool) → ℕ → ℕ → Bool
or_from set n spare p r = from_on set n p || spare p r

pub record Filling (c : Config) (v set last n : ℕ) (l l' : Logs) (m m' : Meaning) : Type 0 where
  pub goes : Goes (OnMaps c v) m m'
  pub drl : l'.drl ≡ l.drl
  pub fits : LogsFit c v l'
  pub ends : LostEnds false l.fmr l'.fmr m m'
  pub up : IsTrue m'.down → IsTrue m.down
  pub filled : (f : Missed) → l'.fmr ≡ Some f → (p r : ℕ) → p < n → IsTrue (by_map c v p) → bit_at set p ≡ true → r ≤ last → has_missed f p r ≡ true
  pub stands : LogsStand l m → LogsStand l' m'
  pub covers : (spare : ℕ → ℕ → Bool) → MapsCoverBy c v (or_set set spare) l m → MapsCoverBy c v (or_from set n spare) l' m'
  pub ready : MapsReady c v l → MapsReady c v l'

same_lost : (o : Option Missed) (m : Meaning) → LostEnds false o o m m
same_lost None m = refl
same_lost (Some f) m = (refl, record { place = record { unit = refl; first = refl; long = refl }; shape = record { plexes = refl; stride = refl; regions = refl } })

front_less : (a b s : Bool) → (a ≡ false → b ≡ false) → a || s ≡ false → b || s ≡ false
front_less true b s less clear = absurd (let clash : true ≡ false = clear in cc)
front_less false true s less clear = absurd (let clash : true ≡ false = less refl in cc)
front_less false false s less clear = clear

and_left_false : (s t : Bool) → t ≡ true → s && t ≡ false → s ≡ false
and_left_false true t is clear = absurd (let clash : true ≡ false = sym is ∙ clear in cc)
and_left_false false t is clear = refl

pub fill_start : (c : Config) (v set last : ℕ) (l : Logs) (m : Meaning) → LogsFit c v l → Filling c v set last 0 l l m m
fill_start c v set last l m fits = record {
  goes = same_Goes (OnMaps c v) m;
  drl = refl;
  fits = fits;
  ends = same_lost l.fmr m;
  up = λ down. down;
  filled = λ f is p r lt is_map on le. absurd (omega (arith, lt));
  stands = λ stand. stand;
  covers = λ spare cover. record {
    so = λ f is up. agree_spared c v (or_from set 0 spare) (or_set set spare) (has_missed f) m.reads
        (λ p r is_map. front_less (from_on set 0 p) (bit_at set p) (spare p r) (and_left_false (bit_at set p) (leb 0 p) (le-leb 0 p (omega arith)))) (cover.so f is up);
  };
  ready = λ ready. ready;
}

-- a plex that is none of those
pub fill_pass : (c : Config) (v set last n : ℕ) (l l' : Logs) (m m' : Meaning) → (bit_at set n ≡ true → by_map c v n ≡ true → ⊥) → Filling c v set last n l l' m m' → Filling c v set last (n + 1) l l' m m'
fill_pass c v set last n l l' m m' off it = record {
  goes = it.goes;
  drl = it.drl;
  fits = it.fits;
  ends = it.ends;
  up = it.up;
  filled = λ f is p r lt is_map on le. elim (cases_eq p n) [
    | inl at ↦ absurd (off (ap (λ (q : ℕ). bit_at set q) (sym at) ∙ on) (ap (λ (q : ℕ). by_map c v q) (sym at) ∙ is_map))
    | inr other ↦ it.filled f is p r (omega (arith, lt, other)) is_map on le
  ];
  stands = it.stands;
  covers = λ spare cover. record {
    so = λ f is up. agree_spared c v (or_from set (n + 1) spare) (or_from set n spare) (has_missed f) m'.reads (λ p r is_map. front_less (from_on set (n + 1) p) (from_on set n p) (spare p r) (less p is_map)) ((it.covers spare cover).so f is up);
  };
  ready = it.ready;
}
  where
    less : (p : ℕ) → IsTrue (by_map c v p) → from_on set (n + 1) p ≡ false → from_on set n p ≡ false
    less p is_map clear = by (bit_at set p) (leb n p) refl refl
      where
        by : (s t : Bool) → bit_at set p ≡ s → leb n p ≡ t → s && t ≡ false
        by false t s_is t_is = refl
        by true false s_is t_is = refl
        by true true s_is t_is = elim (cases_eq p n) [
          | inl at ↦ absurd (off (ap (λ (q : ℕ). bit_at set q) (sym at) ∙ s_is) (ap (λ (q : ℕ). by_map c v q) (sym at) ∙ is_map))
          | inr other ↦
              (let le : n ≤ p = leb-true n p t_is in
              let above : leb (n + 1) p ≡ true = le-leb (n + 1) p (omega (arith, le, other)) in
              let clash : true ≡ false = sym (ap (λ (s : Bool). s && leb (n + 1) p) s_is ∙ above) ∙ clear in
              absurd cc)
        ]

-- ---- one map more is filled

module _ (c : Config) (sound : is_sound c ≡ true) (v : ℕ) (some : 0 < blocks_in c.volumes v) (set last : ℕ) (last_is : last ≡ (blocks_in c.volumes v - 1) / 64) (l l1 : Logs) (m m1 : Meaning) (fit : DisksFit c.disks m) (n : ℕ)
    (it : Filling c v set last n l l1 m m1) where
  last_inside : (blocks n : ℕ) → 0 < blocks → n ≡ (blocks - 1) / 64 → n < regions_in blocks
  last_inside blocks n some is = omega (arith, some, is)

  block_last : (blocks n b : ℕ) → n ≡ (blocks - 1) / 64 → b < blocks → b / 64 ≤ n
  block_last blocks n b is lt = omega (arith, is, lt)

  inside : last < regions_in (blocks_in c.volumes v)
  inside = last_inside (blocks_in c.volumes v) last some last_is

  fit1 : DisksFit c.disks m1
  fit1 = disks_still c.disks m m1 fit it.goes.units it.goes.size

  pub has_region : IsTrue (by_map c v n) → HasMapRegion n last l1.fmr m1
  has_region is_map = by l1.fmr refl
    where
      by : (o : Option Missed) → l1.fmr ≡ o → HasMapRegion n last o m1
      by None is = tt
      by (Some f) is =
          let ld = it.fits.fmr f is in
          (log_lies c v FmrLog f.map m1 sound some fit1 ld.log, stale_there c sound v some f ld n (mapped_stale c v n is_map), omega (arith, inside, ld.regions), last_low c sound v some f ld last inside)

  module _ (is_map : IsTrue (by_map c v n)) (m2 : Meaning) (goes : Goes (FilledAt n last l1.fmr m1) m1 m2) (k : Option Missed) where
    abbrev l2 : Logs
    l2 = record { drl = l1.drl; fmr = k }

    filled_on : (u b : ℕ) (x : List ℕ) → FilledAt n last l1.fmr m1 u b x → OnMaps c v u b x
    filled_on u b x at = by l1.fmr refl (filled_run n last l1.fmr m1 u b x at)
      where
        by : (o : Option Missed) → l1.fmr ≡ o → FmrRun o u b → OnMaps c v u b x
        by None is none = absurd none
        by (Some f) is run = maps_on c sound v some f (it.fits.fmr f is) m1 fit1 u b x run

    on_goes : Goes (OnMaps c v) m1 m2
    on_goes = weaker (FilledAt n last l1.fmr m1) (OnMaps c v) m1 m2 goes filled_on

    pub fill_goes : Goes (OnMaps c v) m m2
    fill_goes = weaker (Or (OnMaps c v) (OnMaps c v)) (OnMaps c v) m m2 (both_Goes (OnMaps c v) (OnMaps c v) m m1 m2 it.goes on_goes) (λ u b x. ⊎_elim (λ one. one) (λ two. two))

    pub fill_fits : FmrKeeps l1.fmr k → LogsFit c v l2
    fill_fits keeps = fits_later c v l1 l2 it.fits (same_drl l1.drl) keeps

    lost_then : (gone : Bool) (a b d : Option Missed) → LostEnds false a b m m1 → FillEnds n last gone b d m1 m2 → LostEnds gone a d m m2
    lost_then gone None None None one two = two
    lost_then gone None None (Some h) one two = absurd two
    lost_then gone None (Some g) d one two = absurd one
    lost_then gone (Some f) None d one two = absurd (let clash : false ≡ true = one.0 in cc)
    lost_then gone (Some f) (Some g) None one two =
        let rose = subst (λ (u : ℕ). Rose (m1.faults u) (m2.faults u)) one.1.place.unit two.1 in
        (two.0, Rose_before (m.faults f.map.unit) (m1.faults f.map.unit) (m2.faults f.map.unit) (it.goes.faults f.map.unit) rose)
    lost_then gone (Some f) (Some g) (Some h) one two = (two.0, same_then f g h one.1 two.1.same)

    pub fill_answers : (gone : Bool) → FillEnds n last gone l1.fmr k m1 m2 × (IsTrue m2.down → IsTrue m1.down) → LostEnds gone l.fmr k m m2 × (IsTrue m2.down → IsTrue m.down)
    fill_answers gone two = (lost_then gone l.fmr l1.fmr k it.ends two.0, λ down. it.up (two.1 down))

    module _ (gone : Bool) (two : FillEnds n last gone l1.fmr k m1 m2 × (IsTrue m2.down → IsTrue m1.down)) where
      stale_in : (f : Missed) → l1.fmr ≡ Some f → (p : ℕ) → IsTrue (by_map c v p) → p < f.plexes
      stale_in f at p is = stale_there c sound v some f (it.fits.fmr f at) p (mapped_stale c v p is)

      filled_then : (g : Missed) (p r : ℕ) → p < n + 1 → IsTrue (by_map c v p) → bit_at set p ≡ true → r ≤ last → (o d : Option Missed) → l1.fmr ≡ o → d ≡ Some g → FillEnds n last gone o d m1 m2 → has_missed g p r ≡ true
      filled_then g p r lt is on le None None at be ends = absurd cc
      filled_then g p r lt is on le None (Some h) at be ends = absurd ends
      filled_then g p r lt is on le (Some f) None at be ends = absurd cc
      filled_then g p r lt is on le (Some f) (Some h) at be ends =
          let same : h ≡ g = cc in
          subst (λ (x : Missed). has_missed x p r ≡ true) same
          (elim (cases_eq p n) [
            | inl here ↦ subst (λ (q : ℕ). has_missed h q r ≡ true) (sym here) (ends.1.all r le)
            | inr other ↦ ends.1.others.each p r (stale_in f at p is) (last_low c sound v some f (it.fits.fmr f at) r (omega (arith, le, inside))) other ∙ it.filled f at p r (omega (arith, lt, other)) is on le
          ])

      stands_then : LogsStand l1 m1 → LogsStand l2 m2
      stands_then stand = record {
        drl = λ d is. stands_beside d.map (FilledAt n last l1.fmr m1) m1 m2 goes
            (λ u b x run at. logs_apart c sound v some l1 it.fits m1 fit1 u b (subst (λ (o : Option Dirty). DrlRun o u b) (sym is) run) (filled_run n last l1.fmr m1 u b x at)) (stand.drl d is);
        fmr = λ g is. by g l1.fmr k refl is two.0;
      }
        where
          by : (g : Missed) (o d : Option Missed) → l1.fmr ≡ o → d ≡ Some g → FillEnds n last gone o d m1 m2 → MapOn g.map m2
          by g None None at is ends = absurd cc
          by g None (Some h) at is ends = absurd ends
          by g (Some f) None at is ends = absurd cc
          by g (Some f) (Some h) at is ends = let same : h ≡ g = cc in subst (λ (x : Missed). MapOn x.map m2) same (ends.1.stands (stand.fmr f at))

      -- a region that a plex has not missed by now it had not before, and the plex is none that was spared
      less_out : (spare : ℕ → ℕ → Bool) (f h : Missed) → l1.fmr ≡ Some f → MapFilled n last f h m1 m2 → (p b : ℕ) → IsTrue (by_map c v p) → Inside c v b
          → or_spared (or_from set (n + 1) spare) (has_missed h) p (b / 64) ≡ false → or_spared (or_from set n spare) (has_missed f) p (b / 64) ≡ false
      less_out spare f h at done p b is b_in clear = elim (cases_eq p n) [
        | inl here ↦
            (let full : has_missed h p (b / 64) ≡ true = subst (λ (q : ℕ). has_missed h q (b / 64) ≡ true) (sym here) (done.all (b / 64) (block_last (blocks_in c.volumes v) last b last_is b_in.within)) in
            let clash : true ≡ false = sym (or_true (or_from set (n + 1) spare p (b / 64)) (has_missed h p (b / 64)) full) ∙ clear in
            absurd cc)
        | inr other ↦
            (let same : has_missed h p (b / 64) ≡ has_missed f p (b / 64) = done.others.each p (b / 64) (stale_in f at p is) (region_low c sound v some f (it.fits.fmr f at) b b_in) other in
            both (or_from set n spare p (b / 64)) (or_from set (n + 1) spare p (b / 64)) (has_missed f p (b / 64)) (has_missed h p (b / 64))
            (front_less (from_on set (n + 1) p) (from_on set n p) (spare p (b / 64)) (still_out p other)) same clear)
      ]
        where
          or_true : (s t : Bool) → t ≡ true → s || t ≡ true
          or_true true t is = refl
          or_true false t is = is

          both : (s s' t t' : Bool) → (s' ≡ false → s ≡ false) → t' ≡ t → s' || t' ≡ false → s || t ≡ false
          both s true t t' less same clear = absurd (let clash : true ≡ false = clear in cc)
          both true false t t' less same clear = absurd (let clash : true ≡ false = less refl in cc)
          both false false t t' less same clear = sym same ∙ clear

          still_out : (p : ℕ) → (p ≡ n → ⊥) → from_on set (n + 1) p ≡ false → from_on set n p ≡ false
          still_out p other clear = by (bit_at set p) (leb n p) refl refl
            where
              by : (s t : Bool) → bit_at set p ≡ s → leb n p ≡ t → s && t ≡ false
              by false t s_is t_is = refl
              by true false s_is t_is = refl
              by true true s_is t_is =
                  let le : n ≤ p = leb-true n p t_is in
                  let above : leb (n + 1) p ≡ true = le-leb (n + 1) p (omega (arith, le, other)) in
                  let clash : true ≡ false = sym (ap (λ (s : Bool). s && leb (n + 1) p) s_is ∙ above) ∙ clear in
                  absurd cc

      covers_then : (spare : ℕ → ℕ → Bool) → MapsCoverBy c v (or_from set n spare) l1 m1 → MapsCoverBy c v (or_from set (n + 1) spare) l2 m2
      covers_then spare cover = record { so = λ g is up. by g up l1.fmr k refl is two.0 }
        where
          by : (g : Missed) → (IsTrue m2.down → ⊥) → (o d : Option Missed) → l1.fmr ≡ o → d ≡ Some g → FillEnds n last gone o d m1 m2 → MapAgrees c v (or_spared (or_from set (n + 1) spare) (has_missed g)) m2.reads
          by g up None None at is ends = absurd cc
          by g up None (Some h) at is ends = absurd ends
          by g up (Some f) None at is ends = absurd cc
          by g up (Some f) (Some h) at is ends =
              let same : h ≡ g = cc in
              subst (λ (x : Missed). MapAgrees c v (or_spared (or_from set (n + 1) spare) (has_missed x)) m2.reads) same
              (agree_stays c (OnMaps c v) m1 m2 on_goes up (λ w p b x has on. maps_beside c sound v w p b (place c w p b).0 (place c w p b).1 x has refl on) v (or_spared (or_from set n spare) (has_missed f))
              (or_spared (or_from set (n + 1) spare) (has_missed h)) (less_out spare f h at ends.1) (cover.so f at (λ down. up (goes.falls down))))

      ready_on : MapsReady c v l1 → MapsReady c v l2
      ready_on ready = record { so = λ g is p r on low. by g p r on l1.fmr k refl is two.0 low }
        where
          by : (g : Missed) (p r : ℕ) → IsTrue (active c v p) → (o d : Option Missed) → l1.fmr ≡ o → d ≡ Some g → FillEnds n last gone o d m1 m2 → r < g.stride → has_missed g p r ≡ false
          by g p r on None None at is ends = absurd cc
          by g p r on None (Some h) at is ends = absurd ends
          by g p r on (Some f) None at is ends = absurd cc
          by g p r on (Some f) (Some h) at is ends =
              let same : h ≡ g = cc in
              let other : p ≡ n → ⊥ = λ here. let clash : true ≡ false = sym is_map ∙ ap (λ (q : ℕ). by_map c v q) (sym here) ∙ active_unmapped c v p on in cc in
              subst (λ (x : Missed). r < x.stride → has_missed x p r ≡ false) same
              (λ low. let here : r < f.stride = omega (arith, low, ends.1.same.shape.stride) in
              ends.1.others.each p r (omega (arith, active_below c sound v p on, (it.fits.fmr f at).plexes)) here other ∙ ready.so f at p r on here)

      pub fill_stands : LogsStand l m → LogsStand l2 m2
      fill_stands stand = stands_then (it.stands stand)

      pub fill_ready : MapsReady c v l → MapsReady c v l2
      fill_ready ready = ready_on (it.ready ready)

      pub fill_then : gone ≡ false → FmrKeeps l1.fmr k → Filling c v set last (n + 1) l l2 m m2
      fill_then kept keeps = record {
        goes = fill_goes;
        drl = it.drl;
        fits = fill_fits keeps;
        ends = subst (λ (t : Bool). LostEnds t l.fmr k m m2) kept (lost_then gone l.fmr l1.fmr k it.ends two.0);
        up = λ down. it.up (two.1 down);
        filled = λ g is p r lt is_map_p on le. filled_then g p r lt is_map_p on le l1.fmr k refl is two.0;
        stands = λ stand. stands_then (it.stands stand);
        covers = λ spare cover. covers_then spare (it.covers spare cover);
        ready = λ ready. ready_on (it.ready ready);
      }

-- ---- the end

pub fill_end : (c : Config) → is_sound c ≡ true → (v set last n : ℕ) (l l' : Logs) (m m' : Meaning) → 8 ≤ n → Filling c v set last n l l' m m' → AreFilled c v set last l'
fill_end c sound v set last n l l' m m' le it = record { so = λ f is p r is_map on low. it.filled f is p r (omega (arith, mapped_few c sound v p is_map, le)) is_map on low }

pub fill_covers : (c : Config) → is_sound c ≡ true → (v set last n : ℕ) (l l' : Logs) (m m' : Meaning) → 8 ≤ n → Filling c v set last n l l' m m' → (spare : ℕ → ℕ → Bool) → MapsCoverBy c v (or_set set spare) l m → MapsCoverBy c v spare l' m'
fill_covers c sound v set last n l l' m m' le it spare cover = record {
  so = λ f is up. agree_spared c v spare (or_from set n spare) (has_missed f) m'.reads
      (λ p r is_map clear. ap (λ (t : Bool). t || spare p r) (and_false (bit_at set p) (leb n p) (past p (mapped_few c sound v p is_map))) ∙ clear) ((it.covers spare cover).so f is up);
}
  where
    past : (p : ℕ) → p < 8 → leb n p ≡ false
    past p lt = by (leb n p) refl
      where
        by : (t : Bool) → leb n p ≡ t → t ≡ false
        by true is = absurd (let above : n ≤ p = leb-true n p is in omega (arith, above, lt, le))
        by false is = refl

    and_false : (s t : Bool) → t ≡ false → s && t ≡ false
    and_false true t is = is
    and_false false t is = refl

-- a log that is lost has no map
pub gone_none : (n last : ℕ) (gone : Bool) (o k : Option Missed) (m m' : Meaning) → gone ≡ true → FillEnds n last gone o k m m' → k ≡ None
gone_none n last gone None None m m' is ends = refl
gone_none n last gone None (Some g) m m' is ends = absurd ends
gone_none n last gone (Some f) None m m' is ends = refl
gone_none n last gone (Some f) (Some g) m m' is ends = absurd (let clash : true ≡ false = sym is ∙ ends.0 in cc)

pub none_filled : (c : Config) (v set last : ℕ) (l : Logs) → l.fmr ≡ None → AreFilled c v set last l
none_filled c v set last l none = record { so = λ f is p r is_map on low. absurd (let clash : None ≡ Some f = sym none ∙ is in cc) }

pub none_covers : (c : Config) (v : ℕ) (spare : ℕ → ℕ → Bool) (l : Logs) (m : Meaning) → l.fmr ≡ None → MapsCoverBy c v spare l m
none_covers c v spare l m none = record { so = λ f is up. absurd (let clash : None ≡ Some f = sym none ∙ is in cc) }

-- a refusal
pub fill_refused : (n last : ℕ) (o a b : Option Missed) (m m1 m2 : Meaning) (no : No) → FillAnswers n last a b m1 m2 (Err no) → LostAnswers o b m m2 (Err no)
fill_refused n last o a b m m1 m2 refusal.Down down = down
fill_refused n last o a b m m1 m2 other none = absurd none

pub picked_not : (s t : Bool) → s && t ≡ false → s ≡ true → t ≡ true → ⊥
picked_not s t out one two = let clash : true ≡ false = sym (both s t one two) ∙ out in cc
  where
    both : (s t : Bool) → s ≡ true → t ≡ true → s && t ≡ true
    both true t one two = two
    both false t one two = one
