-- Maps of the plexes of a list that are emptied one after the other, whatever plex is held back.
use Rattle.std.proofs.Common.{◌≡◌, ◌∙◌, inl, inr, ℕ, ◌+◌, ◌/◌, ◌<◌, ◌≤◌, Bool, true, false, Option, Some, None, List, IsTrue, refl, sym, ap, subst, arith}
use Rattle.std.specs.Prelude.{◌||◌, ◌&&◌, not}
use Rattle.std.proofs.lemmas.Bool.{cases_eq, eq-eqb}
use Rattle.vx_bitmap.specs.Bits.{is_among}
use Rattle.vx_config.specs.declared.config.Config.{Config}
use Rattle.vx_config.specs.declared.entry.VolumeLog.{VolumeLog}
use Rattle.vx_config.specs.declared.entry.VolumeLog.TheVariants.{Fmr as FmrLog}
use Rattle.vx_disk.specs.Shelf.{Goes, Meaning, Nothing, Or}
use Rattle.vx_disk.proofs.Runs.{both_Goes, same_Goes, then_nothing, weaker}
use Rattle.vx_fmr.specs.Missed.{Missed, SameMissedShape, has_missed}
use Rattle.vx_group.specs.Holding.{GroupStands, wide}
use Rattle.vx_group.specs.Stands.{inner_meaning}
use Rattle.vx_group.specs.declared.group_core.GroupCore.{GroupCore}
use Rattle.vx_group.proofs.Standing.{sound_of}
use Rattle.vx_grouplogs.specs.Gone.{LogsDrop}
use Rattle.vx_grouplogs.proofs.GoneLemmas.{drop_same, drop_then}
use Rattle.vx_grouplogs.proofs.LogShape.{run_in}
use Rattle.vx_grouplogs.proofs.MapLemmas.{goes_logs}
use Rattle.vx_groupmaps.specs.Knowing.{PlexesKnow}
use Rattle.vx_groupmaps.specs.Missing.{OnMaps, none_spared, or_run}
use Rattle.vx_groupmaps.proofs.KnowLemmas.{note_same}
use Rattle.vx_kept.specs.Finds.{FindsFrom, NoConfiguration}
use Rattle.vx_kept.specs.LogRuns.{log_place}
use Rattle.vx_logs.specs.Noting.{this_plex}
use Rattle.vx_logs.specs.declared.logs.Logs.{Logs}
use Rattle.vx_disk.specs.Moves.{Run}
use Rattle.vx_volume.specs.Plexes.{active}
use Rattle.vx_logged.specs.Begun.{MapsBut, MapsOff, begun_refused, but_run, fell_in, if_sure, was_on}
use Rattle.vx_logged.specs.Behind.{none_missing}
use Rattle.vx_logged.specs.Logged.{KnownBy, LogOn, OthersOn}
use Rattle.vx_logged.proofs.BeginLemmas.{but_note, but_then, plexes_logs}
use Rattle.vx_logged.proofs.FallenLemmas.{finds_both, finds_none}
use Rattle.vx_logged.proofs.StandLemmas.{config_is, each_same, inner_sound, others_each, others_then}

-- blocks of a log that lies alike
pub maps_alike : (c d : Config) (v : ℕ) → ((log : VolumeLog) → log_place d v log ≡ log_place c v log) → (m m' : Meaning) → Goes (OnMaps c v) m m' → Goes (OnMaps d v) m m'
maps_alike c d v logs m m' goes = weaker (OnMaps c v) (OnMaps d v) m m' goes (λ u b x on.
    let run = run_in c d v FmrLog (logs FmrLog) on.entry on.is in
    record {
      entry = run.entry;
      is = run.is;
      run = subst (λ (n : ℕ). Run n run.entry.start run.entry.blocks u b) (sym run.disk) (subst (λ (n : ℕ). Run on.entry.disk n run.entry.blocks u b) (sym run.start) (subst (λ (n : ℕ). Run on.entry.disk on.entry.start n u b) (sym run.blocks) on.run));
    })

-- ---- the loop

pub record Emptied (core : GroupCore) (v n : ℕ) (was : List Bool) (l l' : Logs) (m m' : Meaning) : Type 0 where
  pub stands : GroupStands core m'
  pub below : Goes (OnMaps (wide core).config v) m m'
  pub goes : Goes Nothing (inner_meaning (wide core) m) (inner_meaning (wide core) m')
  pub log : LogOn core v l' m'
  pub others : OthersOn v core core m m'
  pub drl : l'.drl ≡ l.drl
  pub drops : LogsDrop (wide core).config v l l' m m'
  pub less : FindsFrom NoConfiguration m m'
  pub knows : (spare missed : ℕ → ℕ → Bool) → ((p r : ℕ) → was_on was p ≡ true → spare p r ≡ false → missed p r ≡ false) → ((IsTrue m.down → ⊥) → PlexesKnow (wide core).config v missed m.reads) → KnownBy core v spare l m → KnownBy core v spare l' m'
  pub notes : MapsBut (was_on was) none_missing 0 0 l l'
  pub begins : (f : Missed) → l'.fmr ≡ Some f → (p r : ℕ) → p < n → p < f.plexes → r < f.stride → was_on was p ≡ true → has_missed f p r ≡ false

pub emptied_start : (core : GroupCore) (v : ℕ) (was : List Bool) (l : Logs) (m : Meaning) → GroupStands core m → LogOn core v l m → Emptied core v 0 was l l m m
emptied_start core v was l m stands on = record {
  stands = stands;
  below = same_Goes (OnMaps (wide core).config v) m;
  goes = same_Goes Nothing (inner_meaning (wide core) m);
  log = on;
  others = others_each v core core m m (each_same core m);
  drl = refl;
  drops = drop_same (wide core).config v l m m;
  less = finds_none m;
  knows = λ spare missed less reads know. know;
  notes = but_note (was_on was) none_missing 0 0 l l (note_same none_missing 0 0 l l refl);
  begins = λ f is p r lt low under on_list. absurd (omega (arith, lt));
}

pub emptied_pass : (core : GroupCore) (v n : ℕ) (was : List Bool) (l l' : Logs) (m m' : Meaning) → was_on was n ≡ false → Emptied core v n was l l' m m' → Emptied core v (n + 1) was l l' m m'
emptied_pass core v n was l l' m m' off it = record {
  stands = it.stands;
  below = it.below;
  goes = it.goes;
  log = it.log;
  others = it.others;
  drl = it.drl;
  drops = it.drops;
  less = it.less;
  knows = it.knows;
  notes = it.notes;
  begins = λ f is p r lt low under on_list. elim (cases_eq p n) [
    | inl same ↦ absurd (let clash : false ≡ true = sym off ∙ subst (λ (q : ℕ). was_on was q ≡ true) same on_list in cc)
    | inr apart ↦ it.begins f is p r (omega (arith, lt, apart)) low under on_list
  ];
}

pub emptied_then : (core : GroupCore) (v n : ℕ) (was : List Bool) (l k j : Logs) (m m1 m2 : Meaning) → was_on was n ≡ true → GroupStands core m2 → Goes (OnMaps (wide core).config v) m1 m2
    → Goes Nothing (inner_meaning (wide core) m1) (inner_meaning (wide core) m2) → LogOn core v j m2 → OthersOn v core core m1 m2 → j.drl ≡ k.drl → LogsDrop (wide core).config v k j m1 m2 → FindsFrom NoConfiguration m1 m2
    → ((spare missed : ℕ → ℕ → Bool) → ((r : ℕ) → spare n r ≡ false → missed n r ≡ false) → ((IsTrue m1.down → ⊥) → PlexesKnow (wide core).config v missed m1.reads) → KnownBy core v spare k m1 → KnownBy core v spare j m2)
    → ((these : ℕ → Bool) → these n ≡ true → MapsBut these none_missing 0 0 k j) → MapsOff (this_plex n) j → Emptied core v n was l k m m1 → Emptied core v (n + 1) was l j m m2
emptied_then core v n was l k j m m1 m2 listed stands below goes on others drl drops less knows notes begins it = record {
  stands = stands;
  below = weaker (Or (OnMaps (wide core).config v) (OnMaps (wide core).config v)) (OnMaps (wide core).config v) m m2 (both_Goes (OnMaps (wide core).config v) (OnMaps (wide core).config v) m m1 m2 it.below below) (λ u b x either. elim either [ inl one ↦ one | inr two ↦ two ]);
  goes = then_nothing Nothing (inner_meaning (wide core) m) (inner_meaning (wide core) m1) (inner_meaning (wide core) m2) it.goes goes;
  log = on;
  others = others_then v core core core m m1 m2 it.others others;
  drl = drl ∙ it.drl;
  drops = drop_then (wide core).config (wide core).config v l k j m m1 m2 (λ log. refl) it.below.faults below.faults below.falls it.drops drops;
  less = finds_both m m1 m2 it.less less;
  knows = λ spare missed clear reads know.
      knows spare missed (λ r. clear n r listed)
      (λ up. plexes_logs (wide core).config (sound_of (wide core) m1 it.stands.stands) v m m1 (goes_logs (wide core).config v m m1 it.below) missed up (reads (λ down. up (it.below.falls down))))
      (it.knows spare missed clear reads know);
  notes = but_then (was_on was) none_missing 0 0 l k j it.notes (notes (was_on was) listed);
  begins = λ f is p r lt low under on_list. elim (cases_eq p n) [
    | inl same ↦ begins.none f is p r low under (eq-eqb p n same)
    | inr apart ↦ before f is p r (omega (arith, lt, apart)) low under on_list k.fmr refl
  ];
}
  where
    step : MapsBut (was_on was) none_missing 0 0 k j
    step = notes (was_on was) listed

    before : (f : Missed) → j.fmr ≡ Some f → (p r : ℕ) → p < n → p < f.plexes → r < f.stride → was_on was p ≡ true → (o : Option Missed) → k.fmr ≡ o → has_missed f p r ≡ false
    before f is p r lt low under on_list None at = absurd (let clash : None ≡ Some f = sym (step.gone at) ∙ is in cc)
    before f is p r lt low under on_list (Some e) at = by (has_missed f p r) refl
      where
        shape : SameMissedShape e f
        shape = (step.each e f at is).shape

        by : (t : Bool) → has_missed f p r ≡ t → t ≡ false
        by false bit = refl
        by true bit = elim ((step.each e f at is).only p r (omega (arith, low, shape.plexes)) (omega (arith, under, shape.stride)) bit) [
          | inl was_there ↦ absurd (let clash : true ≡ false = sym was_there ∙ it.begins e at p r lt (omega (arith, low, shape.plexes)) (omega (arith, under, shape.stride)) on_list in cc)
          | inr now ↦ absurd (let clash : false ≡ true = now.0 in cc)
        ]

pub emptied_end : (core : GroupCore) (v n : ℕ) (was : List Bool) (l l' : Logs) (m m' : Meaning) → 8 ≤ n → ((p : ℕ) → was_on was p ≡ true → p < 8) → Emptied core v n was l l' m m' → MapsOff (was_on was) l'
emptied_end core v n was l l' m m' all few it = record { none = λ f is p r low under on_list. it.begins f is p r (let lt = few p on_list in omega (arith, lt, all)) low under on_list }

-- ---- notes of a run behind them

-- what the regions that are spared leave
pub clear_list : (v first last : ℕ) (was : List Bool) (p r : ℕ) → was_on was p ≡ true → or_run first last none_spared p r ≡ false → but_run (was_on was) first last p r ≡ false
clear_list v first last was p r listed clear = by (was_on was p) (is_among first last r) listed clear
  where
    by : (w t : Bool) → w ≡ true → t || false ≡ false → not w || t ≡ false
    by true true listed clear = absurd (let clash : true ≡ false = clear in cc)
    by true false listed clear = refl
    by false t listed clear = absurd (let clash : false ≡ true = listed in cc)

-- where it is sure what they read
pub sure_list : (sure : Bool) (was : List Bool) (p : ℕ) → sure ≡ true → was_on was p ≡ true → (sure && was_on was p) ≡ true
sure_list true was p is listed = listed
sure_list false was p is listed = absurd (let clash : false ≡ true = is in cc)

-- they are of those whose maps a refused write may begin
pub sure_begun : (c d : GroupCore) (v : ℕ) (sure : Bool) (was : List Bool) → ((p : ℕ) → was_on was p ≡ true → active c.inner.config v p ≡ true) → (p : ℕ) → if_sure sure was p ≡ true → begun_refused c d v sure p ≡ true
sure_begun c d v sure was some p on = by sure (was_on was p) (active c.inner.config v p) (fell_in c d v p) (some p) on
  where
    by : (s w a f : Bool) → (w ≡ true → a ≡ true) → (s && w) ≡ true → f || (s && a) ≡ true
    by s w a true some on = refl
    by true true a false some on = some refl
    by true false a false some on = absurd (let clash : false ≡ true = on in cc)
    by false w a false some on = absurd (let clash : false ≡ true = on in cc)

-- so are those that fell
pub fell_begun : (c d : GroupCore) (v : ℕ) (sure : Bool) (p : ℕ) → fell_in c d v p ≡ true → begun_refused c d v sure p ≡ true
fell_begun c d v sure p fell = ap (λ (f : Bool). f || (sure && active c.inner.config v p)) fell

-- out of a run too plexes read what they read in each block
pub run_wider : (c : Config) (v first last : ℕ) (missed : ℕ → ℕ → Bool) (m : Meaning) → PlexesKnow c v missed m.reads → PlexesKnow c v (or_run first last missed) m.reads
run_wider c v first last missed m know = record {
  so = λ p q b x y has on inside clear at_p at_q. know.so p q b x y has on inside (by (is_among first last (b / 64)) (missed p (b / 64)) clear) at_p at_q;
}
  where
    by : (s t : Bool) → s || t ≡ false → t ≡ false
    by true t clear = absurd (let clash : true ≡ false = clear in cc)
    by false t clear = clear

-- what plexes read beside calls on maps, where none is held back
pub plexes_maps : (core : GroupCore) (v : ℕ) (m m' : Meaning) → core.held ≡ None → GroupStands core m → Goes (OnMaps core.inner.config v) m m' → (missed : ℕ → ℕ → Bool) → (IsTrue m'.down → ⊥) → PlexesKnow (wide core).config v missed m.reads
    → PlexesKnow (wide core).config v missed m'.reads
plexes_maps core v m m' none stands goes missed up know =
    subst (λ (x : Config). PlexesKnow x v missed m'.reads) (sym same)
    (plexes_logs core.inner.config (inner_sound core v m m none stands) v m m' (goes_logs core.inner.config v m m' goes) missed up (subst (λ (x : Config). PlexesKnow x v missed m.reads) same know))
  where
    same : (wide core).config ≡ core.inner.config
    same = config_is core v m m none stands
