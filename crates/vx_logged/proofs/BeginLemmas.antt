-- The maps of plexes that fell out of use in a call, as they begin.
use Rattle.std.proofs.Common.{[], ◌≡◌, ◌∙◌, ◌⊎◌, inl, inr, ℕ, ◌+◌, ◌/◌, ◌<◌, ◌≤◌, Bool, true, false, Option, Some, None, List, IsTrue, length, replicate, set, get_or-set_same, get_or-set_other, length-set, refl, sym, ap, subst, arith, is_some}
use Rattle.std.specs.Prelude.{◌&&◌, ◌||◌, ◌*◌, ◌%◌, not, slice_index}
use Rattle.std.proofs.lemmas.Bool.{cases_eq, cases_lt, eqb-true, not-false}
use Rattle.std.proofs.lemmas.List.{get_or-replicate, get_or_past, length-replicate}
use Rattle.vx_bitmap.specs.Bits.{is_among, is_marked}
use Rattle.vx_config.specs.Checks.{blocks_of as blocks_in, is_sound}
use Rattle.vx_config.specs.declared.config.Config.{Config}
use Rattle.vx_disk.specs.Counts.{Rose}
use Rattle.vx_disk.specs.Shelf.{Goes, Meaning}
use Rattle.vx_drl.specs.Dirty.{Dirty}
use Rattle.vx_fmr.specs.Missed.{Missed, has_missed}
use Rattle.vx_group.specs.Holding.{wide}
use Rattle.vx_group.specs.declared.group_core.GroupCore.{GroupCore}
use Rattle.vx_group.proofs.DetachLemmas.{zero_bit}
use Rattle.vx_grouplogs.specs.Covering.{OnLogs}
use Rattle.vx_grouplogs.specs.Gone.{LogsDrop}
use Rattle.vx_grouplogs.specs.On.{VolumeOn}
use Rattle.vx_group.specs.Settles.{ReadsOne}
use Rattle.vx_grouplogs.proofs.GoneLemmas.{drops_of}
use Rattle.vx_grouplogs.proofs.KnowActs.{know_logs, logs_off_plex}
use Rattle.vx_grouplogs.proofs.MapLemmas.{goes_logs, maps_logs}
use Rattle.vx_groupmaps.specs.Beginning.{EmptyEnds, MapEmptied}
use Rattle.vx_groupmaps.specs.Knowing.{MapsKnowBy, MapsNote, PlexesKnow}
use Rattle.vx_groupmaps.specs.Missing.{OnMaps, or_run, or_spared}
use Rattle.vx_groupmaps.proofs.BetweenLemmas.{goes_reads}
use Rattle.vx_groupmaps.proofs.KnowLemmas.{knows_stay, plex_below, read_old}
use Rattle.vx_groupmaps.proofs.MapPlaces.{region_low}
use Rattle.vx_layout.specs.Places.{HasBlock, place}
use Rattle.vx_logs.specs.Held.{LogsFit}
use Rattle.vx_logs.specs.Noting.{this_plex}
use Rattle.vx_logs.specs.declared.logs.Logs.{Logs}
use Rattle.vx_volume.specs.Plexes.{active}
use Rattle.vx_volume.proofs.PlaceLemmas.{has_of}
use Rattle.vx_logged.specs.Begun.{ReadsWhole, MapsBut, MapsOff, NotesBut, ReadsBut, fell_now, was_on}
use Rattle.vx_logged.specs.Behind.{none_missing}
use Rattle.vx_logged.specs.Logged.{EachOn}

-- ---- a list of plexes

-- of those below n it is noted
pub record ActivesTo (c : Config) (v n : ℕ) (was : List Bool) : Type 0 where
  pub long : length was ≡ 8
  pub some : (p : ℕ) → was_on was p ≡ true → active c v p ≡ true
  pub all : (p : ℕ) → p < n → active c v p ≡ true → was_on was p ≡ true

no_active : (p : ℕ) → was_on (replicate 8 false) p ≡ false
no_active p = by p (cases_lt p 8)
  where
    by : (p : ℕ) → (p < 8) ⊎ (8 ≤ p) → was_on (replicate 8 false) p ≡ false
    by p (inl low) = get_or-replicate {A = Bool} 8 p false false low
    by p (inr high) = get_or_past (replicate 8 false) p false (let long = length-replicate {A = Bool} 8 false in omega (arith, long, high))

pub actives_none : (c : Config) (v : ℕ) → ActivesTo c v 0 (replicate 8 false)
actives_none c v = record {
  long = length-replicate {A = Bool} 8 false;
  some = λ p is. absurd (let clash : false ≡ true = sym (no_active p) ∙ is in cc);
  all = λ p lt on. absurd (omega (arith, lt));
}

pub actives_one : (c : Config) (v n : ℕ) (was : List Bool) (to : Bool) → n < 8 → to ≡ active c v n → ActivesTo c v n was → ActivesTo c v (n + 1) (set was n to)
actives_one c v n was to lt is it = record {
  long = length-set was n to ∙ it.long;
  some = λ p on. elim (cases_eq p n) [
    | inl same ↦ subst (λ (q : ℕ). active c v q ≡ true) (sym same) (sym is ∙ sym here ∙ subst (λ (q : ℕ). was_on (set was n to) q ≡ true) same on)
    | inr apart ↦ it.some p (sym (other p apart) ∙ on)
  ];
  all = λ p below on. elim (cases_eq p n) [
    | inl same ↦ subst (λ (q : ℕ). was_on (set was n to) q ≡ true) (sym same) (here ∙ is ∙ subst (λ (q : ℕ). active c v q ≡ true) same on)
    | inr apart ↦ other p apart ∙ it.all p (omega (arith, below, apart)) on
  ];
}
  where
    here : was_on (set was n to) n ≡ to
    here = get_or-set_same was n to false (let long = it.long in omega (arith, lt, long))

    other : (p : ℕ) → (p ≡ n → ⊥) → was_on (set was n to) p ≡ was_on was p
    other p apart = get_or-set_other was n p to false apart

-- ---- what plexes read

no_mark : (n : ℕ) → is_marked [] n ≡ false
no_mark n = zero_bit (slice_index [] (n / 8)) (n % 8) refl

left_clear : (a b : Bool) → a || b ≡ false → a ≡ false
left_clear true b is = absurd (let clash : true ≡ false = is in cc)
left_clear false b is = refl

or_swap : (a b : Bool) → a || b ≡ false → b || a ≡ false
or_swap true b is = absurd (let clash : true ≡ false = is in cc)
or_swap false true is = absurd (let clash : true ≡ false = is in cc)
or_swap false false is = refl

-- whatever regions are missed, plexes that read alike out of them go on to do so
pub plexes_each : (c d : GroupCore) (v : ℕ) (m m' : Meaning) → EachOn c d m m' → (missed : ℕ → ℕ → Bool) → (IsTrue m'.down → ⊥) → PlexesKnow (wide c).config v missed m.reads → PlexesKnow (wide d).config v missed m'.reads
plexes_each c d v m m' each missed up know = record {
  so = λ p q b x y has on inside clear at_p at_q. after.so p q b x y has on inside (ap (λ (t : Bool). t || has_missed none p (b / 64)) clear ∙ no_mark (p * 0 + b / 64)) at_p at_q;
}
  where
    none : Missed
    none = record { map = record { unit = 0; first = 0; bytes = [] }; plexes = 0; stride = 0; regions = 0 }

    maps : Logs
    maps = record { drl = None; fmr = Some none }

    before : MapsKnowBy (wide c).config v missed maps m
    before = record { so = λ f is up. record { so = λ p q b x y has on inside clear at_p at_q. know.so p q b x y has on inside (left_clear (missed p (b / 64)) (has_missed f p (b / 64)) clear) at_p at_q } }

    after : PlexesKnow (wide d).config v (or_spared missed (has_missed none)) m'.reads
    after = (each.maps v missed maps before).so none refl up

-- beside calls on logs
pub plexes_logs : (c : Config) → is_sound c ≡ true → (v : ℕ) (m m' : Meaning) → Goes (OnLogs c v) m m' → (missed : ℕ → ℕ → Bool) → (IsTrue m'.down → ⊥) → PlexesKnow c v missed m.reads → PlexesKnow c v missed m'.reads
plexes_logs c sound v m m' goes missed up know =
    knows_stay c sound v (OnLogs c v) m m' (goes_reads (OnLogs c v) m m' goes) up missed missed (λ p b has inside clear. clear) (λ p b x has on. logs_off_plex c sound v v p b x has on) know

pub plexes_one : (c : Config) (v : ℕ) (m : Meaning) → ReadsOne c v m → PlexesKnow c v (λ p r. not (active c v p)) m.reads
plexes_one c v m one = record {
  so = λ p q b x y has on inside clear at_p at_q. one.one b x y (record { inside = inside; plex = p; is_on = not-false (active c v p) clear; value = at_p }) (record { inside = inside; plex = q; is_on = on; value = at_q });
}

-- out of a run, of these plexes
pub but_of : (c : Config) (v first last : ℕ) (these : ℕ → Bool) (m : Meaning) → ((IsTrue m.down → ⊥) → PlexesKnow c v (or_run first last (λ p r. not (these p))) m.reads) → ReadsBut c v these first last m
but_of c v first last these m know = record {
  so = λ up. record { so = λ p q b x y has on inside clear at_p at_q. (know up).so p q b x y has on inside (or_swap (not (these p)) (is_among first last (b / 64)) clear) at_p at_q };
}

-- of fewer plexes
pub but_less : (c : Config) (v first last : ℕ) (these those : ℕ → Bool) (m : Meaning) → ((p : ℕ) → these p ≡ true → those p ≡ true) → ReadsBut c v those first last m → ReadsBut c v these first last m
but_less c v first last these those m less reads = record {
  so = λ up. record { so = λ p q b x y has on inside clear at_p at_q. (reads.so up).so p q b x y has on inside (by (these p) (those p) (is_among first last (b / 64)) (less p) clear) at_p at_q };
}
  where
    by : (s t a : Bool) → (s ≡ true → t ≡ true) → not s || a ≡ false → not t || a ≡ false
    by true t a less clear = ap (λ (x : Bool). not x || a) (less refl) ∙ clear
    by false t a less clear = absurd (let clash : true ≡ false = clear in cc)

-- in each block, of fewer plexes
pub whole_of : (c : Config) (v : ℕ) (these those : ℕ → Bool) (m : Meaning) → ((p : ℕ) → these p ≡ true → those p ≡ true) → ((IsTrue m.down → ⊥) → PlexesKnow c v (λ p r. not (those p)) m.reads) → ReadsWhole c v these m
whole_of c v these those m less reads = record {
  so = λ up. record { so = λ p q b x y has on inside clear at_p at_q. (reads up).so p q b x y has on inside (ap not (less p (not-false (these p) clear))) at_p at_q };
}

-- ---- maps behind calls

pub but_note : (fell those : ℕ → Bool) (first last : ℕ) (l k : Logs) → MapsNote those first last l k → MapsBut fell those first last l k
but_note fell those first last l k it = record {
  gone = it.gone;
  each = λ f g is at. let one = it.each f g is at in record { shape = one.shape; stay = λ p r lt low off on. one.stay p r lt low on; only = one.only };
}

pub but_more : (fell fall a b : ℕ → Bool) (first last : ℕ) (l k : Logs) → ((p : ℕ) → fell p ≡ true → fall p ≡ true) → ((p : ℕ) → a p ≡ true → b p ≡ true) → MapsBut fell a first last l k → MapsBut fall b first last l k
but_more fell fall a b first last l k wide more it = record {
  gone = it.gone;
  each = λ f g is at. let one = it.each f g is at in record {
    shape = one.shape;
    stay = λ p r lt low off on. one.stay p r lt low (by (fell p) (fall p) (wide p) off) on;
    only = λ p r lt low on. elim (one.only p r lt low on) [ inl was ↦ inl was | inr now ↦ inr (more p now.0, now.1, now.2) ];
  };
}
  where
    by : (s t : Bool) → (s ≡ true → t ≡ true) → t ≡ false → s ≡ false
    by true t wide off = absurd (let clash : true ≡ false = sym (wide refl) ∙ off in cc)
    by false t wide off = refl

pub but_then : (fell those : ℕ → Bool) (first last : ℕ) (l k j : Logs) → MapsBut fell those first last l k → MapsBut fell those first last k j → MapsBut fell those first last l j
but_then fell those first last l k j one two = record { gone = λ is. two.gone (one.gone is); each = λ f h is at. by k.fmr refl f h is at }
  where
    by : (o : Option Missed) → k.fmr ≡ o → (f h : Missed) → l.fmr ≡ Some f → j.fmr ≡ Some h → NotesBut fell those first last f h
    by None none f h is at = absurd (let clash : None ≡ Some h = sym (two.gone none) ∙ at in cc)
    by (Some g) mid f h is at =
        let a = one.each f g is mid in
        let b = two.each g h mid at in
        record {
          shape = record { plexes = b.shape.plexes ∙ a.shape.plexes; stride = b.shape.stride ∙ a.shape.stride; regions = b.shape.regions ∙ a.shape.regions };
          stay = λ p r lt low off on. b.stay p r (omega (arith, lt, a.shape.plexes)) (omega (arith, low, a.shape.stride)) off (a.stay p r lt low off on);
          only = λ p r lt low on. elim (b.only p r (omega (arith, lt, a.shape.plexes)) (omega (arith, low, a.shape.stride)) on) [
            | inl was ↦ a.only p r lt low was
            | inr now ↦ inr now
          ];
        }

-- no plex noted a region: so it is of each run
pub but_any : (fell those : ℕ → Bool) (first last : ℕ) (l k : Logs) → MapsBut fell none_missing 0 0 l k → MapsBut fell those first last l k
but_any fell those first last l k it = record {
  gone = it.gone;
  each = λ f g is at. let one = it.each f g is at in record {
    shape = one.shape;
    stay = one.stay;
    only = λ p r lt low on. elim (one.only p r lt low on) [ inl was ↦ inl was | inr now ↦ absurd (let clash : false ≡ true = now.0 in cc) ];
  };
}

pub but_none : (fell those : ℕ → Bool) (first last : ℕ) (l k : Logs) → k.fmr ≡ None → MapsBut fell those first last l k
but_none fell those first last l k none = record { gone = λ is. none; each = λ f g is at. absurd (let clash : None ≡ Some g = sym none ∙ at in cc) }

pub off_none : (these : ℕ → Bool) (k : Logs) → k.fmr ≡ None → MapsOff these k
off_none these k none = record { none = λ f is. absurd (let clash : None ≡ Some f = sym none ∙ is in cc) }

-- ---- one map that begins

-- logs of which the dirty region log is this one
pub drl_on : (c : Config) (v : ℕ) (l k : Logs) (m : Meaning) → k.drl ≡ l.drl → VolumeOn c v (record { drl = l.drl; fmr = k.fmr }) m → VolumeOn c v k m
drl_on c v l k m same on = subst (λ (o : Option Dirty). VolumeOn c v (record { drl = o; fmr = k.fmr }) m) (sym same) on

module _ (c : Config) (sound : is_sound c ≡ true) (v : ℕ) (some : 0 < blocks_in c.volumes v) (plex : ℕ) (l k : Logs) (m m' : Meaning) (goes : Goes (OnMaps c v) m m') (fits : LogsFit c v l) (gone : Bool) (ends : EmptyEnds plex gone l.fmr k.fmr m m') where
  clear_of : (p b : ℕ) (x : List ℕ) → HasBlock c v p b → OnMaps c v (place c v p b).0 (place c v p b).1 x → ⊥
  clear_of p b x has on = logs_off_plex c sound v v p b x has (maps_logs c v (place c v p b).0 (place c v p b).1 x on)

  pub plex_knows : (spare missed : ℕ → ℕ → Bool) → ((r : ℕ) → spare plex r ≡ false → missed plex r ≡ false) → ((IsTrue m.down → ⊥) → PlexesKnow c v missed m.reads) → MapsKnowBy c v spare l m → MapsKnowBy c v spare k m'
  plex_knows spare missed less reads know = record { so = λ g is up. by g up l.fmr k.fmr refl is ends }
    where
      known : (f g : Missed) → l.fmr ≡ Some f → (IsTrue m'.down → ⊥) → MapEmptied plex f g m m' → PlexesKnow c v (or_spared spare (has_missed g)) m'.reads
      known f g at up it = record {
        so = λ p q b x y has on inside clear at_p at_q. elim (cases_eq p plex) [
          | inl same ↦ (
              let old_p = read_old c sound v (OnMaps c v) m m' (goes_reads (OnMaps c v) m m' goes) up p b x has (clear_of p b x has) at_p in
              let has_q = has_of c v q b on inside in
              let old_q = read_old c sound v (OnMaps c v) m m' (goes_reads (OnMaps c v) m m' goes) up q b y has_q (clear_of q b y has_q) at_q in
              let free = left_clear (spare p (b / 64)) (has_missed g p (b / 64)) clear in
              (reads (λ down. up (goes.falls down))).so p q b x y has on inside (subst (λ (n : ℕ). spare n (b / 64) ≡ false → missed n (b / 64) ≡ false) (sym same) (less (b / 64)) free) old_p old_q
              )
          | inr other ↦ (
              let low = plex_below c v p b has in
              let many = (fits.fmr f at).plexes in
              let bit = it.others.each p (b / 64) (omega (arith, low, many)) (region_low c sound v some f (fits.fmr f at) b inside) other in
              ((know_logs c sound v m m' (goes_logs c v m m' goes) v spare l know).so f at up).so p q b x y has on inside (ap (λ (t : Bool). spare p (b / 64) || t) (sym bit) ∙ clear) at_p at_q
              )
        ];
      }

      by : (g : Missed) → (IsTrue m'.down → ⊥) → (o n : Option Missed) → l.fmr ≡ o → n ≡ Some g → EmptyEnds plex gone o n m m' → PlexesKnow c v (or_spared spare (has_missed g)) m'.reads
      by g up None None at is ends = absurd cc
      by g up None (Some h) at is ends = absurd ends
      by g up (Some f) None at is ends = absurd cc
      by g up (Some f) (Some h) at is ends = let same : h ≡ g = cc in subst (λ (x : Missed). PlexesKnow c v (or_spared spare (has_missed x)) m'.reads) same (known f h at up ends.1)

  pub plex_off : MapsOff (this_plex plex) k
  plex_off = record { none = λ g is. by g l.fmr k.fmr is ends }
    where
      here : (f h : Missed) → MapEmptied plex f h m m' → (p r : ℕ) → p < h.plexes → r < h.stride → this_plex plex p ≡ true → has_missed h p r ≡ false
      here f h it p r lt low this =
          let shape = it.same.shape in
          subst (λ (n : ℕ). has_missed h n r ≡ false) (sym (eqb-true p plex this)) (it.none r (omega (arith, low, shape.stride)))

      by : (g : Missed) (o n : Option Missed) → n ≡ Some g → EmptyEnds plex gone o n m m' → (p r : ℕ) → p < g.plexes → r < g.stride → this_plex plex p ≡ true → has_missed g p r ≡ false
      by g None None is ends = absurd cc
      by g None (Some h) is ends = absurd ends
      by g (Some f) None is ends = absurd cc
      by g (Some f) (Some h) is ends = let same : h ≡ g = cc in subst (λ (x : Missed). (p r : ℕ) → p < x.plexes → r < x.stride → this_plex plex p ≡ true → has_missed x p r ≡ false) same (here f h ends.1)

  pub plex_but : (these : ℕ → Bool) → these plex ≡ true → MapsBut these none_missing 0 0 l k
  plex_but these this = record { gone = λ none. by_none l.fmr k.fmr none ends; each = λ f g is at. by f g l.fmr k.fmr is at ends }
    where
      by_none : (o n : Option Missed) → o ≡ None → EmptyEnds plex gone o n m m' → n ≡ None
      by_none None None is ends = refl
      by_none None (Some h) is ends = absurd ends
      by_none (Some f) n is ends = absurd (let clash : Some f ≡ None = is in cc)

      more : (f h : Missed) → MapEmptied plex f h m m' → NotesBut these none_missing 0 0 f h
      more f h it = record {
        shape = it.same.shape;
        stay = λ p r lt low off on. it.others.each p r lt low (λ same. let clash : true ≡ false = sym this ∙ subst (λ (q : ℕ). these q ≡ false) same off in cc) ∙ on;
        only = λ p r lt low on. elim (cases_eq p plex) [
          | inl same ↦ absurd (let clash : false ≡ true = sym (it.none r low) ∙ subst (λ (q : ℕ). has_missed h q r ≡ true) same on in cc)
          | inr other ↦ inl (sym (it.others.each p r lt low other) ∙ on)
        ];
      }

      by : (f g : Missed) (o n : Option Missed) → o ≡ Some f → n ≡ Some g → EmptyEnds plex gone o n m m' → NotesBut these none_missing 0 0 f g
      by f g None n is at ends = absurd cc
      by f g (Some e) None is at ends = absurd cc
      by f g (Some e) (Some h) is at ends =
          let old : e ≡ f = cc in
          let new : h ≡ g = cc in
          subst (λ (x : Missed). NotesBut these none_missing 0 0 x g) old (subst (λ (y : Missed). NotesBut these none_missing 0 0 e y) new (more e h ends.1))

  pub plex_drops : k.drl ≡ l.drl → LogsDrop c v l k m m'
  plex_drops same = drops_of c v l k m m' fits
      (λ d is none. absurd (let clash : Some d ≡ None = sym is ∙ sym same ∙ none in cc)) (λ has. sym (ap is_some same) ∙ has)
      (λ f is none. lost f l.fmr k.fmr is none ends) (there l.fmr k.fmr ends)
    where
      lost : (f : Missed) (o n : Option Missed) → o ≡ Some f → n ≡ None → EmptyEnds plex gone o n m m' → Rose (m.faults f.map.unit) (m'.faults f.map.unit) ⊎ IsTrue m'.down
      lost f None n is none ends = absurd cc
      lost f (Some e) None is none ends = let same : e ≡ f = cc in inl (subst (λ (x : Missed). Rose (m.faults x.map.unit) (m'.faults x.map.unit)) same ends.1)
      lost f (Some e) (Some g) is none ends = absurd cc

      there : (o n : Option Missed) → EmptyEnds plex gone o n m m' → is_some n ≡ true → is_some o ≡ true
      there None None ends has = has
      there None (Some g) ends has = absurd ends
      there (Some f) n ends has = refl

-- a plex that fell is one of the list
pub first_flag : (was : List Bool) (core : GroupCore) (v p : ℕ) → fell_now was core v p ≡ true → was_on was p ≡ true
first_flag was core v p fell = by (was_on was p) (not (active core.inner.config v p)) fell
  where
    by : (a b : Bool) → (a && b) ≡ true → a ≡ true
    by true b is = refl
    by false b is = absurd (let clash : false ≡ true = is in cc)
