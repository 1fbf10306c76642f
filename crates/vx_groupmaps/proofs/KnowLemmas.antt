-- What the maps know beside calls that write no block of a plex, and behind marks.
use Rattle.std.proofs.Common.{◌≡◌, ◌∙◌, ◌⊎◌, inl, inr, ℕ, ◌/◌, ◌<◌, ◌≤◌, Bool, true, false, Option, Some, None, List, IsTrue, length, refl, sym, ap, subst, arith}
use Rattle.std.specs.Prelude.{◌&&◌, ◌||◌, if◌then◌else◌, is_some, leb, slice_get}
use Rattle.std.proofs.lemmas.Bool.{and_parts, leb-true}
use Rattle.std.proofs.lemmas.Option.{slice_get_within}
use Rattle.vx_bitmap.specs.Bits.{is_among}
use Rattle.vx_config.specs.Checks.{blocks_of as blocks_in, is_sound, plexes_of, plexes_or}
use Rattle.vx_config.specs.declared.config.Config.{Config}
use Rattle.vx_config.specs.declared.entry.PlexEntry.{PlexEntry}
use Rattle.vx_config.specs.declared.entry.VolumeEntry.{VolumeEntry}
use Rattle.vx_disk.specs.Shelf.{Meaning, Values}
use Rattle.vx_fmr.specs.Missed.{Missed, has_missed}
use Rattle.vx_layout.specs.Places.{HasBlock, has_plex, place, plex_in}
use Rattle.vx_logs.specs.Held.{LogsFit, stale}
use Rattle.vx_logs.specs.Noting.{FmrEnds, FmrNoted}
use Rattle.vx_logs.specs.Writes.{MarkedLogs}
use Rattle.vx_logs.specs.declared.logs.Logs.{Logs}
use Rattle.vx_logs.specs.declared.logs.Lost.{Lost}
use Rattle.vx_volume.specs.Plexes.{Inside}
use Rattle.vx_volume.proofs.PlaceLemmas.{has_of}
use Rattle.vx_groupmaps.specs.Between.{ReadsOr}
use Rattle.vx_groupmaps.specs.Knowing.{MapsKnowBy, MapsNote, NotesMore, PlexesKnow, or_stale, or_those}
use Rattle.vx_groupmaps.specs.Missing.{or_spared}
use Rattle.vx_groupmaps.proofs.BetweenLemmas.{above}
use Rattle.vx_groupmaps.proofs.MapPlaces.{region_low}

-- ---- a plex that there is

pub plex_below : (c : Config) (v p b : ℕ) → HasBlock c v p b → p < plexes_of c v
unfolding has_plex
plex_below c v p b has = by (slice_get c.volumes v) refl
  where
    at_plex : (x : VolumeEntry) → slice_get c.volumes v ≡ Some x → (o : Option PlexEntry) → slice_get x.plexes p ≡ o → is_some o ≡ true → p < plexes_of c v
    at_plex x at None at_p is = absurd (let clash : false ≡ true = is in cc)
    at_plex x at (Some a) at_p is = let count : plexes_of c v ≡ length x.plexes = ap plexes_or at in omega (arith, count, slice_get_within x.plexes p a at_p)

    by : (o : Option VolumeEntry) → slice_get c.volumes v ≡ o → p < plexes_of c v
    by None at = absurd (let clash : false ≡ true = ap (λ (o : Option VolumeEntry). is_some (plex_in o p)) (sym at) ∙ has.plex in cc)
    by (Some x) at = at_plex x at (slice_get x.plexes p) refl (ap (λ (o : Option VolumeEntry). is_some (plex_in o p)) (sym at) ∙ has.plex)

-- ---- calls that write no block of a plex

module _ (c : Config) (sound : is_sound c ≡ true) (v : ℕ) (W : Values) (m m' : Meaning) (reads : ReadsOr W m m') (up : IsTrue m'.down → ⊥) where
  pub read_old : (p b : ℕ) (x : List ℕ) → HasBlock c v p b → (W (place c v p b).0 (place c v p b).1 x → ⊥) → m'.reads (place c v p b).0 (place c v p b).1 x → m.reads (place c v p b).0 (place c v p b).1 x
  read_old p b x has off read = elim (reads.so (place c v p b).0 (place c v p b).1 x (above c sound v p b has) read) [
    | inl (inl was) ↦ was
    | inl (inr now) ↦ absurd (off now)
    | inr down ↦ absurd (up down)
  ]

  -- what is known goes on to be, where no region is missed less
  pub knows_stay : (old new : ℕ → ℕ → Bool) → ((p b : ℕ) → HasBlock c v p b → Inside c v b → new p (b / 64) ≡ false → old p (b / 64) ≡ false) → ((p b : ℕ) (x : List ℕ) → HasBlock c v p b → W (place c v p b).0 (place c v p b).1 x → ⊥)
      → PlexesKnow c v old m.reads → PlexesKnow c v new m'.reads
  knows_stay old new less off know = record {
    so = λ p q b x y has on inside clear at_p at_q.
        let has_q = has_of c v q b on inside in
        know.so p q b x y has on inside (less p b has inside clear) (read_old p b x has (off p b x has) at_p) (read_old q b y has_q (off q b y has_q) at_q);
  }

-- fewer regions that are spared
pub know_less : (c : Config) (v : ℕ) (a b : ℕ → ℕ → Bool) (l : Logs) (m : Meaning) → ((p k : ℕ) → HasBlock c v p k → b p (k / 64) ≡ false → a p (k / 64) ≡ false) → MapsKnowBy c v a l m → MapsKnowBy c v b l m
know_less c v a b l m less know = record {
  so = λ f is up. record {
    so = λ p q k x y has on inside clear at_p at_q. (know.so f is up).so p q k x y has on inside (by (b p (k / 64)) (a p (k / 64)) (has_missed f p (k / 64)) (less p k has) clear) at_p at_q;
  };
}
  where
    by : (s t w : Bool) → (s ≡ false → t ≡ false) → s || w ≡ false → t || w ≡ false
    by true t w fewer clear = absurd (let clash : true ≡ false = clear in cc)
    by false true w fewer clear = absurd (let clash : true ≡ false = fewer refl in cc)
    by false false w fewer clear = clear

-- ---- one bit

-- a region that is not noted behind a note was not, and is none of the run of a plex that noted it
unnoted : (t a w h s : Bool) → h ≡ (if t then (a || w) else w) → s || h ≡ false → ((t && a) || s) || w ≡ false
unnoted t a w h true is clear = absurd (let clash : true ≡ false = clear in cc)
unnoted true true w h false is clear = absurd (let clash : true ≡ false = sym is ∙ clear in cc)
unnoted true false true h false is clear = absurd (let clash : true ≡ false = sym is ∙ clear in cc)
unnoted true false false h false is clear = refl
unnoted false a true h false is clear = absurd (let clash : true ≡ false = sym is ∙ clear in cc)
unnoted false a false h false is clear = refl

noted_or : (t a w h : Bool) → h ≡ (if t then (a || w) else w) → h ≡ true → (w ≡ true) ⊎ ((t ≡ true) × (a ≡ true))
noted_or t a true h is on = inl refl
noted_or true true false h is on = inr (refl, refl)
noted_or true false false h is on = absurd (let clash : true ≡ false = sym on ∙ is in cc)
noted_or false a false h is on = absurd (let clash : true ≡ false = sym on ∙ is in cc)

noted_still : (t a w h : Bool) → h ≡ (if t then (a || w) else w) → w ≡ true → h ≡ true
noted_still true true w h is on = is
noted_still true false w h is on = is ∙ on
noted_still false a w h is on = is ∙ on

is_among_of : (first last r : ℕ) → is_among first last r ≡ true → (first ≤ r) × (r ≤ last)
is_among_of first last r is = let both = and_parts (leb first r) (leb r last) is in (leb-true first r both.0, leb-true r last both.1)

-- ---- marks

-- of any plexes
module _ (c : Config) (sound : is_sound c ≡ true) (v : ℕ) (some : 0 < blocks_in c.volumes v) (l : Logs) (fits : LogsFit c v l) (W : Values) (m m' : Meaning) (reads : ReadsOr W m m') (off : (p b : ℕ) (x : List ℕ) → HasBlock c v p b → W (place c v p b).0 (place c v p b).1 x → ⊥)
    (those : ℕ → Bool) (first last : ℕ) (lost : Bool) (l' : Logs) (did : FmrEnds those false first last lost l.fmr l'.fmr m m') where
  -- a plex that there is has a map, with a bit for each region
  map_there : (f : Missed) → l.fmr ≡ Some f → (p b : ℕ) → HasBlock c v p b → p < f.plexes
  map_there f at p b has = let low = plex_below c v p b has in let many = (fits.fmr f at).plexes in omega (arith, low, many)

  -- what the maps know once regions are noted
  pub those_know : (spare : ℕ → ℕ → Bool) → MapsKnowBy c v (or_those those first last spare) l m → MapsKnowBy c v spare l' m'
  those_know spare know = record { so = λ g is up. by g up l.fmr l'.fmr refl is did }
    where
      by : (g : Missed) → (IsTrue m'.down → ⊥) → (o n : Option Missed) → l.fmr ≡ o → n ≡ Some g → FmrEnds those false first last lost o n m m' → PlexesKnow c v (or_spared spare (has_missed g)) m'.reads
      by g up None None at is ends = absurd cc
      by g up None (Some h) at is ends = absurd ends
      by g up (Some f) None at is ends = absurd cc
      by g up (Some f) (Some h) at is ends =
          let same : h ≡ g = cc in
          subst (λ (x : Missed). PlexesKnow c v (or_spared spare (has_missed x)) m'.reads) same
          (knows_stay c sound v W m m' reads up (or_spared (or_those those first last spare) (has_missed f)) (or_spared spare (has_missed h))
          (λ p b has inside clear.
          unnoted (those p) (is_among first last (b / 64)) (has_missed f p (b / 64)) (has_missed h p (b / 64)) (spare p (b / 64))
          (ends.1.notes.each p (b / 64) (map_there f at p b has) (region_low c sound v some f (fits.fmr f at) b inside)) clear)
          off (know.so f at (λ down. up (reads.falls down))))

  -- which regions are noted then
  pub those_noted : MapsNote those first last l l'
  those_noted = record { gone = λ none. by_none l.fmr l'.fmr none did; each = λ f g at is. by f g l.fmr l'.fmr at is did }
    where
      by_none : (o n : Option Missed) → o ≡ None → FmrEnds those false first last lost o n m m' → n ≡ None
      by_none None None is ends = refl
      by_none None (Some g) is ends = absurd ends
      by_none (Some f) n is ends = absurd (let clash : Some f ≡ None = is in cc)

      more : (e h : Missed) → FmrNoted those false first last e h m m' → NotesMore those first last e h
      more e h noted = record {
        shape = noted.same.shape;
        stay = λ p r lt low on. noted_still (those p) (is_among first last r) (has_missed e p r) (has_missed h p r) (noted.notes.each p r lt low) on;
        only = λ p r lt low on. elim (noted_or (those p) (is_among first last r) (has_missed e p r) (has_missed h p r) (noted.notes.each p r lt low) on) [
          | inl was ↦ inl was
          | inr now ↦ (let both = is_among_of first last r now.1 in inr (now.0, both.0, both.1))
        ];
      }

      by : (f g : Missed) (o n : Option Missed) → o ≡ Some f → n ≡ Some g → FmrEnds those false first last lost o n m m' → NotesMore those first last f g
      by f g None n at is ends = absurd cc
      by f g (Some e) None at is ends = absurd cc
      by f g (Some e) (Some h) at is ends =
          let old : e ≡ f = cc in
          let new : h ≡ g = cc in
          subst (λ (x : Missed). NotesMore those first last x g) old (subst (λ (y : Missed). NotesMore those first last e y) new (more e h ends.1))

-- of those that are STALE
module _ (c : Config) (sound : is_sound c ≡ true) (v : ℕ) (some : 0 < blocks_in c.volumes v) (l : Logs) (fits : LogsFit c v l) (W : Values) (m m' : Meaning) (reads : ReadsOr W m m') (off : (p b : ℕ) (x : List ℕ) → HasBlock c v p b → W (place c v p b).0 (place c v p b).1 x → ⊥)
    (first last : ℕ) (lost : Lost) (l' : Logs) (marked : MarkedLogs c v first last lost l l' m m') where
  pub noted_knows : (spare : ℕ → ℕ → Bool) → MapsKnowBy c v (or_stale c v first last spare) l m → MapsKnowBy c v spare l' m'
  noted_knows spare know = those_know c sound v some l fits W m m' reads off (stale c v) first last lost.fmr l' marked.fmr spare know

  pub noted_run : MapsNote (stale c v) first last l l'
  noted_run = those_noted c sound v some l fits W m m' reads off (stale c v) first last lost.fmr l' marked.fmr

-- ---- notes in a row

pub note_none : (those : ℕ → Bool) (first last : ℕ) (l k : Logs) → k.fmr ≡ None → MapsNote those first last l k
note_none those first last l k none = record { gone = λ is. none; each = λ f g is at. absurd (let clash : None ≡ Some g = sym none ∙ at in cc) }

pub note_same : (those : ℕ → Bool) (first last : ℕ) (l k : Logs) → k.fmr ≡ l.fmr → MapsNote those first last l k
note_same those first last l k same = record {
  gone = λ is. same ∙ is;
  each = λ f g is at. let one : f ≡ g = one_map l.fmr f g is (sym same ∙ at) in subst (λ (h : Missed). NotesMore those first last f h) one (record { shape = record { plexes = refl; stride = refl; regions = refl }; stay = λ p r lt low on. on; only = λ p r lt low on. inl on });
}
  where
    one_map : (o : Option Missed) (f g : Missed) → o ≡ Some f → o ≡ Some g → f ≡ g
    one_map o f g one two = let both : Some f ≡ Some g = sym one ∙ two in cc

pub note_more : (a b : ℕ → Bool) (first last : ℕ) (l k : Logs) → ((p : ℕ) → a p ≡ true → b p ≡ true) → MapsNote a first last l k → MapsNote b first last l k
note_more a b first last l k more it = record {
  gone = it.gone;
  each = λ f g is at. let one = it.each f g is at in record {
    shape = one.shape;
    stay = one.stay;
    only = λ p r lt low on. elim (one.only p r lt low on) [ inl was ↦ inl was | inr now ↦ inr (more p now.0, now.1, now.2) ];
  };
}

pub note_then : (those : ℕ → Bool) (first last : ℕ) (l k j : Logs) → MapsNote those first last l k → MapsNote those first last k j → MapsNote those first last l j
note_then those first last l k j one two = record { gone = λ is. two.gone (one.gone is); each = λ f h is at. by k.fmr refl f h is at }
  where
    by : (o : Option Missed) → k.fmr ≡ o → (f h : Missed) → l.fmr ≡ Some f → j.fmr ≡ Some h → NotesMore those first last f h
    by None none f h is at = absurd (let clash : None ≡ Some h = sym (two.gone none) ∙ at in cc)
    by (Some g) mid f h is at =
        let a = one.each f g is mid in
        let b = two.each g h mid at in
        record {
          shape = record { plexes = b.shape.plexes ∙ a.shape.plexes; stride = b.shape.stride ∙ a.shape.stride; regions = b.shape.regions ∙ a.shape.regions };
          stay = λ p r lt low on. b.stay p r (omega (arith, lt, a.shape.plexes)) (omega (arith, low, a.shape.stride)) (a.stay p r lt low on);
          only = λ p r lt low on. elim (b.only p r (omega (arith, lt, a.shape.plexes)) (omega (arith, low, a.shape.stride)) on) [
            | inl was ↦ a.only p r lt low was
            | inr now ↦ inr now
          ];
        }
