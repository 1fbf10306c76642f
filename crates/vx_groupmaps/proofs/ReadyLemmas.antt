-- The maps of the plexes that are ACTIVE, emptied one after the other.
use Rattle.std.proofs.Common.{◌≡◌, ◌∙◌, inl, inr, ⊎_elim, ℕ, ◌+◌, ◌<◌, ◌≤◌, Bool, true, false, Option, Some, None, IsTrue, refl, sym, ap, subst, arith}
use Rattle.std.specs.Prelude.{Err}
use Rattle.std.proofs.lemmas.Bool.{cases_eq}
use Rattle.vx_config.specs.Checks.{blocks_of as blocks_in, is_sound}
use Rattle.vx_config.specs.declared.config.Config.{Config}
use Rattle.vx_disk.specs.Counts.{Rose}
use Rattle.vx_disk.specs.Shelf.{Goes, Meaning, Or}
use Rattle.vx_disk.proofs.Causing.{Rose_before}
use Rattle.vx_disk.proofs.Runs.{both_Goes, same_Goes, weaker}
use Rattle.vx_fmr.specs.Missed.{Missed, has_missed}
use Rattle.vx_logs.specs.Held.{LogsFit, LogsStand}
use Rattle.vx_logs.specs.Noting.{SameFmr}
use Rattle.vx_logs.specs.declared.logs.Logs.{Logs}
use Rattle.vx_model.specs.declared.no.No.{No}
use Rattle.vx_model.specs.declared.no.No.TheVariants as refusal
use Rattle.vx_volume.specs.Plexes.{active}
use Rattle.vx_volume.proofs.PlaceLemmas.{active_below, active_few}
use Rattle.vx_groupmaps.specs.Beginning.{EmptyAnswers, EmptyEnds, IsMapEmpty}
use Rattle.vx_groupmaps.specs.Missing.{MapsCoverBy, MapsReady, OnMaps, by_map}
use Rattle.vx_groupmaps.specs.Readying.{ReadyAnswers, ReadyEnds}
use Rattle.vx_groupmaps.proofs.MapPlaces.{active_unmapped, maps_kept}

-- the maps of the ACTIVE plexes below this one are empty
pub record ReadyBelow (c : Config) (v n : ℕ) (l : Logs) : Type 0 where
  pub so : (f : Missed) → l.fmr ≡ Some f → (p r : ℕ) → p < n → IsTrue (active c v p) → r < f.stride → has_missed f p r ≡ false

-- what the loop over the plexes keeps
pub record Readying (c : Config) (v n : ℕ) (l l' : Logs) (m m' : Meaning) : Type 0 where
  pub goes : Goes (OnMaps c v) m m'
  pub drl : l'.drl ≡ l.drl
  pub fits : LogsFit c v l'
  pub below : ReadyBelow c v n l'
  pub ends : ReadyEnds c v false l.fmr l'.fmr m m'
  pub up : IsTrue m'.down → IsTrue m.down
  pub stands : LogsStand l m → LogsStand l' m'
  pub covers : (spare : ℕ → ℕ → Bool) → MapsCoverBy c v spare l m → MapsCoverBy c v spare l' m'
  pub ready : MapsReady c v l → MapsReady c v l'

same_ends : (c : Config) (v : ℕ) (o : Option Missed) (m : Meaning) → ReadyEnds c v false o o m m
same_ends c v None m = refl
same_ends c v (Some f) m = (refl, record { same = record { place = record { unit = refl; first = refl; long = refl }; shape = record { plexes = refl; stride = refl; regions = refl } }; off = λ p r lt low is. refl })

pub ready_start : (c : Config) (v : ℕ) (l : Logs) (m : Meaning) → LogsFit c v l → Readying c v 0 l l m m
ready_start c v l m fits = record {
  goes = same_Goes (OnMaps c v) m;
  drl = refl;
  fits = fits;
  below = record { so = λ f is p r lt on low. absurd (omega (arith, lt)) };
  ends = same_ends c v l.fmr m;
  up = λ down. down;
  stands = λ stand. stand;
  covers = λ spare cover. cover;
  ready = λ ready. ready;
}

-- a plex that is not ACTIVE
pub ready_pass : (c : Config) (v n : ℕ) (l l' : Logs) (m m' : Meaning) → active c v n ≡ false → Readying c v n l l' m m' → Readying c v (n + 1) l l' m m'
ready_pass c v n l l' m m' off it = record {
  goes = it.goes;
  drl = it.drl;
  fits = it.fits;
  below = record {
    so = λ f is p r lt on low. elim (cases_eq p n) [
      | inl at ↦ absurd (let clash : true ≡ false = sym on ∙ ap (λ (q : ℕ). active c v q) at ∙ off in cc)
      | inr other ↦ it.below.so f is p r (omega (arith, lt, other)) on low
    ];
  };
  ends = it.ends;
  up = it.up;
  stands = it.stands;
  covers = it.covers;
  ready = it.ready;
}

pub same_then : (f g h : Missed) → SameFmr f g → SameFmr g h → SameFmr f h
same_then f g h one two = record {
  place = record { unit = two.place.unit ∙ one.place.unit; first = two.place.first ∙ one.place.first; long = two.place.long ∙ one.place.long };
  shape = record { plexes = two.shape.plexes ∙ one.shape.plexes; stride = two.shape.stride ∙ one.shape.stride; regions = two.shape.regions ∙ one.shape.regions };
}

-- one map more is emptied
module _ (c : Config) (sound : is_sound c ≡ true) (v n : ℕ) (on : IsTrue (active c v n)) (l l1 : Logs) (m m1 m2 : Meaning) (it : Readying c v n l l1 m m1) (goes : Goes (OnMaps c v) m1 m2) where
  pub two_go : Goes (OnMaps c v) m m2
  two_go = weaker (Or (OnMaps c v) (OnMaps c v)) (OnMaps c v) m m2 (both_Goes (OnMaps c v) (OnMaps c v) m m1 m2 it.goes goes) (λ u b x. ⊎_elim (λ one. one) (λ two. two))

  ends_then : (gone : Bool) (a b d : Option Missed) → ReadyEnds c v false a b m m1 → EmptyEnds n gone b d m1 m2 → ReadyEnds c v gone a d m m2
  ends_then gone None None None one two = two
  ends_then gone None None (Some h) one two = absurd two
  ends_then gone None (Some g) d one two = absurd one
  ends_then gone (Some f) None d one two = absurd (let clash : false ≡ true = one.0 in cc)
  ends_then gone (Some f) (Some g) None one two =
      let unit = one.1.same.place.unit in
      let rose = subst (λ (u : ℕ). Rose (m1.faults u) (m2.faults u)) unit two.1 in
      (two.0, Rose_before (m.faults f.map.unit) (m1.faults f.map.unit) (m2.faults f.map.unit) (it.goes.faults f.map.unit) rose)
  ends_then gone (Some f) (Some g) (Some h) one two = (
    two.0,
    record {
      same = same_then f g h one.1.same two.1.same;
      off = λ p r lt low is.
          let other : p ≡ n → ⊥ = λ at. let clash : true ≡ false = sym on ∙ ap (λ (q : ℕ). active c v q) (sym at) ∙ is in cc in
          two.1.others.each p r (omega (arith, lt, one.1.same.shape.plexes)) (omega (arith, low, one.1.same.shape.stride)) other ∙ one.1.off p r lt low is;
    },
  )

  pub answers_then : (l2 : Logs) (gone : Bool) → EmptyEnds n gone l1.fmr l2.fmr m1 m2 × (IsTrue m2.down → IsTrue m1.down) → ReadyEnds c v gone l.fmr l2.fmr m m2 × (IsTrue m2.down → IsTrue m.down)
  answers_then l2 gone two = (ends_then gone l.fmr l1.fmr l2.fmr it.ends two.0, λ down. it.up (two.1 down))

  module _ (l2 : Logs) (two : EmptyEnds n false l1.fmr l2.fmr m1 m2 × (IsTrue m2.down → IsTrue m1.down)) (drl : l2.drl ≡ l1.drl) (fits : LogsFit c v l2)
      (stands : LogsStand l1 m1 → LogsStand l2 m2) (covers : (spare : ℕ → ℕ → Bool) → by_map c v n ≡ false → MapsCoverBy c v spare l1 m1 → MapsCoverBy c v spare l2 m2) (ready : MapsReady c v l1 → MapsReady c v l2) where
    below_then : (g : Missed) (p r : ℕ) → p < n + 1 → IsTrue (active c v p) → (o k : Option Missed) → l1.fmr ≡ o → k ≡ Some g → EmptyEnds n false o k m1 m2 → r < g.stride → has_missed g p r ≡ false
    below_then g p r lt is_on None None at is ends = absurd cc
    below_then g p r lt is_on None (Some h) at is ends = absurd ends
    below_then g p r lt is_on (Some f) None at is ends = absurd cc
    below_then g p r lt is_on (Some f) (Some h) at is ends =
        let same : h ≡ g = cc in
        subst (λ (x : Missed). r < x.stride → has_missed x p r ≡ false) same
        (λ low. let here : r < f.stride = omega (arith, low, ends.1.same.shape.stride) in
        elim (cases_eq p n) [
          | inl is ↦ subst (λ (q : ℕ). has_missed h q r ≡ false) (sym is) (ends.1.none r here)
          | inr other ↦ ends.1.others.each p r (omega (arith, active_below c sound v p is_on, (it.fits.fmr f at).plexes)) here other ∙ it.below.so f at p r (omega (arith, lt, other)) is_on here
        ])

    pub ready_then : Readying c v (n + 1) l l2 m m2
    ready_then = record {
      goes = two_go;
      drl = drl ∙ it.drl;
      fits = fits;
      below = record { so = λ g is p r lt is_on low. below_then g p r lt is_on l1.fmr l2.fmr refl is two.0 low };
      ends = ends_then false l.fmr l1.fmr l2.fmr it.ends two.0;
      up = λ down. it.up (two.1 down);
      stands = λ stand. stands (it.stands stand);
      covers = λ spare cover. covers spare (active_unmapped c v n on) (it.covers spare cover);
      ready = λ was. ready (it.ready was);
    }

-- all of them
pub ready_all : (c : Config) → is_sound c ≡ true → (v n : ℕ) (l : Logs) → 8 ≤ n → ReadyBelow c v n l → MapsReady c v l
ready_all c sound v n l le below = record { so = λ f is p r on low. below.so f is p r (omega (arith, active_few c sound v p on, le)) on low }

-- a log that is lost has no map
pub gone_ready : (c : Config) (v n : ℕ) (gone : Bool) (o k : Option Missed) (m m' : Meaning) → gone ≡ true → EmptyEnds n gone o k m m' → k ≡ None
gone_ready c v n gone None None m m' is ends = refl
gone_ready c v n gone None (Some g) m m' is ends = absurd ends
gone_ready c v n gone (Some f) None m m' is ends = refl
gone_ready c v n gone (Some f) (Some g) m m' is ends = absurd (let clash : true ≡ false = sym is ∙ ends.0 in cc)

pub none_ready : (c : Config) (v : ℕ) (l : Logs) → l.fmr ≡ None → MapsReady c v l
none_ready c v l none = record { so = λ f is p r on low. absurd (let clash : None ≡ Some f = sym none ∙ is in cc) }

-- the map of a plex that is ACTIVE is empty where all of these are
pub ready_one : (c : Config) → is_sound c ≡ true → (v : ℕ) → 0 < blocks_in c.volumes v → (n : ℕ) (l : Logs) → LogsFit c v l → IsTrue (active c v n) → MapsReady c v l → IsMapEmpty n l.fmr
ready_one c sound v some n l fits on ready = by l.fmr refl
  where
    by : (o : Option Missed) → l.fmr ≡ o → IsMapEmpty n o
    by None is = tt
    by (Some f) is = let kept = maps_kept c sound v some f (fits.fmr f is) in record { each = λ r low high. ready.so f is n r on (omega (arith, high, kept.some, kept.fit)) }

-- a refusal
pub ready_refused : (c : Config) (v n : ℕ) (l l1 l2 : Logs) (m m1 m2 : Meaning) (no : No) → EmptyAnswers n l1.fmr l2.fmr m1 m2 (Err no) → ReadyAnswers c v l l2 m m2 (Err no)
ready_refused c v n l l1 l2 m m1 m2 refusal.Down down = down
ready_refused c v n l l1 l2 m m1 m2 other none = absurd none
