-- What a map knows of a plex stays, and a plex that took its regions by it.
use Rattle.std.proofs.Common.{◌≡◌, inl, inr, ℕ, zero, suc, ◌<◌, ◌≤◌, Bool, true, false, IsTrue, Option, List, length, Result, Ok, Err, refl, ap, sym, ◌∙◌, subst, arith}
use Rattle.std.specs.Prelude.{Some, None, IfOk}
use Rattle.vx_disk.specs.Shelf.{Goes, Meaning}
use Rattle.vx_disk.specs.declared.shelf.ShelfError.{ShelfError}
use Rattle.vx_disk.specs.declared.shelf.ShelfError.TheVariants.{Fault, Down}
use Rattle.vx_disk.proofs.Causing.{Rose_after}
use Rattle.vx_disk.proofs.Runs.{weaker}
use Rattle.vx_model.specs.Sizes.{regions_of}
use Rattle.vx_model.specs.declared.no.No.{No}
use Rattle.vx_model.specs.declared.no.No.TheVariants as refusal
use Rattle.vx_config.specs.Checks.{blocks_of, is_sound}
use Rattle.vx_config.specs.declared.config.Config.{Config}
use Rattle.vx_config.specs.declared.entry.VolumeEntry.{VolumeEntry}
use Rattle.vx_fmr.specs.Missed.{Missed}
use Rattle.vx_layout.specs.Places.{place}
use Rattle.vx_resync.specs.Copies.{FromPlex}
use Rattle.vx_resync.specs.Gathers.{CopyRefused, MissesOnly}
use Rattle.vx_resync.specs.Picks.{FmrReaches, InPicked, missed_or, picked_below}
use Rattle.vx_resync.proofs.GatherLemmas.{misses_later}
use Rattle.vx_volume.specs.Copies.{CopyCause}
use Rattle.vx_volume.specs.Plexes.{Inside, active}
use Rattle.vx_volume.proofs.PlaceLemmas.{apart_of}
use Rattle.vx_volume.proofs.UsesLemmas.{TherePlex}
use Rattle.vx_kept.specs.Groups.{PlacesApart}
use Rattle.vx_kept.specs.Keeping.{SameShape}
use Rattle.vx_kept.proofs.Chosen.{active_volumes, place_volumes}
use Rattle.vx_kept.proofs.Narrower.{stand_apart}
use Rattle.vx_kept.proofs.Steps.{inside_back, inside_same}
use Rattle.vx_group.specs.Attaches.{KnowsMissed, OnMissed, attached, missed_regions, region_count}
use Rattle.vx_group.specs.Blames.{Blames, fault_of}
use Rattle.vx_group.specs.Moves.{Narrows}
use Rattle.vx_group.specs.declared.inner.Inner.{Inner}
use Rattle.vx_group.proofs.OpeningLemmas.{open_on, open_shape, open_sound, open_wider}

-- ---- without a map

pub none_knows : (c : Config) (v p : ℕ) (m : Meaning) → KnowsMissed c v p None m
none_knows c v p m = record { reach = tt; each = λ q is_on. record { same = λ k x y in_it off here there. absurd (let clash : true ≡ false = off in cc) } }

all_regions : (p n : ℕ) → picked_below (missed_or p None) n ≡ n
all_regions p zero = refl
all_regions p (suc n) = let same = all_regions p n in omega (arith, same)

pub count_all : (c : Config) (v p : ℕ) → missed_regions c v p None ≡ region_count c v
count_all c v p = all_regions p (regions_of (blocks_of c.volumes v))

-- ---- another configuration with the same places

module _ (c d : Config) (shape : SameShape d c) (v q p : ℕ) (f : ℕ → Bool) (m : Meaning) where
  pub misses_wide : MissesOnly c v q p f m → MissesOnly d v q p f m
  misses_wide misses = record {
    same = λ k x y in_it off here there.
        misses.same k x y (inside_same d c shape v k in_it) off (subst (λ (r : ℕ × ℕ). m.reads r.0 r.1 x) (shape.place v p k) here) (subst (λ (r : ℕ × ℕ). m.reads r.0 r.1 y) (shape.place v q k) there);
  }

  pub misses_back : MissesOnly d v q p f m → MissesOnly c v q p f m
  misses_back misses = record {
    same = λ k x y in_it off here there.
        misses.same k x y (inside_back d c shape v k in_it) off (subst (λ (r : ℕ × ℕ). m.reads r.0 r.1 x) (sym (shape.place v p k)) here) (subst (λ (r : ℕ × ℕ). m.reads r.0 r.1 y) (sym (shape.place v q k)) there);
  }

-- ---- fewer reads, over the same volumes

pub narrows_reads : (c d : Inner) (m m' : Meaning) → Narrows c d m m' → (IsTrue m'.down → ⊥) → (u b : ℕ) (x : List ℕ) → 512 ≤ b → m'.reads u b x → m.reads u b x
narrows_reads c d m m' narrows up u b x high is = elim (narrows.acts.reads u b x high is) [
  | inl (inl was) ↦ was
  | inl (inr none) ↦ absurd none
  | inr down ↦ absurd (up down)
]

module _ (c d : Config) (v p : ℕ) (f : Option Missed) (m m' : Meaning) (there : TherePlex d v p) (sound : is_sound d ≡ true) (volumes : d.volumes ≡ c.volumes) (less : (u b : ℕ) (x : List ℕ) → 512 ≤ b → m'.reads u b x → m.reads u b x) where
  wide : PlacesApart (attached v p d)
  wide = stand_apart (attached v p d) (open_sound d v p there sound)

  -- its blocks and those of plexes that are ACTIVE lie above the copies of the configuration
  high : (q k : ℕ) → Inside d v k → IsTrue (active (attached v p d) v q) → 512 ≤ (place d v q k).1
  high q k in_it is_on =
      let far : 512 ≤ (place (attached v p d) v q k).1 = wide.above v q k (inside_back (attached v p d) d (open_shape d v p there) v k in_it) is_on in
      let same : (place (attached v p d) v q k).1 ≡ (place d v q k).1 = ap (λ (r : ℕ × ℕ). r.1) ((open_shape d v p there).place v q k) in
      omega (arith, far, same)

  before : (q k : ℕ) (x : List ℕ) → Inside d v k → IsTrue (active (attached v p d) v q) → m'.reads (place d v q k).0 (place d v q k).1 x → m.reads (place c v q k).0 (place c v q k).1 x
  before q k x in_it is_on is = subst (λ (r : ℕ × ℕ). m.reads r.0 r.1 x) (place_volumes d c volumes v q k) (less (place d v q k).0 (place d v q k).1 x (high q k in_it is_on) is)

  inside_c : (k : ℕ) → Inside d v k → Inside c v k
  inside_c k in_it = record {
    volume = subst (λ (vs : List VolumeEntry). v < length vs) volumes in_it.volume;
    within = subst (λ (vs : List VolumeEntry). k < blocks_of vs v) volumes in_it.within;
  }

  pub knows_later : KnowsMissed c v p f m → KnowsMissed d v p f m'
  knows_later knows = record {
    reach = subst (λ (vs : List VolumeEntry). FmrReaches (regions_of (blocks_of vs v)) p f) (sym volumes) knows.reach;
    each = λ q is_on. record {
      same = λ k x y in_it off here at_q.
          (knows.each q (sym (active_volumes d c volumes v q) ∙ is_on)).same k x y (inside_c k in_it) off
          (before p k x in_it (open_on d v p there) here) (before q k y in_it (open_wider d v p there v q is_on) at_q);
    };
  }

-- an answer by another name of its number
pub same_count : {E : Type 0} (a b : ℕ) (r : Result ℕ E) → IfOk r (λ n. n ≡ a) → a ≡ b → IfOk r (λ n. n ≡ b)
same_count a b (Ok n) is same = is ∙ same
same_count a b (Err e) is same = tt

pub missed_volumes : (c d : Config) (v p : ℕ) (f : Option Missed) → d.volumes ≡ c.volumes → missed_regions d v p f ≡ missed_regions c v p f
missed_volumes c d v p f volumes = ap (λ (vs : List VolumeEntry). picked_below (missed_or p f) (regions_of (blocks_of vs v))) volumes

pub count_volumes : (c d : Config) (v p n : ℕ) (f : Option Missed) → d.volumes ≡ c.volumes → n ≡ missed_regions d v p f → n ≡ missed_regions c v p f
count_volumes c d v p n f volumes is = is ∙ missed_volumes c d v p f volumes

-- ---- the copy, over the configuration in which the plex is ACTIVE

-- a block of a region that it has missed
pub picked_goes : (e : Config) (v source p : ℕ) (f : Option Missed) (m m' : Meaning) → Goes (FromPlex e v source (Some p) (InPicked (missed_or p f)) m) m m' → Goes (OnMissed e v p f) m m'
picked_goes e v source p f m m' goes = weaker (FromPlex e v source (Some p) (InPicked (missed_or p f)) m) (OnMissed e v p f) m m' goes
    (λ u b x it. record { put = record { number = it.number; inside = it.inside; at = subst (λ (q : ℕ). place e v q it.number ≡ (u, b)) it.is_target it.at }; missed = it.is_one })

module _ (c : Config) (v source p : ℕ) (f : Option Missed) (m : Meaning) (there : TherePlex c v p) (knows : KnowsMissed c v p f m) (e : Config) (is : e ≡ attached v p c) where
  pub reach_by : FmrReaches (regions_of (blocks_of e.volumes v)) p f
  reach_by = subst (λ (x : Config). FmrReaches (regions_of (blocks_of x.volumes v)) p f) (sym is) (subst (λ (n : ℕ). FmrReaches (regions_of n) p f) (sym ((open_shape c v p there).blocks v)) knows.reach)

  pub misses_by : IsTrue (active c v source) → MissesOnly e v source p (missed_or p f) m
  misses_by from = subst (λ (x : Config). MissesOnly x v source p (missed_or p f) m) (sym is) (misses_wide c (attached v p c) (open_shape c v p there) v source p (missed_or p f) m (knows.each source from))

  pub knows_copied : is_sound c ≡ true → (m' : Meaning) → Goes (FromPlex e v source (Some p) (InPicked (missed_or p f)) m) m m' → (IsTrue m'.down → ⊥) → KnowsMissed c v p f m'
  knows_copied sound m' goes up = record { reach = knows.reach; each = each }
    where
      d : Config
      d = attached v p c

      by : Goes (FromPlex (attached v p c) v source (Some p) (InPicked (missed_or p f)) m) m m'
      by = subst (λ (x : Config). Goes (FromPlex x v source (Some p) (InPicked (missed_or p f)) m) m m') is goes

      each : (q : ℕ) → IsTrue (active c v q) → MissesOnly c v q p (missed_or p f) m'
      each q is_on =
          misses_back c (attached v p c) (open_shape c v p there) v q p (missed_or p f) m'
          (misses_later (attached v p c) v source p (apart_of (attached v p c) (open_sound c v p there sound)) (open_on c v p there) (missed_or p f) m m' by up q (open_wider c v p there v q is_on)
          (misses_wide c (attached v p c) (open_shape c v p there) v q p (missed_or p f) m (knows.each q is_on)))

pub count_by : (c : Config) (v p n : ℕ) (f : Option Missed) → TherePlex c v p → (e : Config) → e ≡ attached v p c → n ≡ picked_below (missed_or p f) (regions_of (blocks_of e.volumes v)) → n ≡ missed_regions c v p f
count_by c v p n f there e is count =
    count ∙ ap (λ (x : Config). picked_below (missed_or p f) (regions_of (blocks_of x.volumes v))) is ∙ ap (λ (k : ℕ). picked_below (missed_or p f) (regions_of k)) ((open_shape c v p there).blocks v)

-- ---- why it failed

pub refused_cause : (T U : Type 0) (c : Config) (v source p : ℕ) (old new : Meaning) (why : No) (error : ShelfError) → error ≡ fault_of why 0 → CopyRefused {T = T} c v source (Some p) old new (Err why) → CopyCause {T = U} c v source p old new (Err error)
refused_cause T U c v source p old new (refusal.Device disk) error is cause = subst (λ (e : ShelfError). CopyCause {T = U} c v source p old new (Err e)) (sym is) cause
refused_cause T U c v source p old new refusal.Down error is down = subst (λ (e : ShelfError). CopyCause {T = U} c v source p old new (Err e)) (sym is) down
refused_cause T U c v source p old new other error is none = absurd none

-- a fault of a call stays one behind another, which leaves the shelf up
pub blames_then : (T U : Type 0) (m m1 m2 : Meaning) (error : ShelfError) → Blames {T = T} m m1 (Err error) → ((u : ℕ) → m1.disk_faults u ≤ m2.disk_faults u) → (IsTrue m1.down → IsTrue m2.down) → (IsTrue m2.down → ⊥) → Blames {T = U} m m2 (Err error)
blames_then T U m m1 m2 (Fault disk) why later falls up = (Rose_after (m.disk_faults disk) (m1.disk_faults disk) (m2.disk_faults disk) why.0 (later disk), up)
blames_then T U m m1 m2 Down down later falls up = falls down
