-- A run of blocks that is copied, and two such copies in a row.
use Rattle.std.proofs.Common.{◌≡◌, inl, inr, ℕ, ◌+◌, ◌*◌, ◌/◌, ◌<◌, ◌≤◌, ◌^◌, Bool, true, false, List, [], length, refl, ap, sym, ◌∙◌, subst, arith, IsTrue}
use Rattle.std.specs.Prelude.{Option, Some, None, if◌then◌else◌, ◌==◌, ◌-◌, min}
use Rattle.std.proofs.lemmas.Bool.{cases_eq, eq-eqb, eqb-true}
use Rattle.vx_config.specs.Checks.{blocks_of, is_sound}
use Rattle.vx_config.specs.declared.config.Config.{Config}
use Rattle.vx_disk.specs.Shelf.{Goes, Meaning, Nothing, Or, Values, piece}
use Rattle.vx_disk.proofs.Runs.{both_Goes, same_Goes, weaker}
use Rattle.vx_layout.specs.Places.{place}
use Rattle.vx_volume.specs.Plexes.{Apart, Asked, DisksFit, InRun, Inside, RunFits, SomeActive, active}
use Rattle.vx_volume.specs.Volumes.{OnPlex, OnPlexes, PlexFlushed, PlexRead, PlexWrote}
use Rattle.vx_volume.proofs.PlaceLemmas.{apart_of, fits_of}
use Rattle.vx_resync.specs.Copies.{CanCopy, CopiedBelow, FromPlex, LeftAlike, OnTargets, ReadAlike, Resynced, Resyncs, TargetsActive, TargetsFlushed, TargetsWrote}
use Rattle.vx_resync.specs.Picks.{LiesInRegion, InPicked, InPickedBelow}
use Rattle.vx_resync.specs.Sources.{IsSource, Target}
use Rattle.vx_resync.proofs.PickLemmas.{gives_active, more_passed, more_picked, of_run, run_of}

-- ---- what a call needs stands on

pub disks_after : (c : Config) (m m' : Meaning) → m'.units ≡ m.units → ((u : ℕ) → m'.size u ≡ m.size u) → DisksFit c.disks m → DisksFit c.disks m'
disks_after c m m' units size fit = record { there = λ u lt. omega (arith, units, fit.there u lt); size = λ u lt. size u ∙ fit.size u lt }

pub ready_after : (c : Config) (v source : ℕ) (to : Option ℕ) (W : Values) (m m' : Meaning) → Goes W m m' → (IsTrue m'.down → ⊥) → CanCopy c v source to m → CanCopy c v source to m'
ready_after c v source to W m m' goes up ready = record {
  sound = ready.sound;
  volume = ready.volume;
  source_on = ready.source_on;
  targets = ready.targets;
  disks = disks_after c m m' goes.units goes.size ready.disks;
  up = up;
}

module _ (c : Config) (v source : ℕ) (to : Option ℕ) (block n : ℕ) (m : Meaning) (ready : CanCopy c v source to m) (within : block + n ≤ blocks_of c.volumes v) (end : block + n < 2 ^ 64) where
  pub run_in : (k : ℕ) → InRun block n k → Inside c v k
  run_in k run = record { volume = ready.volume; within = let last = run.last in omega (arith, last, within) }

  pub asked_of : (p : ℕ) → IsTrue (active c v p) → Asked c v p block n
  asked_of p is_on = record { inside = run_in; is_on = is_on; sound = ready.sound; end = omega (arith, end) }

  pub run_fits : (p : ℕ) → IsTrue (active c v p) → RunFits c v p block n m
  run_fits p is_on = fits_of c ready.sound v p block n m ready.disks is_on run_in

-- of the one plex that is copied to
pub some_fits : (c : Config) (v p : ℕ) (to : Option ℕ) (block n : ℕ) (m : Meaning) → IsTrue (is_sound c) → to ≡ Some p → v < length c.volumes → block + n ≤ blocks_of c.volumes v → TargetsActive c v to → DisksFit c.disks m → RunFits c v p block n m
some_fits c v p to block n m sound is volume within targets fit =
    fits_of c sound v p block n m fit (targets.each p (subst (λ (t : Option ℕ). Target c v t p) (sym is) refl)) (λ k run. record { volume = volume; within = let last = run.last in omega (arith, last, within) })

-- ---- one run

-- a write of one plex, or of each, as one of those that are copied to
pub put_one_Goes : (c : Config) (v p block n : ℕ) (bytes : List ℕ) (old new : Meaning) → Goes (OnPlex c v p block n bytes) old new → Goes (OnTargets c v (Some p) block n bytes) old new
put_one_Goes c v p block n bytes old new goes = weaker (OnPlex c v p block n bytes) (OnTargets c v (Some p) block n bytes) old new goes (λ u b x put. record { plex = p; is_target = refl; put = put })

pub put_all_Goes : (c : Config) (v block n : ℕ) (bytes : List ℕ) (old new : Meaning) → Goes (OnPlexes c v block n bytes) old new → Goes (OnTargets c v None block n bytes) old new
put_all_Goes c v block n bytes old new goes = weaker (OnPlexes c v block n bytes) (OnTargets c v None block n bytes) old new goes (λ u b x put. record { plex = put.plex; is_target = put.is_on; put = put.put })

pub one_wrote : (c : Config) (v q block n : ℕ) (bytes : List ℕ) (old new : Meaning) → (IsTrue new.down → ⊥) → PlexWrote c v q block n block n bytes old new → TargetsWrote c v (Some q) block n bytes old new
one_wrote c v q block n bytes old new up wrote = record { up = up; each = λ p same. subst (λ (i : ℕ). PlexWrote c v i block n block n bytes old new) (sym same) wrote }

pub one_flushed : (c : Config) (v q : ℕ) (old new : Meaning) → (IsTrue new.down → ⊥) → PlexFlushed c v q old new → TargetsFlushed c v (Some q) old new
one_flushed c v q old new up flushed = record { up = up; each = λ p same. subst (λ (i : ℕ). PlexFlushed c v i old new) (sym same) flushed }

module _ (c : Config) (v source : ℕ) (to : Option ℕ) (P Q : ℕ → Type 0) (m : Meaning) (wide : (k : ℕ) → P k → Q k) where
  pub from_wider : (u b : ℕ) (x : List ℕ) → FromPlex c v source to P m u b x → FromPlex c v source to Q m u b x
  from_wider u b x it = record { number = it.number; plex = it.plex; inside = it.inside; is_target = it.is_target; is_one = wide it.number it.is_one; at = it.at; value = it.value }

  pub goes_wider : (new : Meaning) → Goes (FromPlex c v source to P m) m new → Goes (FromPlex c v source to Q m) m new
  goes_wider new goes = weaker (FromPlex c v source to P m) (FromPlex c v source to Q m) m new goes from_wider

pub alike_less : (c : Config) (v source : ℕ) (to : Option ℕ) (P Q : ℕ → Type 0) (old new : Meaning) → ((k : ℕ) → Inside c v k → Q k → P k) → ReadAlike c v source to P old new → ReadAlike c v source to Q old new
alike_less c v source to P Q old new less alike = record {
  up = alike.up;
  value = alike.value;
  origin = λ k inside is tells. alike.origin k inside (less k inside is) tells;
  copied = λ p k x target inside is read. alike.copied p k x target inside (less k inside is) read;
}

-- a read, and a write behind it
module _ (c : Config) (v source : ℕ) (to : Option ℕ) (block len : ℕ) (bytes : List ℕ) (same : length bytes ≡ len) (m0 m1 m2 : Meaning) (inside : (k : ℕ) → InRun block (len / 512) k → Inside c v k)
    (read : Goes Nothing m0 m1) (was : PlexRead c v source block block (len / 512) bytes m0) (write : Goes (OnTargets c v to block (length bytes / 512) bytes) m1 m2) where
  abbrev W : Values
  W = OnTargets c v to block (length bytes / 512) bytes

  abbrev P : ℕ → Type 0
  P = InRun block (len / 512)

  as_from : (u b : ℕ) (x : List ℕ) → Or Nothing W u b x → FromPlex c v source to P m0 u b x
  as_from u b x (inl none) = absurd none
  as_from u b x (inr it) =
      let run : InRun block (len / 512) it.put.number = subst (λ (n : ℕ). InRun block (n / 512) it.put.number) same it.put.run in
      record {
        number = it.put.number;
        plex = it.plex;
        inside = inside it.put.number run;
        is_target = it.is_target;
        is_one = run;
        at = it.put.at;
        value = λ tells. subst (λ (y : List ℕ). m0.reads (place c v source it.put.number).0 (place c v source it.put.number).1 y) (sym it.put.value) (was.each tells it.put.number run);
      }

  pub run_goes : Goes (FromPlex c v source to (InRun block (len / 512)) m0) m0 m2
  run_goes = weaker (Or Nothing W) (FromPlex c v source to P m0) m0 m2 (both_Goes Nothing W m0 m1 m2 read write) as_from

  pub run_alike : TargetsWrote c v to block (length bytes / 512) bytes m1 m2 → ReadAlike c v source to (InRun block (len / 512)) m0 m2
  run_alike wrote = record {
    up = wrote.up;
    value = λ k. piece block bytes k;
    origin = λ k in_it run tells. was.each tells k run;
    copied = λ p k x target in_it run is. elim ((wrote.each p target).each k x in_it is) [
      | inl put ↦ put.1
      | inr out ↦ absurd (out.0 (subst (λ (n : ℕ). InRun block (n / 512) k) (sym same) run))
    ];
  }

-- the run of a region
module _ (c : Config) (v source : ℕ) (to : Option ℕ) (region total count n : ℕ) (m m' : Meaning) (is : total ≡ blocks_of c.volumes v) (some : region * 64 < total) (size : count ≡ min (total - region * 64) 64) (long : n ≡ count) where
  pub region_run_goes : Goes (FromPlex c v source to (InRun (region * 64) n) m) m m' → Goes (FromPlex c v source to (LiesInRegion region) m) m m'
  region_run_goes goes = goes_wider c v source to (InRun (region * 64) n) (LiesInRegion region) m (λ k run. of_run c v region total n is some (long ∙ size) k run) m' goes

  pub region_run_alike : ReadAlike c v source to (InRun (region * 64) n) m m' → ReadAlike c v source to (LiesInRegion region) m m'
  region_run_alike alike = alike_less c v source to (InRun (region * 64) n) (LiesInRegion region) m m' (λ k inside has. run_of c v region total n is some (long ∙ size) k inside has) alike

-- ---- two copies in a row

module _ (c : Config) (v source : ℕ) (to : Option ℕ) (apart : Apart c) (source_on : IsTrue (active c v source)) (targets : TargetsActive c v to) (P Q R : ℕ → Type 0) (m0 m1 m2 : Meaning)
    (goes : Goes (FromPlex c v source to P m0) m0 m1) (up : IsTrue m1.down → ⊥) (two : Goes (FromPlex c v source to Q m1) m1 m2) where
  -- the source reads what it read
  source_back : (k : ℕ) (x : List ℕ) → Inside c v k → IsTrue m0.tells → m1.reads (place c v source k).0 (place c v source k).1 x → m0.reads (place c v source k).0 (place c v source k).1 x
  source_back k x inside tells is = elim (goes.reads (place c v source k).0 (place c v source k).1 x is) [
    | inl (inl was) ↦ was
    | inl (inr put) ↦
        let one = apart.one v put.plex put.number v source k put.inside inside (targets.each put.plex put.is_target) source_on put.at in
        subst (λ (j : ℕ). m0.reads (place c v source j).0 (place c v source j).1 x) one.2 (put.value tells)
    | inr down ↦ absurd (up down)
  ]

  module _ (in_p : (k : ℕ) → P k → R k) (in_q : (k : ℕ) → Q k → R k) where
    from_both : (u b : ℕ) (x : List ℕ) → Or (FromPlex c v source to P m0) (FromPlex c v source to Q m1) u b x → FromPlex c v source to R m0 u b x
    from_both u b x (inl it) = from_wider c v source to P R m0 in_p u b x it
    from_both u b x (inr it) = record {
      number = it.number;
      plex = it.plex;
      inside = it.inside;
      is_target = it.is_target;
      is_one = in_q it.number it.is_one;
      at = it.at;
      value = λ tells. source_back it.number x it.inside tells (it.value (goes.tells ∙ tells));
    }

    pub both_goes : Goes (FromPlex c v source to R m0) m0 m2
    both_goes = weaker (Or (FromPlex c v source to P m0) (FromPlex c v source to Q m1)) (FromPlex c v source to R m0) m0 m2 (both_Goes (FromPlex c v source to P m0) (FromPlex c v source to Q m1) m0 m1 m2 goes two) from_both

  -- by a test of which blocks the second one copied
  module _ (one : ReadAlike c v source to P m0 m1) (after : ReadAlike c v source to Q m1 m2) (t : ℕ → Bool) (is_q : (k : ℕ) → R k → t k ≡ true → Q k) (has_q : (k : ℕ) → Q k → t k ≡ true) (is_p : (k : ℕ) → R k → t k ≡ false → P k) where
    origin : (k : ℕ) → Inside c v k → R k → IsTrue m0.tells → (b : Bool) → t k ≡ b → m0.reads (place c v source k).0 (place c v source k).1 (if b then after.value k else one.value k)
    origin k inside is tells true test = source_back k (after.value k) inside tells (after.origin k inside (is_q k is test) (goes.tells ∙ tells))
    origin k inside is tells false test = one.origin k inside (is_p k is test) tells

    copied : (p k : ℕ) (x : List ℕ) → Target c v to p → Inside c v k → R k → m2.reads (place c v p k).0 (place c v p k).1 x → (b : Bool) → t k ≡ b → x ≡ (if b then after.value k else one.value k)
    copied p k x target inside is read true test = after.copied p k x target inside (is_q k is test) read
    copied p k x target inside is read false test = elim (two.reads (place c v p k).0 (place c v p k).1 x read) [
      | inl (inl was) ↦ one.copied p k x target inside (is_p k is test) was
      | inl (inr put) ↦
          let same = apart.one v put.plex put.number v p k put.inside inside (targets.each put.plex put.is_target) (targets.each p target) put.at in
          let there : t k ≡ true = ap t (sym same.2) ∙ has_q put.number put.is_one in
          absurd (let clash : true ≡ false = sym there ∙ test in cc)
      | inr down ↦ absurd (after.up down)
    ]

    pub both_alike : ReadAlike c v source to R m0 m2
    both_alike = record {
      up = after.up;
      value = λ k. if t k then after.value k else one.value k;
      origin = λ k inside is tells. origin k inside is tells (t k) refl;
      copied = λ p k x target inside is read. copied p k x target inside is read (t k) refl;
    }

-- ---- the regions one after the other

pub none_copied : (c : Config) (v source : ℕ) (to : Option ℕ) (f : ℕ → Bool) (m : Meaning) → (IsTrue m.down → ⊥) → CopiedBelow c v source to f 0 0 m m
none_copied c v source to f m up = record {
  goes = same_Goes (FromPlex c v source to (InPickedBelow f 0) m) m;
  alike = record {
    up = up;
    value = λ k. [];
    origin = λ k inside is tells. absurd (let lt = is.below in omega (arith, lt));
    copied = λ p k x target inside is read. absurd (let lt = is.below in omega (arith, lt));
  };
  counted = refl;
  few = omega arith;
}

-- a region that is passed over
pub passed_region : (c : Config) (v source : ℕ) (to : Option ℕ) (f : ℕ → Bool) (n count : ℕ) (old m : Meaning) → CopiedBelow c v source to f n count old m → f n ≡ false → CopiedBelow c v source to f (n + 1) count old m
passed_region c v source to f n count old m so_far off = record {
  goes = goes_wider c v source to (InPickedBelow f n) (InPickedBelow f (n + 1)) old (λ k is. record { below = let lt = is.below in omega (arith, lt); picked = is.picked }) m so_far.goes;
  alike = alike_less c v source to (InPickedBelow f n) (InPickedBelow f (n + 1)) old m (λ k inside is. less k is) so_far.alike;
  counted = more_passed f n count off so_far.counted;
  few = let le = so_far.few in omega (arith, le);
}
  where
    less : (k : ℕ) → InPickedBelow f (n + 1) k → InPickedBelow f n k
    less k is = record {
      below = elim (cases_eq (k / 64) n) [
        | inl same ↦ absurd (let clash : true ≡ false = sym is.picked ∙ ap f same ∙ off in cc)
        | inr other ↦ let lt = is.below in omega (arith, lt, other)
      ];
      picked = is.picked;
    }

-- and one that is copied, or not to its end
module _ (c : Config) (v source : ℕ) (to : Option ℕ) (f : ℕ → Bool) (n count : ℕ) (old m m' : Meaning) (ready : CanCopy c v source to old) (so_far : CopiedBelow c v source to f n count old m) (picked : f n ≡ true)
    (goes : Goes (FromPlex c v source to (LiesInRegion n) m) m m') where
  pub region_goes : Goes (FromPlex c v source to (InPickedBelow f (n + 1)) old) old m'
  region_goes = both_goes c v source to (apart_of c ready.sound) ready.source_on ready.targets (InPickedBelow f n) (LiesInRegion n) (InPickedBelow f (n + 1)) old m m' so_far.goes so_far.alike.up goes
      (λ k is. record { below = let lt = is.below in omega (arith, lt); picked = is.picked }) (λ k is. record { below = omega (arith, is); picked = ap f is ∙ picked })

  pub region_copied : ReadAlike c v source to (LiesInRegion n) m m' → CopiedBelow c v source to f (n + 1) (count + 1) old m'
  region_copied alike = record {
    goes = region_goes;
    alike = both_alike c v source to (apart_of c ready.sound) ready.source_on ready.targets (InPickedBelow f n) (LiesInRegion n) (InPickedBelow f (n + 1)) old m m' so_far.goes so_far.alike.up goes
        so_far.alike alike (λ k. k / 64 == n) (λ k is test. eqb-true (k / 64) n test) (λ k is. eq-eqb (k / 64) n is) below;
    counted = more_picked f n count picked so_far.counted;
    few = let le = so_far.few in omega (arith, le);
  }
    where
      below : (k : ℕ) → InPickedBelow f (n + 1) k → (k / 64 == n) ≡ false → InPickedBelow f n k
      below k is test = record {
        below = elim (cases_eq (k / 64) n) [
          | inl same ↦ absurd (let clash : true ≡ false = sym (eq-eqb (k / 64) n same) ∙ test in cc)
          | inr other ↦ let lt = is.below in omega (arith, lt, other)
        ];
        picked = is.picked;
      }

-- below a number that is no less than all regions lies each picked block
pub below_goes : (c : Config) (v source : ℕ) (to : Option ℕ) (f : ℕ → Bool) (n : ℕ) (old m : Meaning) → Goes (FromPlex c v source to (InPickedBelow f n) old) old m → Goes (FromPlex c v source to (InPicked f) old) old m
below_goes c v source to f n old m goes = goes_wider c v source to (InPickedBelow f n) (InPicked f) old (λ k is. is.picked) m goes

-- ---- the flush

module _ (c : Config) (v source : ℕ) (to : Option ℕ) (f : ℕ → Bool) (old m m' : Meaning) (goes : Goes (FromPlex c v source to (InPicked f) old) old m) (flush : Goes Nothing m m') where
  pub flushed_goes : Goes (FromPlex c v source to (InPicked f) old) old m'
  flushed_goes = weaker (Or (FromPlex c v source to (InPicked f) old) Nothing) (FromPlex c v source to (InPicked f) old) old m' (both_Goes (FromPlex c v source to (InPicked f) old) Nothing old m m' goes flush) only
    where
      only : (u b : ℕ) (x : List ℕ) → Or (FromPlex c v source to (InPicked f) old) Nothing u b x → FromPlex c v source to (InPicked f) old u b x
      only u b x (inl it) = it
      only u b x (inr none) = absurd none

  pub flushed_left : ReadAlike c v source to (InPicked f) old m → TargetsFlushed c v to m m' → LeftAlike c v source to (InPicked f) old m'
  flushed_left alike flushed = record {
    up = flushed.up;
    value = alike.value;
    origin = alike.origin;
    copied = λ p k x target inside picked left. alike.copied p k x target inside picked ((flushed.each p target).each k x inside left);
  }

  module _ (is : IsSource c v to source) where
    pub flushed_Resyncs : Resyncs c v to f old m'
    flushed_Resyncs = record { source = source; is = is; goes = flushed_goes }

    pub flushed_Resynced : ReadAlike c v source to (InPicked f) old m → TargetsFlushed c v to m m' → Resynced c v to f old m'
    flushed_Resynced alike flushed = record { source = source; is = is; left = flushed_left alike flushed }

pub plain_Resyncs : (c : Config) (v source : ℕ) (to : Option ℕ) (f : ℕ → Bool) (old m : Meaning) → IsSource c v to source → Goes (FromPlex c v source to (InPicked f) old) old m → Resyncs c v to f old m
plain_Resyncs c v source to f old m is goes = record { source = source; is = is; goes = goes }

pub source_some : (c : Config) (v source : ℕ) (to : Option ℕ) → IsSource c v to source → SomeActive c v
source_some c v source to is = record { plex = source; is_on = gives_active c v source to is.can }
