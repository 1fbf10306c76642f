-- The regions of a volume that are copied one after the other.
use Rattle.std.proofs.Common.{◌≡◌, ◌⊎◌, inl, inr, ℕ, ◌+◌, ◌-◌, ◌*◌, ◌/◌, ◌<◌, ◌≤◌, Bool, true, false, length, ap, sym, ◌∙◌, arith}
use Rattle.std.specs.Prelude.{min}
use Rattle.std.proofs.lemmas.Bool.{cases_eq}
use Rattle.vx_disk.specs.Shelf.{Fits, Meaning}
use Rattle.vx_config.specs.Checks.{blocks_of}
use Rattle.vx_model.specs.Sizes.{regions_of}
use Rattle.vx_resync.specs.Picks.{InPicked, InPickedBelow, LiesInRegion}
use Rattle.vx_resync.proofs.PickLemmas.{in_regions, of_run, run_of}
use Rattle.vx_volume.specs.Plexes.{InRun}
use Rattle.vx_group.specs.Copying.{CopyMoved, RunCopied}
use Rattle.vx_group.specs.Stands.{inner_meaning}
use Rattle.vx_group.specs.declared.inner.Inner.{Inner}
use Rattle.vx_group.proofs.CopyLemmas.{both_Copied, both_Moved, copied_as, has_below, moved_wider, source_origin}

-- ---- one region of the loop

-- a run as long as the region
pub run_region : (core : Inner) (v source region total count len : ℕ) (d : Inner) (m m' : Meaning) → total ≡ blocks_of core.config.volumes v → region * 64 < total → count ≡ min (total - region * 64) 64 → len ≡ 512 * count
    → RunCopied core v source (InRun (region * 64) (len / 512)) d m m' → RunCopied core v source (LiesInRegion region) d m m'
run_region core v source region total count len d m m' is some size long run =
    let n : len / 512 ≡ count = omega (arith, long) in
    copied_as core v source (InRun (region * 64) (len / 512)) (LiesInRegion region) d m m'
    (λ k in_it has. run_of core.config v region total (len / 512) is some (n ∙ size) k in_it has)
    (λ k in_run. of_run core.config v region total (len / 512) is some (n ∙ size) k in_run) run

pub run_fits : (core : Inner) (v block count len total : ℕ) (m : Meaning) → v < length core.config.volumes → len ≡ 512 * count → 0 < count → block + count ≤ total → total ≡ blocks_of core.config.volumes v → Fits (inner_meaning core m) v block len
run_fits core v block count len total m there long some within is = record {
  exists = there;
  some = omega (arith, long, some);
  whole = omega (arith, long);
  within = omega (arith, long, within, is);
}

-- a region that is passed over
pub passed_Copied : (core : Inner) (v source : ℕ) (f : ℕ → Bool) (n : ℕ) (d : Inner) (m m' : Meaning) → f n ≡ false → RunCopied core v source (InPickedBelow f n) d m m' → RunCopied core v source (InPickedBelow f (n + 1)) d m m'
passed_Copied core v source f n d m m' off run = copied_as core v source (InPickedBelow f n) (InPickedBelow f (n + 1)) d m m' (λ k in_it is. less k is) (λ k is. record { below = let lt = is.below in omega (arith, lt); picked = is.picked }) run
  where
    less : (k : ℕ) → InPickedBelow f (n + 1) k → InPickedBelow f n k
    less k is = record {
      below = elim (cases_eq (k / 64) n) [
        | inl same ↦ absurd (let clash : true ≡ false = sym is.picked ∙ ap f same ∙ off in cc)
        | inr other ↦ let lt = is.below in omega (arith, lt, other)
      ];
      picked = is.picked;
    }

-- and one that is copied
module _ (core d e : Inner) (v source : ℕ) (f : ℕ → Bool) (n : ℕ) (m0 m1 m2 : Meaning) (so_far : RunCopied core v source (InPickedBelow f n) d m0 m1) where
  -- it lies below the next region
  was_below : (k : ℕ) → InPickedBelow f n k → InPickedBelow f (n + 1) k
  was_below k is = record { below = let lt = is.below in omega (arith, lt); picked = is.picked }

  now_below : f n ≡ true → (k : ℕ) → LiesInRegion n k → InPickedBelow f (n + 1) k
  now_below picked k is = record { below = omega (arith, is); picked = ap f is ∙ picked }

  pub region_Moved : f n ≡ true → CopyMoved d v source (LiesInRegion n) e m1 m2 → CopyMoved core v source (InPicked f) e m0 m2
  region_Moved picked moved = moved_wider core v source (InPickedBelow f (n + 1)) (InPicked f) e m0 m2 (λ k is. is.picked)
      (both_Moved core d e v source (InPickedBelow f n) (LiesInRegion n) (InPickedBelow f (n + 1)) was_below (now_below picked) m0 m1 m2 so_far.moved (source_origin core d e v source (InPickedBelow f n) m0 m1 m2 so_far (has_below f n)) moved)

  pub region_Copied : f n ≡ true → RunCopied d v source (LiesInRegion n) e m1 m2 → RunCopied core v source (InPickedBelow f (n + 1)) e m0 m2
  region_Copied picked run = both_Copied core d e v source (InPickedBelow f n) m0 m1 m2 so_far (has_below f n) (LiesInRegion n) (InPickedBelow f (n + 1)) run
      parts
      was_below (now_below picked)
      (λ k is at. let lt = is.below in absurd (omega (arith, lt, at)))
    where
      parts : (k : ℕ) → InPickedBelow f (n + 1) k → InPickedBelow f n k ⊎ LiesInRegion n k
      parts k is = elim (cases_eq (k / 64) n) [
        | inl same ↦ inr same
        | inr other ↦ inl (record { below = let lt = is.below in omega (arith, lt, other); picked = is.picked })
      ]

-- behind the last region
pub all_Copied : (core : Inner) (v source : ℕ) (f : ℕ → Bool) (n : ℕ) (d : Inner) (m m' : Meaning) → regions_of (blocks_of core.config.volumes v) ≤ n → RunCopied core v source (InPickedBelow f n) d m m' → RunCopied core v source (InPicked f) d m m'
all_Copied core v source f n d m m' end run = copied_as core v source (InPickedBelow f n) (InPicked f) d m m' (λ k in_it is. record { below = in_regions core.config v n k end in_it; picked = is }) (λ k is. is.picked) run

pub run_moved : (core : Inner) (v source region total count len : ℕ) (d : Inner) (m m' : Meaning) → total ≡ blocks_of core.config.volumes v → region * 64 < total → count ≡ min (total - region * 64) 64 → len ≡ 512 * count
    → CopyMoved core v source (InRun (region * 64) (len / 512)) d m m' → CopyMoved core v source (LiesInRegion region) d m m'
run_moved core v source region total count len d m m' is some size long moved =
    let n : len / 512 ≡ count = omega (arith, long) in
    moved_wider core v source (InRun (region * 64) (len / 512)) (LiesInRegion region) d m m' (λ k in_run. of_run core.config v region total (len / 512) is some (n ∙ size) k in_run) moved
