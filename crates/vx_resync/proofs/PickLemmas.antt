-- Regions, and how many of them are picked.
use Rattle.std.proofs.Common.{◌≡◌, inl, inr, ℕ, suc, ◌+◌, ◌-◌, ◌*◌, ◌/◌, ◌<◌, ◌≤◌, Bool, true, false, ap, sym, ◌∙◌, subst, arith, IsTrue}
use Rattle.std.specs.Prelude.{◌&&◌, not, Option, Some, None, min}
use Rattle.std.proofs.lemmas.Bool.{cases_eq}
use Rattle.vx_config.specs.Checks.{blocks_of, is_sound}
use Rattle.vx_config.specs.declared.config.Config.{Config}
use Rattle.vx_layout.proofs.Pairs.{and_left}
use Rattle.vx_model.specs.Numbers.{one_if}
use Rattle.vx_model.specs.Sizes.{regions_of}
use Rattle.vx_volume.specs.Plexes.{InRun, Inside, SomeActive, active}
use Rattle.vx_volume.proofs.PlaceLemmas.{active_few}
use Rattle.vx_drl.specs.Dirty.{Dirty}
use Rattle.vx_fmr.specs.Missed.{Missed}
use Rattle.vx_resync.specs.Copies.{TargetsActive}
use Rattle.vx_resync.specs.Picks.{DrlReaches, FmrReaches, LiesInRegion, MapsReach, picked_below}
use Rattle.vx_resync.specs.Sources.{HasSource, can_give, is_it}

-- ---- counts

pub more : (f : ℕ → Bool) (n : ℕ) → picked_below f (n + 1) ≡ picked_below f n + one_if (f n)
more f n = let next : n + 1 ≡ suc n = omega arith in ap (picked_below f) next

pub more_picked : (f : ℕ → Bool) (n count : ℕ) → f n ≡ true → count ≡ picked_below f n → count + 1 ≡ picked_below f (n + 1)
more_picked f n count is same = let one : one_if (f n) ≡ 1 = ap one_if is in omega (arith, more f n, one, same)

pub more_passed : (f : ℕ → Bool) (n count : ℕ) → f n ≡ false → count ≡ picked_below f n → count ≡ picked_below f (n + 1)
more_passed f n count is same = let none : one_if (f n) ≡ 0 = ap one_if is in omega (arith, more f n, none, same)

-- ---- maps that reach further

pub drl_less : (n m : ℕ) (d : Option Dirty) → m ≤ n → DrlReaches n d → DrlReaches m d
drl_less n m None le reach = tt
drl_less n m (Some d) le reach = omega (arith, le, reach)

pub fmr_less : (n m p : ℕ) (f : Option Missed) → m ≤ n → FmrReaches n p f → FmrReaches m p f
fmr_less n m p None le reach = tt
fmr_less n m p (Some f) le reach = (reach.0, omega (arith, le, reach.1))

pub maps_less : (n m : ℕ) (to : Option ℕ) (d : Option Dirty) (f : Option Missed) → m ≤ n → MapsReach n to d f → MapsReach m to d f
maps_less n m None d f le reach = drl_less n m d le reach
maps_less n m (Some p) d f le reach = fmr_less n m p f le reach

-- ---- regions of blocks

-- the blocks of a region are a run, and the other way round
module _ (c : Config) (v region total count : ℕ) (is : total ≡ blocks_of c.volumes v) (some : region * 64 < total) (size : count ≡ min (total - region * 64) 64) where
  pub run_of : (k : ℕ) → Inside c v k → LiesInRegion region k → InRun (region * 64) count k
  run_of k inside has = let lt = inside.within in record { first = omega (arith, has); last = omega (arith, has, is, lt, size) }

  pub of_run : (k : ℕ) → InRun (region * 64) count k → LiesInRegion region k
  of_run k run = let first = run.first in let last = run.last in omega (arith, first, last, size)

-- each block lies in one of the regions
pub in_regions : (c : Config) (v regions k : ℕ) → regions_of (blocks_of c.volumes v) ≤ regions → Inside c v k → k / 64 < regions
in_regions c v regions k end inside =
    let lt : k < blocks_of c.volumes v = inside.within in
    omega (arith, lt, end)

-- ---- sources

pub gives_active : (c : Config) (v p : ℕ) (to : Option ℕ) → can_give c v to p ≡ true → IsTrue (active c v p)
gives_active c v p to is = and_left (active c v p) (not (is_it to p)) is

pub any_source : (c : Config) (v : ℕ) → SomeActive c v → HasSource c v None
any_source c v some = record { plex = some.plex; can = ap (λ (b : Bool). b && not false) some.is_on }

pub all_active : (c : Config) (v : ℕ) → TargetsActive c v None
all_active c v = record { each = λ p is_on. is_on }

pub one_active : (c : Config) (v q : ℕ) → IsTrue (active c v q) → TargetsActive c v (Some q)
one_active c v q is_on = record { each = λ p same. subst (λ (n : ℕ). IsTrue (active c v n)) (sym same) is_on }

-- none of those below
abbrev pub NoneGives : Config → ℕ → Option ℕ → ℕ → Type 0
NoneGives c v to n = (q : ℕ) → q < n → can_give c v to q ≡ false

pub none_next : (c : Config) (v n : ℕ) (to : Option ℕ) → NoneGives c v to n → can_give c v to n ≡ false → NoneGives c v to (n + 1)
none_next c v n to none is = λ q lt. elim (cases_eq q n) [
  | inl same ↦ subst (λ (k : ℕ). can_give c v to k ≡ false) (sym same) is
  | inr other ↦ none q (omega (arith, lt, other))
]

pub some_gives : (c : Config) (v n : ℕ) (to : Option ℕ) → is_sound c ≡ true → 8 ≤ n → NoneGives c v to n → HasSource c v to → ⊥
some_gives c v n to sound le none some =
    let lt = active_few c sound v some.plex (gives_active c v some.plex to some.can) in
    let clash : true ≡ false = sym some.can ∙ none some.plex (omega (arith, lt, le)) in cc
