-- Disks that fit a shelf, one after another.
use Rattle.std.proofs.Common.{◌≡◌, ⊎_elim, ℕ, ◌+◌, ◌<◌, ◌≤◌, false, List, length, get_or, sym, ap, subst, arith}
use Rattle.std.specs.Prelude.{slice_get}
use Rattle.std.proofs.lemmas.Bool.{cases_eq}
use Rattle.std.proofs.lemmas.Option.{slice_get-get_or, slice_get_within}
use Rattle.vx_config.specs.Checks.{blocks_or}
use Rattle.vx_disk.specs.Shelf.{Meaning}
use Rattle.vx_config.specs.declared.entry.DiskEntry.{DiskEntry}
use Rattle.vx_maplog.specs.Logs.{DisksReach}

-- the first n disks fit
pub record FitBelow (n : ℕ) (disks : List DiskEntry) (m : Meaning) : Type 0 where
  pub there : (u : ℕ) → u < n → u < m.units
  pub size : (u : ℕ) → u < n → blocks_or (slice_get disks u) ≤ m.size u

pub fit_next : (n : ℕ) (disks : List DiskEntry) (m : Meaning) → FitBelow n disks m → n < m.units → blocks_or (slice_get disks n) ≤ m.size n → FitBelow (n + 1) disks m
fit_next n disks m below lt le = record {
  there = λ u low. ⊎_elim (λ (same : u ≡ n). omega (arith, same, lt)) (λ (other : u ≡ n → ⊥). below.there u (omega (arith, low, other))) (cases_eq u n);
  size = λ u low.
      ⊎_elim (λ (same : u ≡ n). subst (λ (k : ℕ). blocks_or (slice_get disks k) ≤ m.size k) (sym same) le) (λ (other : u ≡ n → ⊥). below.size u (omega (arith, low, other))) (cases_eq u n);
}

pub fit_all : (n : ℕ) (disks : List DiskEntry) (m : Meaning) → FitBelow n disks m → length disks ≤ n → DisksReach disks m
fit_all n disks m below all = record {
  there = λ u d is. below.there u (omega (arith, all, slice_get_within disks u d is));
  size = λ u d is. let e : blocks_or (slice_get disks u) ≡ d.blocks = ap blocks_or is in omega (arith, e, below.size u (omega (arith, all, slice_get_within disks u d is)));
}

module _ (n : ℕ) (disks : List DiskEntry) (m : Meaning) (fit : DisksReach disks m) (lt : n < length disks) where
  abbrev here : DiskEntry
  here = get_or disks n (record { blocks = 0; failed = false })

  pub unit_there : n < m.units
  unit_there = fit.there n here (slice_get-get_or disks n (record { blocks = 0; failed = false }) lt)

  pub size_there : blocks_or (slice_get disks n) ≤ m.size n
  size_there =
      let at = slice_get-get_or disks n (record { blocks = 0; failed = false }) lt in
      let e : blocks_or (slice_get disks n) ≡ here.blocks = ap blocks_or at in
      omega (arith, e, fit.size n here at)
