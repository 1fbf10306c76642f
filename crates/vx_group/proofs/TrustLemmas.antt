-- Disks of which none is held as failed.
use Rattle.std.proofs.Common.{◌≡◌, ◌⊎◌, Result, Ok, Err, OnOk, IfErr, inl, inr, ℕ, zero, suc, ◌+◌, ◌<◌, ◌≤◌, Bool, true, false, List, [], ◌∷◌, length, refl, sym, ◌∙◌, subst, arith}
use Rattle.std.proofs.lemmas.Bool.{cases_lt}
use Rattle.vx_config.specs.declared.entry.DiskEntry.{DiskEntry}
use Rattle.vx_copies.specs.Marks.{failed_at}
use Rattle.vx_kept.specs.Trusts.{AllGood, HasFailed}

-- none of the first ones
pub record GoodBelow (disks : List DiskEntry) (n : ℕ) : Type 0 where
  pub each : (u : ℕ) → u < n → failed_at disks u ≡ false

pub good_more : (disks : List DiskEntry) (n : ℕ) → GoodBelow disks n → failed_at disks n ≡ false → GoodBelow disks (n + 1)
good_more disks n so_far is = record {
  each = λ u lt. elim (cases_lt u n) [
    | inl below ↦ so_far.each u below
    | inr above ↦ let same : n ≡ u = omega (arith, lt, above) in subst (λ (k : ℕ). failed_at disks k ≡ false) same is
  ];
}

past : (disks : List DiskEntry) (u : ℕ) → length disks ≤ u → failed_at disks u ≡ false
past [] u le = refl
past (d ∷ ds) zero le = absurd (omega (arith, le))
past (d ∷ ds) (suc u) le = past ds u (omega (arith, le))

pub good_all : (disks : List DiskEntry) (n : ℕ) → GoodBelow disks n → length disks ≤ n → AllGood disks
good_all disks n so_far le = record {
  each = λ u. elim (cases_lt u n) [
    | inl lt ↦ so_far.each u lt
    | inr above ↦ past disks u (omega (arith, le, above))
  ];
}

pub stays_committed : (was now : Bool) → (now ≡ false → was ≡ false) → was ≡ true → now ≡ true
stays_committed was true less is = refl
stays_committed was false less is = absurd (let clash : false ≡ true = sym (less refl) ∙ is in cc)

pub committed_or : (now : Bool) (disks : List DiskEntry) → (now ≡ false → HasFailed disks) → (now ≡ true) ⊎ HasFailed disks
committed_or true disks failed = inl refl
committed_or false disks failed = inr (failed refl)

-- ---- answers

pub ok_from : {T E P Q : Type 0} (r : Result T E) → (P → Q) → OnOk r P → OnOk r Q
ok_from (Ok x) f is = f is
ok_from (Err error) f is = tt

pub err_from : {T E P Q : Type 0} (r : Result T E) → (P → Q) → IfErr r (λ e. P) → IfErr r (λ e. Q)
err_from (Ok x) f is = tt
err_from (Err error) f is = f is

-- what holds in any case
pub err_all : {T E P : Type 0} (r : Result T E) → P → IfErr r (λ e. P)
err_all (Ok x) it = tt
err_all (Err error) it = it
