-- The answer, disk by disk.
use Rattle.std.proofs.Common.{◌≡◌, ◌⊎◌, inl, inr, ℕ, zero, suc, ◌+◌, ◌-◌, ◌*◌, ◌^◌, ◌<◌, ◌≤◌, Bool, true, false, Option, Some, None, List, [], ◌∷◌, ◌++◌, length, map, drop, get_or, refl, ap, sym, ◌∙◌, arith, append_assoc}
use Rattle.std.specs.Prelude.{◌&&◌, ◌||◌, not, if◌then◌else◌, slice_index_or}
use Rattle.std.proofs.Math.Pow.{pow_mono}
use Rattle.std.proofs.lemmas.List.{drop_more}
use Rattle.vx_copyfmt.specs.Imports.{first_of, missing}
use Rattle.vx_config.specs.declared.entry.DiskEntry.{DiskEntry}
use Rattle.vx_copies.specs.Answers.{good_set, returned_from}

-- ---- the set of good disks

good_lt : (ds : List DiskEntry) → good_set ds < 2 ^ length ds
good_lt [] = omega arith
good_lt (d ∷ ds) =
    let rest : good_set ds < 2 ^ length ds = good_lt ds in
    let count : 2 ^ suc (length ds) ≡ 2 * 2 ^ length ds = omega arith in
    let one : (if d.failed then 0 else 1) ≤ 1 = by_bit d.failed in
    rw count (omega (arith, rest, one))
  where
    by_bit : (b : Bool) → (if b then 0 else 1) ≤ 1
    by_bit true = omega arith
    by_bit false = omega arith

pub good_small : (ds : List DiskEntry) → length ds ≤ 7 → good_set ds < 128
good_small ds few =
    let lt : good_set ds < 2 ^ length ds = good_lt ds in
    let le : 2 ^ length ds ≤ 2 ^ 7 = pow_mono few in
    omega (arith, lt, le)

pub good_most : (ds : List DiskEntry) → length ds ≤ 8 → good_set ds < 256
good_most ds few =
    let lt : good_set ds < 2 ^ length ds = good_lt ds in
    let le : 2 ^ length ds ≤ 2 ^ 8 = pow_mono few in
    omega (arith, lt, le)

pub good_more : (ds : List DiskEntry) (k : ℕ) (d : DiskEntry) → k < length ds → good_set (drop (length ds - (k + 1)) ds) ≡ 2 * good_set (drop (length ds - k) ds) + (if (get_or ds (length ds - 1 - k) d).failed then 0 else 1)
good_more ds k d lt =
    let at : length ds - (k + 1) ≡ length ds - 1 - k = omega arith in
    let next : length ds - 1 - k + 1 ≡ length ds - k = omega (arith, lt) in
    let inside : length ds - 1 - k < length ds = omega (arith, lt) in
    ap (λ (n : ℕ). good_set (drop n ds)) at ∙ ap good_set (drop_more ds (length ds - 1 - k) d inside)
    ∙ ap (λ (n : ℕ). 2 * good_set (drop n ds) + (if (get_or ds (length ds - 1 - k) d).failed then 0 else 1)) next

-- ---- missing disks

pub failed_at : (ds : List DiskEntry) (k : ℕ) (d : DiskEntry) → k < length ds → slice_index_or (map (λ x. x.failed) ds) k false ≡ (get_or ds k d).failed
failed_at [] k d lt = absurd (omega (arith, lt))
failed_at (x ∷ ds) zero d lt = refl
failed_at (x ∷ ds) (suc k) d lt = failed_at ds k d (omega (arith, lt))

missing_stays : (f r : ℕ → Bool) (k m : ℕ) → missing f r (suc k) ≡ Some k → missing f r (m + suc k) ≡ Some k
missing_stays f r k zero is = let none : 0 + suc k ≡ suc k = omega arith in rw none is
missing_stays f r k (suc m) is =
    let count : suc m + suc k ≡ suc (m + suc k) = omega arith in
    rw count (ap (λ (o : Option ℕ). first_of o (if f (m + suc k) || r (m + suc k) then None else Some (m + suc k))) (missing_stays f r k m is))

-- the first one that is missing
pub missing_is : (f r : ℕ → Bool) (k n : ℕ) → missing f r k ≡ None → k < n → f k ≡ false → r k ≡ false → Some k ≡ missing f r n
missing_is f r k n none lt good out =
    let here : missing f r (suc k) ≡ Some k = ap (λ (o : Option ℕ). first_of o (if f k || r k then None else Some k)) none ∙ rw (good, out) refl in
    let count : n - suc k + suc k ≡ n = omega (arith, lt) in
    sym (ap (missing f r) (sym count) ∙ missing_stays f r k (n - suc k) here)

-- one more is not
pub missing_more : (f r : ℕ → Bool) (k : ℕ) → missing f r k ≡ None → (f k ≡ true) ⊎ (r k ≡ true) → missing f r (k + 1) ≡ None
missing_more f r k none is =
    let count : k + 1 ≡ suc k = omega arith in
    rw count (ap (λ (o : Option ℕ). first_of o (if f k || r k then None else Some k)) none ∙ by_case is)
  where
    by_flag : (b : Bool) → (if b || true then None else Some k) ≡ None
    by_flag true = refl
    by_flag false = refl

    by_case : (f k ≡ true) ⊎ (r k ≡ true) → (if f k || r k then None else Some k) ≡ None
    by_case (inl held) = rw held refl
    by_case (inr in_it) = rw in_it (by_flag (f k))

-- ---- returned disks

pub returned_more : (r : ℕ → Bool) (so_far all ds : List DiskEntry) (k : ℕ) (d x : DiskEntry) → k < length ds → so_far ++ returned_from r k (drop k ds) ≡ all
    → x ≡ record { blocks = (get_or ds k d).blocks; failed = (get_or ds k d).failed && not (r k) } → (so_far ++ x ∷ []) ++ returned_from r (k + 1) (drop (k + 1) ds) ≡ all
returned_more r so_far all ds k d x lt is one =
    append_assoc so_far (x ∷ []) (returned_from r (k + 1) (drop (k + 1) ds))
    ∙ ap (λ (y : DiskEntry). so_far ++ (y ∷ returned_from r (k + 1) (drop (k + 1) ds))) one
    ∙ sym (ap (λ (t : List DiskEntry). so_far ++ returned_from r k t) (drop_more ds k d lt)) ∙ is

-- ---- tests

pub not_true : (b : Bool) → not b ≡ true → b ≡ false
not_true true is = cc
not_true false is = refl

abbrev pub no_disk : DiskEntry
no_disk = record { blocks = 0; failed = false }
