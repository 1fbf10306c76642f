-- The bits of the set of the good disks.
use Rattle.std.proofs.Common.{◌≡◌, ℕ, zero, suc, ◌+◌, ◌*◌, ◌<◌, Bool, true, false, List, [], ◌∷◌, length, refl, ap, sym, ◌∙◌, arith}
use Rattle.std.specs.Prelude.{cond, not, ◌==◌, ◌/◌, ◌%◌, ◌^◌, if◌then◌else◌}
use Rattle.std.proofs.Math.Nat.{div-div-eq-div-mul, pow-succ'}
use Rattle.vx_disk.specs.Blocks.{bit_at}
use Rattle.vx_disk.specs.Disks.{count_below}
use Rattle.vx_config.specs.declared.entry.DiskEntry.{DiskEntry}
use Rattle.vx_copies.specs.Answers.{good_set}
use Rattle.vx_copies.specs.Marks.{failed_at, good_count}

half : (g : ℕ) (failed : Bool) → (2 * g + (if failed then 0 else 1)) / 2 ≡ g
half g true = omega arith
half g false = omega arith

-- a bit behind the first one
next_bit : (g : ℕ) (failed : Bool) (u : ℕ) → (2 * g + (if failed then 0 else 1)) / 2 ^ suc u ≡ g / 2 ^ u
next_bit g failed u =
    ap (λ (n : ℕ). (2 * g + (if failed then 0 else 1)) / n) (pow-succ' 2 u) ∙ sym (div-div-eq-div-mul (2 * g + (if failed then 0 else 1)) 2 (2 ^ u))
    ∙ ap (λ (n : ℕ). n / 2 ^ u) (half g failed)

first_bit : (g : ℕ) (failed : Bool) → ((2 * g + (if failed then 0 else 1)) / 2 ^ 0 % 2 == 1) ≡ not failed
first_bit g true = let even : (2 * g + 0) / 1 % 2 ≡ 0 = omega arith in ap (λ (n : ℕ). n == 1) even
first_bit g false = let odd : (2 * g + 1) / 1 % 2 ≡ 1 = omega arith in ap (λ (n : ℕ). n == 1) odd

pub good_bit : (ds : List DiskEntry) (u : ℕ) → u < length ds → bit_at (good_set ds) u ≡ not (failed_at ds u)
good_bit [] u lt = absurd (omega (arith, lt))
good_bit (d ∷ ds) zero lt = first_bit (good_set ds) d.failed
good_bit (d ∷ ds) (suc u) lt = ap (λ (n : ℕ). n % 2 == 1) (next_bit (good_set ds) d.failed u) ∙ good_bit ds u (omega (arith, lt))

-- ---- how many bits there are

count_head : (f : ℕ → Bool) (n : ℕ) → count_below f (suc n) ≡ cond (f 0) 1 0 + count_below (λ u. f (suc u)) n
count_head f zero = omega arith
count_head f (suc n) = omega (arith, count_head f n)

count_same : (f g : ℕ → Bool) (n : ℕ) → ((u : ℕ) → u < n → f u ≡ g u) → count_below f n ≡ count_below g n
count_same f g zero same = refl
count_same f g (suc n) same = omega (arith, count_same f g n (λ u lt. same u (omega (arith, lt))), ap {B = ℕ} (λ (b : Bool). cond b 1 0) (same n (omega arith)))

one_good : (failed : Bool) → cond (not failed) 1 0 + 0 ≡ (if failed then 0 else 1)
one_good true = refl
one_good false = refl

count_kept : (ds : List DiskEntry) → count_below (λ u. not (failed_at ds u)) (length ds) ≡ good_count ds
count_kept [] = refl
count_kept (d ∷ ds) = omega (arith, count_head (λ u. not (failed_at (d ∷ ds) u)) (length ds), count_kept ds, one_good d.failed)

pub count_good : (ds : List DiskEntry) → count_below (bit_at (good_set ds)) (length ds) ≡ good_count ds
count_good ds = count_same (bit_at (good_set ds)) (λ u. not (failed_at ds u)) (length ds) (good_bit ds) ∙ count_kept ds
