-- Lists that agree in each place.
use Rattle.std.proofs.Common.{◌≡◌, ℕ, zero, suc, ◌+◌, ◌<◌, ◌≤◌, List, [], ◌∷◌, length, Bool, true, false, refl, arith}
use Rattle.std.specs.Prelude.{◌&&◌, ◌==◌, slice_get, if◌then◌else◌}
use Rattle.vx_model.proofs.Tests.{both_true}
use Rattle.vx_order.specs.declared.facts.VolumeFacts.{VolumeFacts}
use Rattle.vx_order.specs.Calls.{is_data}
use Rattle.vx_order.specs.Joining.{data_sizes, same_size, same_sizes}

left_false : (a b : Bool) → a ≡ false → (a && b) ≡ false
left_false true b e = absurd (cc)
left_false false b e = refl

right_false : (a b : Bool) → b ≡ false → (a && b) ≡ false
right_false true b e = e
right_false false b e = refl

-- the same in each place up to the length of the first
pub all_same : (xs ys : List ℕ) → ((k : ℕ) → k < length xs + 1 → same_size (slice_get xs k) (slice_get ys k) ≡ true) → same_sizes xs ys ≡ true
all_same [] [] h = refl
all_same [] (y ∷ ys) h = h 0 (omega arith)
all_same (x ∷ xs) [] h = h 0 (omega arith)
all_same (x ∷ xs) (y ∷ ys) h = both_true (x == y) (same_sizes xs ys) (h 0 (omega arith)) (all_same xs ys (λ k below. h (suc k) (omega (arith, below))))

-- another in some place
pub one_differs : (xs ys : List ℕ) (k : ℕ) → same_size (slice_get xs k) (slice_get ys k) ≡ false → same_sizes xs ys ≡ false
one_differs [] [] k e = absurd (cc)
one_differs [] (y ∷ ys) k e = refl
one_differs (x ∷ xs) [] k e = refl
one_differs (x ∷ xs) (y ∷ ys) zero e = left_false (x == y) (same_sizes xs ys) e
one_differs (x ∷ xs) (y ∷ ys) (suc k) e = right_false (x == y) (same_sizes xs ys) (one_differs xs ys k e)

size_step : (b : Bool) (x : ℕ) (xs : List ℕ) (n : ℕ) → length xs ≤ n → length (if b then x ∷ xs else xs) ≤ n + 1
size_step true x xs n h = omega (arith, h)
size_step false x xs n h = omega (arith, h)

-- no more sizes than volumes
pub few_sizes : (vs : List VolumeFacts) → length (data_sizes vs) ≤ length vs
few_sizes [] = omega arith
few_sizes (v ∷ vs) = let h = size_step (is_data v.kind) v.blocks (data_sizes vs) (length vs) (few_sizes vs) in omega (arith, h)
