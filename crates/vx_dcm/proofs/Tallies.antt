-- How many regions are marked, counted one after another.
use Rattle.std.proofs.Common.{◌≡◌, ◌∙◌, ℕ, zero, suc, ◌+◌, ◌*◌, ◌≤◌, Bool, true, false, length, take, refl, ap, subst, arith, add-one}
use Rattle.std.specs.Prelude.{if◌then◌else◌}
use Rattle.std.specs.Int.{div_ceil, from_bool}
use Rattle.std.proofs.lemmas.List.Sums.{sum_by_more, sum_by-take-le}
use Rattle.vx_model.specs.Sizes.{map_blocks, regions_of}
use Rattle.vx_dcm.specs.Counts.{marks_below, left_in, left_to}
use Rattle.vx_dcm.specs.Places.{Maps, has_mark, maps_in, mapped_size}

abbrev one_of : Bool → ℕ
one_of b = if b then 1 else 0

pub count_more : (marks : ℕ → Bool) (n : ℕ) → marks_below marks (n + 1) ≡ marks_below marks n + (if marks n then 1 else 0)
count_more marks n = rw (add-one n) refl

one_at_most : (b : Bool) → one_of b ≤ 1
one_at_most true = omega arith
one_at_most false = omega arith

-- a region more, of which a test tells whether it is marked
pub count_next : (marks : ℕ → Bool) (n total one : ℕ) (marked : Bool) → total ≡ marks_below marks n → marked ≡ marks n → one ≡ from_bool marked → total + one ≡ marks_below marks (n + 1)
count_next marks n total one marked so_far is told = let step = count_more marks n in let same : one ≡ one_of (marks n) = told ∙ ap from_bool is ∙ byte (marks n) in omega (arith, so_far, step, same) where
  byte : (b : Bool) → from_bool b ≡ one_of b
  byte true = refl
  byte false = refl

-- no more than there are regions
pub count_few : (marks : ℕ → Bool) (n : ℕ) → marks_below marks n ≤ n
count_few marks zero = omega arith
count_few marks (suc n) = let rest = count_few marks n in let one = one_at_most (marks n) in omega (arith, rest, one)

pub left_more : (d : Maps) (slot n : ℕ) → left_to d slot (n + 1) ≡ left_to d slot n + left_in d slot n
left_more d slot n = rw (add-one n) refl

regions_few : (size : ℕ) → regions_of size ≤ 4096 * map_blocks size
regions_few size = let n : ℕ = div_ceil size 64 in few n where
  few : (n : ℕ) → n ≤ 4096 * div_ceil n 4096
  few n = omega arith

-- the marks of a volume are no more than its map has bits
pub left_in_few : (d : Maps) (slot v : ℕ) → left_in d slot v ≤ 4096 * map_blocks (mapped_size d v)
left_in_few d slot v = at_most (left_in d slot v) (regions_of (mapped_size d v)) (4096 * map_blocks (mapped_size d v)) (count_few (λ r. has_mark d slot v r) (regions_of (mapped_size d v))) (regions_few (mapped_size d v)) where
  at_most : (a b c : ℕ) → a ≤ b → b ≤ c → a ≤ c
  at_most a b c one two = omega (arith, one, two)

add_few : (a b c x y : ℕ) → a ≤ 4096 * x → b ≤ 4096 * y → c ≡ x + y → a + b ≤ 4096 * c
add_few a b c x y one two is = omega (arith, one, two, is)

-- the same of the volumes below n
pub left_few : (d : Maps) (slot n : ℕ) → n ≤ length d.sizes → left_to d slot n ≤ 4096 * maps_in (take n d.sizes)
left_few d slot zero le = omega arith
left_few d slot (suc n) le =
    subst (λ (k : ℕ). left_to d slot n + left_in d slot n ≤ 4096 * maps_in (take k d.sizes)) (add-one n)
    (add_few (left_to d slot n) (left_in d slot n) (maps_in (take (n + 1) d.sizes)) (maps_in (take n d.sizes)) (map_blocks (mapped_size d n)) (left_few d slot n (omega (arith, le))) (left_in_few d slot n)
    (sum_by_more (λ s. map_blocks s) d.sizes n 0 (omega (arith, le))))

-- and so of all
pub left_all_few : (d : Maps) (slot n stride : ℕ) → n ≤ length d.sizes → stride ≡ maps_in d.sizes → left_to d slot n ≤ 4096 * stride
left_all_few d slot n stride le is = within (left_to d slot n) (maps_in (take n d.sizes)) (maps_in d.sizes) stride (left_few d slot n le) (sum_by-take-le (λ s. map_blocks s) d.sizes n) is where
  within : (a b c s : ℕ) → a ≤ 4096 * b → b ≤ c → s ≡ c → a ≤ 4096 * s
  within a b c s one two is = omega (arith, one, two, is)

-- the same of the maps as they are told
pub left_bound : (v now : Maps) → v ≡ now → (slot n stride : ℕ) → n ≤ length v.sizes → stride ≡ maps_in v.sizes → left_to now slot n ≤ 4096 * stride
left_bound v now same slot n stride le is = subst (λ (d : Maps). left_to d slot n ≤ 4096 * stride) same (left_all_few v slot n stride le is)
