-- Which blocks are loose after a write.
use Rattle.std.proofs.Common.{◌≡◌, ◌⊎◌, inl, inr, ℕ, ◌+◌, ◌-◌, ◌*◌, ◌<◌, ◌≤◌, Bool, true, false, List, ◌++◌, length, take, drop, get_or, ◌∙◌, sym, ap, arith}
use Rattle.std.specs.Prelude.{replicate}
use Rattle.std.proofs.lemmas.List.{length-replicate, get_or-replicate, get_or_append_left, get_or-append_right, get_or-take, get_or-drop, get_or_past, length-take-le}
use Rattle.std.proofs.lemmas.Bool.{cases_lt}
use Rattle.vx_disk.specs.Blocks.{block_at, over}
use Rattle.vx_disk.proofs.Blocks.{block-over_before, block-over_after}

-- an item of a list that was written over
module _ (old : List Bool) (at n : ℕ) (v : Bool) (fits : at + n ≤ length old) where
  front : length (take at old) ≡ at
  front = length-take-le at old (omega arith)

  abbrev tail : List Bool
  tail = drop (at + length (replicate n v)) old

  pub over_in : (b : ℕ) → at ≤ b → b < at + n → get_or (over old at (replicate n v)) b false ≡ v
  over_in b from below =
      let inside : b - at < length (replicate n v) = omega (arith, length-replicate n v) in
      let within : b - at < n = omega arith in
      get_or-append_right (take at old) (replicate n v ++ tail) at b false front from
      ∙ get_or_append_left (replicate n v) tail false (b - at) inside
      ∙ get_or-replicate n (b - at) v false within

  pub over_out : (b : ℕ) → (b < at) ⊎ (at + n ≤ b) → get_or (over old at (replicate n v)) b false ≡ get_or old b false
  over_out b (inl before) =
      let inside : b < length (take at old) = omega (arith, front) in
      get_or_append_left (take at old) (replicate n v ++ tail) false b inside ∙ get_or-take at old b false before
  over_out b (inr after) =
      let size = length-replicate n v in
      let past : length (replicate n v) ≤ b - at = omega (arith, size) in
      let back : at + length (replicate n v) + (b - at - n) ≡ b = omega (arith, size) in
      get_or-append_right (take at old) (replicate n v ++ tail) at b false front (omega arith)
      ∙ get_or-append_right (replicate n v) tail n (b - at) false size (omega arith)
      ∙ get_or-drop (at + length (replicate n v)) old (b - at - n) false
      ∙ ap (λ (k : ℕ). get_or old k false) back

pub no_loose : (n b : ℕ) → get_or (replicate n false) b false ≡ false
no_loose n b = elim (cases_lt b n) [ inl below ↦ get_or-replicate n b false false below | inr past ↦ get_or_past (replicate n false) b false (omega (arith, length-replicate n false)) ]

true_false : (b : Bool) → b ≡ true → b ≡ false → ⊥
true_false b is not = cc

-- a block that a write leaves not loose has one value still
pub clean-write : (loose : List Bool) (stable latest bytes : List ℕ) (block k : ℕ) → length bytes ≡ 512 * k → length latest ≡ 512 * length loose → block + k ≤ length loose
    → ((b : ℕ) → get_or loose b false ≡ false → block_at stable b ≡ block_at latest b)
    → (b : ℕ) → get_or (over loose block (replicate k true)) b false ≡ false → block_at stable b ≡ block_at (over latest (512 * block) bytes) b
clean-write loose stable latest bytes block k whole size fits clean b is = elim (cases_lt b block) [
  | inl before ↦ clean b (sym (over_out loose block k true fits b (inl before)) ∙ is) ∙ sym (block-over_before latest bytes block k b whole (omega (arith, size)) before)
  | inr from ↦ elim (cases_lt b (block + k)) [
    | inl below ↦ absurd (true_false _ (over_in loose block k true fits b from below) is)
    | inr after ↦ clean b (sym (over_out loose block k true fits b (inr after)) ∙ is) ∙ sym (block-over_after latest bytes block k b whole (omega (arith, size)) after)
  ]
]
