-- Zeros that are written one block after the other.
use Rattle.std.proofs.Common.{◌≡◌, ◌∙◌, inl, inr, ⊎_elim, ℕ, ◌+◌, ◌-◌, ◌*◌, ◌<◌, List, refl, ap, arith}
use Rattle.std.specs.Prelude.{take}
use Rattle.std.proofs.lemmas.Bool.{cases_eq}
use Rattle.std.proofs.lemmas.List.{drop-replicate, length-replicate, take-replicate}
use Rattle.vx_disk.specs.Shelf.{Covers, Flushed, Goes, Meaning, Nothing, Or, Written, Wrote, piece}
use Rattle.vx_disk.proofs.Runs.{both_Goes, same_Goes, then_nothing, weaker}
use Rattle.vx_wire.specs.Fields.{zero_bytes}
use Rattle.vx_grouplogs.specs.Zeroing.{AreZeros, ZerosIn}

-- those below this one read as zeros
pub record ZerosBelow (unit first n blocks : ℕ) (old m : Meaning) : Type 0 where
  pub goes : Goes (ZerosIn unit first blocks) old m
  pub below : (k : ℕ) (x : List ℕ) → k < n → m.reads unit (first + k) x → x ≡ zero_bytes 512

pub none_zeros : (unit first blocks : ℕ) (m : Meaning) → ZerosBelow unit first 0 blocks m m
none_zeros unit first blocks m = record { goes = same_Goes (ZerosIn unit first blocks) m; below = λ k x lt is. absurd (omega (arith, lt)) }

piece_zeros : (block b : ℕ) → b ≡ block → piece block (zero_bytes 512) b ≡ zero_bytes 512
piece_zeros block b same =
    ap (take 512) (drop-replicate (512 * (b - block)) 512 0) ∙ take-replicate 512 (512 - 512 * (b - block)) 0 (omega (arith, same))

module _ (unit first n blocks : ℕ) (lt : n < blocks) (old m m' : Meaning) (was : ZerosBelow unit first n blocks old m) (goes : Goes (Written unit (first + n) (zero_bytes 512)) m m') where
  block_is : (u b : ℕ) → Covers unit (first + n) (zero_bytes 512) u b → b ≡ first + n
  block_is u b covers = let long = length-replicate {A = ℕ} 512 0 in omega (arith, covers.first, covers.last, long)

  value_is : (u b : ℕ) (x : List ℕ) → Written unit (first + n) (zero_bytes 512) u b x → x ≡ zero_bytes 512
  value_is u b x put = put.value ∙ piece_zeros (first + n) b (block_is u b put.covers)

  pub next_goes : Goes (ZerosIn unit first blocks) old m'
  next_goes = weaker (Or (ZerosIn unit first blocks) (Written unit (first + n) (zero_bytes 512))) (ZerosIn unit first blocks) old m' (both_Goes (ZerosIn unit first blocks) (Written unit (first + n) (zero_bytes 512)) old m m' was.goes goes)
      (λ u b x. ⊎_elim (λ put. put) (λ put. let at = block_is u b put.covers in record { run = record { there = put.covers.there; first = omega (arith, at); last = omega (arith, at, lt) }; value = value_is u b x put }))

  pub next_zeros : Wrote unit (first + n) (zero_bytes 512) m m' → ZerosBelow unit first (n + 1) blocks old m'
  next_zeros wrote = record {
    goes = next_goes;
    below = λ k x less is. elim (wrote.each unit (first + k) x is) [
      | inl put ↦ value_is unit (first + k) x put
      | inr not ↦ elim (cases_eq k n) [
        | inl same ↦ absurd (not.0 (record { there = refl; first = omega (arith, same); last = let long = length-replicate {A = ℕ} 512 0 in omega (arith, same, long) }))
        | inr apart ↦ was.below k x (omega (arith, less, apart)) not.1
      ]
    ];
  }

-- what a flush makes of it
pub zeros_left : (unit first blocks : ℕ) (old m m' : Meaning) → ZerosBelow unit first blocks blocks old m → Flushed unit m m' → AreZeros unit first blocks m'
zeros_left unit first blocks old m m' was flushed = record { each = λ k x lt left. was.below k x lt (flushed.each (first + k) x left) }

pub zeros_goes : (unit first n blocks : ℕ) (old m m' : Meaning) → ZerosBelow unit first n blocks old m → Goes Nothing m m' → Goes (ZerosIn unit first blocks) old m'
zeros_goes unit first n blocks old m m' was goes = then_nothing (ZerosIn unit first blocks) old m m' was.goes goes
