-- Racks that are bare are fresh.
use Rattle.std.proofs.Common.{◌≡◌, ℕ, List, Some, length, subst, arith}
use Rattle.std.specs.List.{All, slice_get}
use Rattle.std.proofs.lemmas.List.Elements.{All-get_or}
use Rattle.std.proofs.lemmas.Option.{get_or_from_slice_get, slice_get_within}
use Rattle.vx_disk.specs.Shelf.{Meaning}
use Rattle.vx_disk.specs.Racks.{Bare}
use Rattle.vx_yard.specs.Holds.{AreFresh}

module _ {R : Type 0} (meaning : R → Meaning) where
  bare_at : (racks : List R) → All (λ (r : R). Bare (meaning r)) racks → (s : ℕ) (r : R) → slice_get racks s ≡ Some r → Bare (meaning r)
  bare_at racks all s r at =
      subst (λ (x : R). Bare (meaning x)) (get_or_from_slice_get racks s r r at)
      (All-get_or (λ (x : R). Bare (meaning x)) racks s r (slice_get_within racks s r at) all)

  pub fresh : (racks : List R) → length racks ≡ 8 → All (λ (r : R). Bare (meaning r)) racks → AreFresh meaning racks
  fresh racks eight all = record {
    eight = eight;
    units = λ s r at. (bare_at racks all s r at).units;
    up = λ s r at down. (let up = (bare_at racks all s r at).up in grind arith);
    unarmed = λ s r at armed. (let unarmed = (bare_at racks all s r at).unarmed in grind arith);
  }
