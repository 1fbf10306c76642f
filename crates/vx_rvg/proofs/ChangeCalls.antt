-- The calls of a change of the state: those of one header, where nothing has to come into its volume before.
use Rattle.std.proofs.Common.{◌≡◌, ℕ, sym, subst}
use Rattle.std.specs.Prelude.{Result, Ok, Err, OnOk}
use Rattle.vx_disk.specs.Burns.{FallsShort, MakesCalls}
use Rattle.vx_disk.specs.Shelf.{Meaning}
use Rattle.vx_disk.proofs.Burning.{no_fall}

-- what holds at Ok does so under any premise
pub on_anyway : {T E : Type 0} (P Q : Type 0) (r : Result T E) → OnOk r Q → OnOk r (P → Q)
on_anyway P Q (Ok x) on = λ p. on
on_anyway P Q (Err e) on = tt

-- the call before left the shelf as it was
pub calls_since : {T E : Type 0} (P : Type 0) (n : ℕ) (r : Result T E) (old mid new : Meaning) → (P → mid ≡ old) → OnOk r (MakesCalls n mid new) → OnOk r (P → MakesCalls n old new)
calls_since P n (Ok x) old mid new same calls = λ p. subst (λ (m : Meaning). MakesCalls n m new) (same p) calls
calls_since P n (Err e) old mid new same calls = tt

pub short_since : (n : ℕ) (old mid new : Meaning) → mid ≡ old → FallsShort n mid new → FallsShort n old new
short_since n old mid new same short = subst (λ (m : Meaning). FallsShort n m new) same short

pub short_same : (n : ℕ) (old new : Meaning) → new ≡ old → FallsShort n old new
short_same n old new same = subst (λ (m : Meaning). FallsShort n old m) (sym same) (no_fall n old)
