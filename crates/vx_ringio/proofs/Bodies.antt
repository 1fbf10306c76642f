-- Blocks within a list of bytes.
use Rattle.std.proofs.Common.{◌≡◌, ℕ, zero, suc, ◌*◌, List, [], ◌∷◌, ◌++◌, length, take, drop, refl, ◌∙◌, ap, arith, length-take, length-drop}
use Rattle.std.specs.Prelude.{All}
use Rattle.std.specs.List.{concat, AllByRecursion}
use Rattle.std.proofs.lemmas.List.{take-append-drop}
use Rattle.std.proofs.lemmas.List.Elements.{All-from_recursion}
use Rattle.vx_ringlog.specs.Records.{IsWhole, first_blocks}

no_bytes : (bytes : List ℕ) → length bytes ≡ 0 → [] ≡ bytes
no_bytes [] none = refl
no_bytes (b ∷ bytes) none = absurd (omega arith)

whole_each : (n : ℕ) (bytes : List ℕ) → length bytes ≡ 512 * n → AllByRecursion IsWhole (first_blocks n bytes)
whole_each zero bytes size = tt
whole_each (suc n) bytes size = (omega (arith, length-take 512 bytes, size), whole_each n (drop 512 bytes) (omega (arith, length-drop 512 bytes, size)))

pub whole_blocks : (n : ℕ) (bytes : List ℕ) → length bytes ≡ 512 * n → All IsWhole (first_blocks n bytes)
whole_blocks n bytes size = All-from_recursion IsWhole (first_blocks n bytes) (whole_each n bytes size)

pub concat_blocks : (n : ℕ) (bytes : List ℕ) → length bytes ≡ 512 * n → concat (first_blocks n bytes) ≡ bytes
concat_blocks zero bytes size = no_bytes bytes (omega (arith, size))
concat_blocks (suc n) bytes size =
    ap (λ (rest : List ℕ). take 512 bytes ++ rest) (concat_blocks n (drop 512 bytes) (omega (arith, length-drop 512 bytes, size)))
    ∙ take-append-drop 512 bytes
