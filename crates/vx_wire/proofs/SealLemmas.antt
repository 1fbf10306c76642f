-- Digests and sealed blocks.
use Rattle.std.proofs.Common.{◌≡◌, ◌≤◌, ℕ, ◌-◌, List, length, take, drop, sym, ap, ◌∙◌, arith, ◌++◌, false, Option, Some, None, refl, true}
use Rattle.std.proofs.lemmas.Cmp.{nat_list_eq_equiv}
use Rattle.std.specs.Cmp.Lexicographic.{same_text}
use Rattle.std.specs.Option.{is_some}
use Rattle.std.specs.Prelude.{MatchOption, bytes_eq}
use Rattle.std.proofs.lemmas.List.{length-append, length-replicate, take_at, drop_at, take-append-drop}
use Rattle.sha2.proofs.Facts256.{length-sha256}
use Rattle.vx_wire.specs.declared.sealed.BrokenSeal.{BrokenSeal}
use Rattle.vx_wire.specs.Fields.{zero_bytes}
use Rattle.vx_wire.specs.Seals.{digest_of, filled, sealed, IsSealed, IsBroken}

pub length-digest_of : (bytes : List ℕ) → length (digest_of bytes) ≡ 32
unfolding digest_of
length-digest_of bytes = length-sha256 bytes

pub length-filled : (fields : List ℕ) → length fields ≤ 480 → length (filled fields) ≡ 480
unfolding filled
length-filled fields few = omega (arith, length-append fields (zero_bytes (480 - length fields)), length-replicate {A = ℕ} (480 - length fields) 0)

pub length-sealed : (fields : List ℕ) → length fields ≤ 480 → length (sealed fields) ≡ 512
unfolding sealed
length-sealed fields few = omega (arith, length-append (filled fields) (digest_of (filled fields)), length-filled fields few, length-digest_of (filled fields))

pub take-sealed : (fields : List ℕ) → length fields ≤ 480 → take 480 (sealed fields) ≡ filled fields
unfolding sealed
take-sealed fields few = take_at (filled fields) (digest_of (filled fields)) 480 (length-filled fields few)

pub drop-sealed : (fields : List ℕ) → length fields ≤ 480 → drop 480 (sealed fields) ≡ digest_of (filled fields)
unfolding sealed
drop-sealed fields few = drop_at (filled fields) (digest_of (filled fields)) 480 (length-filled fields few)

pub IsSealed-sealed : (fields : List ℕ) → length fields ≤ 480 → IsSealed (sealed fields)
IsSealed-sealed fields few = drop-sealed fields few ∙ ap digest_of (sym (take-sealed fields few))

-- a block with these fields and a good digest
pub sealed-is : (block fields : List ℕ) → take 480 block ≡ filled fields → IsSealed block → block ≡ sealed fields
unfolding sealed
sealed-is block fields front is =
    sym (take-append-drop 480 block) ∙ ap (λ (t : List ℕ). take 480 block ++ t) is ∙ ap (λ (t : List ℕ). t ++ digest_of t) front

-- no seal is broken exactly where the block is sealed
pub from_sealed : (o : Option BrokenSeal) (block : List ℕ) → MatchOption o (IsSealed block) (λ broken. IsBroken block broken) → IsSealed block → is_some o ≡ false
from_sealed None block told is = refl
from_sealed (Some broken) block told is = absurd (told.differ is)

pub sealed_from : (o : Option BrokenSeal) (block : List ℕ) → MatchOption o (IsSealed block) (λ broken. IsBroken block broken) → is_some o ≡ false → IsSealed block
sealed_from None block told none = told
sealed_from (Some broken) block told none = absurd cc

pub alike : (xs ys : List ℕ) → xs ≡ ys → bytes_eq xs ys ≡ true
alike xs ys e = ap (λ (t : List ℕ). bytes_eq t ys) e ∙ nat_list_eq_equiv.refl ys

pub same_bytes : (xs ys : List ℕ) → bytes_eq xs ys ≡ true → xs ≡ ys
same_bytes xs ys h = same_text xs ys (sym h)
