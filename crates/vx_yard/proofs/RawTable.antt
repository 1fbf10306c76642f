-- The volumes of a raw set, as the tests of a line see them.
use Rattle.std.proofs.Common.{◌≡◌, ◌∙◌, ◌+◌, ◌<◌, ℕ, zero, suc, List, [], ◌∷◌, ◌++◌, ap, sym, refl, arith}
use Rattle.std.specs.Prelude.{map, codes}
use Rattle.std.specs.Fmt.{decimal}
use Rattle.std.proofs.lemmas.Fmt.{decimal_digit}
use Rattle.vx_history.specs.Steps.{raw_volumes}
use Rattle.vx_history.specs.World.{Volume}
use Rattle.vx_order.specs.declared.facts.VolumeFacts.{VolumeFacts}
use Rattle.vx_yard.specs.Changes.{raw_volume_fact}
use Rattle.vx_events.specs.Facts.{volume_fact}

abbrev volume_named : List ℕ → ℕ → Volume
volume_named name blocks = record { name = name; blocks = blocks }

raw_volumes-push : (j n blocks : ℕ) → raw_volumes j (suc n) blocks ≡ raw_volumes j n blocks ++ volume_named (codes "d" ++ decimal (j + n)) blocks ∷ []
raw_volumes-push j zero blocks = ap (λ (k : ℕ). volume_named (codes "d" ++ decimal k) blocks ∷ []) (let e : j ≡ j + 0 = omega arith in e)
raw_volumes-push j (suc n) blocks =
    let e : (j + 1) + n ≡ j + suc n = omega arith in
    ap (λ vs. volume_named (codes "d" ++ decimal j) blocks ∷ vs)
    (raw_volumes-push (j + 1) n blocks ∙ ap (λ (k : ℕ). raw_volumes (j + 1) n blocks ++ volume_named (codes "d" ++ decimal k) blocks ∷ []) e)

map-push : {A B : Type 0} (f : A → B) (xs : List A) (x : A) → map f (xs ++ x ∷ []) ≡ map f xs ++ f x ∷ []
map-push f [] x = refl
map-push f (y ∷ xs) x = ap (λ ys. f y ∷ ys) (map-push f xs x)

-- numbers up to 8 have one digit
digit : (k : ℕ) → k < 8 → codes "d" ++ decimal (1 + k) ≡ 100 ∷ (49 + k) ∷ []
digit k h =
    let e : 48 + (1 + k) ≡ 49 + k = omega arith in
    ap (λ (ds : List ℕ). codes "d" ++ ds) (decimal_digit (1 + k) (omega arith)) ∙ ap (λ (d : ℕ). 100 ∷ d ∷ []) e

pub raw_table_more : (k blocks : ℕ) (table : List VolumeFacts) → k < 8 → table ≡ map volume_fact (raw_volumes 1 k blocks)
    → table ++ raw_volume_fact k blocks ∷ [] ≡ map volume_fact (raw_volumes 1 (suc k) blocks)
raw_table_more k blocks table small is =
    ap (λ vs. vs ++ raw_volume_fact k blocks ∷ []) is
    ∙ ap (λ (name : List ℕ). map volume_fact (raw_volumes 1 k blocks) ++ volume_fact (volume_named name blocks) ∷ []) (sym (digit k small))
    ∙ sym (map-push volume_fact (raw_volumes 1 k blocks) (volume_named (codes "d" ++ decimal (1 + k)) blocks))
    ∙ ap (map volume_fact) (sym (raw_volumes-push 1 k blocks))
