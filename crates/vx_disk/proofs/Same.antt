-- Bytes with the same blocks.
use Rattle.std.proofs.Common.{◌≡◌, ◌∙◌, ◌+◌, ◌*◌, ◌++◌, ◌∷◌, ℕ, zero, suc, Bool, true, false, cond, List, [], length, take, drop, ap, sym, refl, arith}
use Rattle.std.proofs.lemmas.List.{take-append-drop, drop-drop, length-drop}
use Rattle.std.proofs.Math.Seq.{take-append_seam}
use Rattle.vx_disk.specs.Blocks.{block_at}

empty : (xs : List ℕ) → length xs ≡ 0 → xs ≡ []
empty [] e = refl
empty (x ∷ xs) e = absurd (omega (arith, e))

next_block : (xs : List ℕ) (b : ℕ) → block_at (drop 512 xs) b ≡ block_at xs (b + 1)
next_block xs b = ap (λ (ys : List ℕ). take 512 ys) (drop-drop (512 * b) 512 xs ∙ ap (λ (n : ℕ). drop n xs) (omega arith))

-- lists of so many whole blocks are equal where each block is
pub same_blocks : (n : ℕ) (xs ys : List ℕ) → length xs ≡ 512 * n → length ys ≡ 512 * n → ((b : ℕ) → block_at xs b ≡ block_at ys b) → xs ≡ ys
same_blocks zero xs ys a b same = empty xs (omega (arith, a)) ∙ sym (empty ys (omega (arith, b)))
same_blocks (suc n) xs ys a b same =
    sym (take-append-drop 512 xs)
    ∙ ap (λ (front : List ℕ). front ++ drop 512 xs) (same 0)
    ∙ ap (λ (rest : List ℕ). take 512 ys ++ rest)
    (same_blocks n (drop 512 xs) (drop 512 ys) (length-drop 512 xs ∙ omega (arith, a)) (length-drop 512 ys ∙ omega (arith, b))
    (λ k. next_block xs k ∙ same (k + 1) ∙ sym (next_block ys k)))
    ∙ take-append-drop 512 ys

-- a block that was kept where it is loose, and is the same elsewhere
pub kept_all : (loose : Bool) (latest stable new : List ℕ) → (loose ≡ false → stable ≡ latest) → new ≡ cond loose latest stable → new ≡ latest
kept_all true latest stable new clean is = is
kept_all false latest stable new clean is = is ∙ clean refl

-- a whole list that was written over another
pub seam : (n : ℕ) (xs rest : List ℕ) → length xs ≡ n → take n (xs ++ rest) ≡ xs
seam n xs rest many = ap (λ (k : ℕ). take k (xs ++ rest)) (sym many) ∙ take-append_seam xs rest
