-- The text of blocks.
use Rattle.std.proofs.Common.{◌≡◌, ◌∙◌, ◌+◌, ◌-◌, ◌*◌, ◌≤◌, ℕ, zero, suc, List, ◌++◌, length, take, drop, ap, sym, arith}
use Rattle.std.proofs.lemmas.List.{append_assoc, append-nil, length-take-le, length-drop}
use Rattle.vx_model.specs.Content.{block_of}
use Rattle.vx_report.specs.BlockText.{block_text}
use Rattle.vx_yard.specs.Replies.{blocks_text}

-- one block more
pub blocks_text-more : (bytes : List ℕ) (k n : ℕ) → blocks_text bytes k n ++ block_text (block_of bytes (k + n)) ≡ blocks_text bytes k (suc n)
blocks_text-more bytes k zero =
    let e : k + 0 ≡ k = omega arith in
    ap (λ (j : ℕ). block_text (block_of bytes j)) e ∙ sym (append-nil (block_text (block_of bytes k)))
blocks_text-more bytes k (suc n) =
    let e : k + suc n ≡ (k + 1) + n = omega arith in
    append_assoc (block_text (block_of bytes k)) (blocks_text bytes (k + 1) n) (block_text (block_of bytes (k + suc n)))
    ∙ ap (λ (j : ℕ). block_text (block_of bytes k) ++ (blocks_text bytes (k + 1) n ++ block_text (block_of bytes j))) e
    ∙ ap (λ (xs : List ℕ). block_text (block_of bytes k) ++ xs) (blocks_text-more bytes (k + 1) n)

pub block_more : (bytes new old initial block : List ℕ) (k : ℕ) → old ≡ initial ++ blocks_text bytes 0 k → block ≡ block_of bytes k → new ≡ old ++ block_text block → new ≡ initial ++ blocks_text bytes 0 (k + 1)
block_more bytes new old initial block k was is more =
    let start : k ≡ 0 + k = omega arith in
    let next : suc k ≡ k + 1 = omega arith in
    more ∙ ap (λ (xs : List ℕ). xs ++ block_text block) was
    ∙ append_assoc initial (blocks_text bytes 0 k) (block_text block)
    ∙ ap (λ (b : List ℕ). initial ++ (blocks_text bytes 0 k ++ block_text b)) is
    ∙ ap (λ (j : ℕ). initial ++ (blocks_text bytes 0 k ++ block_text (block_of bytes j))) start
    ∙ ap (λ (xs : List ℕ). initial ++ xs) (blocks_text-more bytes 0 k)
    ∙ ap (λ (j : ℕ). initial ++ blocks_text bytes 0 j) next

pub block_whole : (bytes : List ℕ) (k : ℕ) → 512 * k + 512 ≤ length bytes → length (block_of bytes k) ≡ 512
block_whole bytes k inside = length-take-le 512 (drop (512 * k) bytes) (omega (arith, inside, length-drop (512 * k) bytes))

pub block_taken : (bytes : List ℕ) (k : ℕ) → take (512 * k + 512 - 512 * k) (drop (512 * k) bytes) ≡ block_of bytes k
block_taken bytes k =
    let e : 512 * k + 512 - 512 * k ≡ 512 = omega arith in
    ap (λ (n : ℕ). take n (drop (512 * k) bytes)) e
