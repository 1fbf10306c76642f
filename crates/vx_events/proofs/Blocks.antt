-- Bytes that show blocks of a content are these blocks, one after another.
use Rattle.std.proofs.Common.{◌≡◌, ◌∙◌, ◌+◌, ◌*◌, ◌<◌, ℕ, zero, suc, List, ◌++◌, length, drop, ap, sym, arith, take-append-drop}
use Rattle.std.proofs.lemmas.List.{drop-drop, drop_all}
use Rattle.vx_model.specs.Content.{Content, block_of, blocks_from}
use Rattle.vx_history.specs.Step.{joined_blocks}

-- from block k on
shown_from : (c : Content) (volume start k n : ℕ) (bytes : List ℕ) → length bytes ≡ 512 * (k + n) → ((j : ℕ) → j < k + n → block_of bytes j ≡ c.block volume (start + j))
    → joined_blocks (blocks_from c volume (start + k) n) ≡ drop (512 * k) bytes
shown_from c volume start k zero bytes size shows = sym (drop_all (512 * k) bytes (omega (arith, size)))
shown_from c volume start k (suc n) bytes size shows =
    let next : start + k + 1 ≡ start + (k + 1) = omega arith in
    let many : length bytes ≡ 512 * (k + 1 + n) = omega (arith, size) in
    let more : 512 * k + 512 ≡ 512 * (k + 1) = omega arith in
    let rest : joined_blocks (blocks_from c volume (start + (k + 1)) n) ≡ drop (512 * (k + 1)) bytes =
    shown_from c volume start (k + 1) n bytes many (λ j h. shows j (omega (arith, h))) in
    ap (λ (b : List ℕ). b ++ joined_blocks (blocks_from c volume (start + k + 1) n)) (sym (shows k (omega arith)))
    ∙ ap (λ (m : ℕ). block_of bytes k ++ joined_blocks (blocks_from c volume m n)) next
    ∙ ap (λ (bs : List ℕ). block_of bytes k ++ bs) (rest ∙ ap (λ (m : ℕ). drop m bytes) (sym more) ∙ sym (drop-drop 512 (512 * k) bytes))
    ∙ take-append-drop 512 (drop (512 * k) bytes)

pub shown_are : (c : Content) (volume start count : ℕ) (bytes : List ℕ) → length bytes ≡ 512 * count → ((j : ℕ) → j < count → block_of bytes j ≡ c.block volume (start + j))
    → joined_blocks (blocks_from c volume start count) ≡ bytes
shown_are c volume start count bytes size shows =
    let from : start + 0 ≡ start = omega arith in
    let none : 512 * 0 ≡ 0 = omega arith in
    ap (λ (m : ℕ). joined_blocks (blocks_from c volume m count)) (sym from)
    ∙ shown_from c volume start 0 count bytes (omega (arith, size)) (λ j h. shows j (omega (arith, h)))
    ∙ ap (λ (m : ℕ). drop m bytes) none
