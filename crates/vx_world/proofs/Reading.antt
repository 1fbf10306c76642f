-- Blocks that are read one after another.
use Rattle.std.proofs.Common.{◌≡◌, ◌∙◌, ℕ, zero, suc, ◌+◌, List, ◌++◌, append_assoc, ap, sym, arith}
use Rattle.std.proofs.lemmas.List.{append-nil}
use Rattle.vx_model.specs.Content.{Content, blocks_from}
use Rattle.vx_history.specs.Step.{joined_blocks}

pub joined_more : (c : Content) (v s k : ℕ) → joined_blocks (blocks_from c v s (suc k)) ≡ joined_blocks (blocks_from c v s k) ++ c.block v (s + k)
joined_more c v s zero =
    let here : s ≡ s + 0 = omega arith in append-nil (c.block v s) ∙ ap (λ (b : ℕ). c.block v b) here
joined_more c v s (suc k) =
    let place : s + 1 + k ≡ s + suc k = omega arith in
    ap (λ (bs : List ℕ). c.block v s ++ bs) (joined_more c v (s + 1) k)
    ∙ sym (append_assoc (c.block v s) (joined_blocks (blocks_from c v (s + 1) k)) (c.block v (s + 1 + k)))
    ∙ ap (λ (b : ℕ). (c.block v s ++ joined_blocks (blocks_from c v (s + 1) k)) ++ c.block v b) place
