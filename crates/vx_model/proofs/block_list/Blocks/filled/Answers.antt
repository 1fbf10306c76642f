-- `filled`: the invariant of what it hands on.
use Rattle.std.proofs.Common.{arith, ◌≤◌, ◌*◌, length, take, ◌≡◌, ◌∙◌, replicate, ℕ, List}
use Rattle.std.proofs.lemmas.List.{length-replicate, length-take-le}
use Rattle.vx_model.proofs.KeptLemmas.{IsBlockList-front}
use Rattle.vx_model.proofs.block_list.Blocks.filled.Goals as goal

length-front : (size n : ℕ) → n ≤ size → length (take n (replicate {A = ℕ} size 0)) ≡ n
length-front size n few =
    let all : List ℕ = replicate size 0 in
    let whole : length all ≡ size = length-replicate size 0 in
    length-take-le n all (omega arith)

pub invariant_of-result : goal.invariant_of-result
invariant_of-result c =
    let few : 512 * c.args.count ≤ 8192 = omega arith in
    IsBlockList-front _ _ (omega arith) (omega arith) few (c.fill.ensures.len ∙ length-front 8192 (512 * c.args.count) few)
