-- `block_at`: clauses shows and size.
use Rattle.std.proofs.Common.{◌∙◌, ap, length, ℕ, List}
use Rattle.vx_node.proofs.Replies.{block_taken, block_whole}
use Rattle.vx_node.proofs.text.block_at.Goals as goal

pub returns-clause-shows : goal.returns-clause-shows
returns-clause-shows c = block_taken c.args.bytes.now c.args.k

pub returns-clause-size : goal.returns-clause-size
returns-clause-size c = ap (λ (xs : List ℕ). length xs) (block_taken c.args.bytes.now c.args.k) ∙ block_whole c.args.bytes.now c.args.k c.requires
