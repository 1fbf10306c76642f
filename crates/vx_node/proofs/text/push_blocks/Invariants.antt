-- The loop of `push_blocks` over `k`: what stays true.
use Rattle.std.proofs.Common.{◌≡◌, ◌++◌}
use Rattle.vx_yard.specs.Replies.{blocks_text}
use Rattle.vx_node.proofs.text.push_blocks.Given as goal

abbrev pub invariant-loop-k : goal.invariant-loop-k
invariant-loop-k l = l.out.items ≡ l.initial.out.items ++ blocks_text l.bytes 0 l.k
