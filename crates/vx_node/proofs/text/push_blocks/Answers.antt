-- `push_blocks`: what stays true in its loop over `k`.
use Rattle.vx_node.proofs.Replies.{block_more}
use Rattle.vx_node.proofs.text.push_blocks.Goals as goal

pub loop-k-preserved : goal.loop-k-preserved
loop-k-preserved c = block_more c.args.bytes.now c.push_block.new.out.items c.loop-k.out.items c.args.out.now.items c.block_at.result.now c.loop-k.k c.loop-k.invariant c.block_at.ensures.shows c.in_ok-push_block.ensures
