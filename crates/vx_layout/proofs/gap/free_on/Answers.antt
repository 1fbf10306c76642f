-- `free_on`: what stays true in its loop over `block`.
use Rattle.vx_layout.proofs.Gaps.{count_more}
use Rattle.vx_layout.proofs.gap.free_on.Goals as goal

pub loop-block-preserved : goal.loop-block-preserved
loop-block-preserved c = count_more c.args.used.now c.args.disk c.args.end c.loop-block.block c.loop-block.free c.next_gap-gap.result c.loop-block.invariant c.next_gap-gap.ensures
