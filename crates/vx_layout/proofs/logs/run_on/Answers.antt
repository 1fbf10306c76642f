-- `run_on`: its result; what stays true in its loop over `block`.
use Rattle.std.proofs.Common.{arith}
use Rattle.vx_layout.proofs.LogLemmas.{before_end, before_hit, before_more, before_start}
use Rattle.vx_layout.proofs.logs.run_on.Goals as goal

pub loop-block-init : goal.loop-block-init
loop-block-init c = before_start c.args.used.now c.args.disk c.args.end c.args.wanted c.requires

pub returns-then-wanted-gap : goal.returns-then-wanted-gap
returns-then-wanted-gap c = before_hit c.args.used.now c.args.disk c.args.end c.args.wanted c.loop-block.block c.loop-block.longest c.next_gap-gap.result c.requires c.loop-block.invariant c.next_gap-gap.ensures c.if-wanted-gap.true

pub loop-block-preserved : goal.loop-block-preserved
loop-block-preserved c = before_more c.args.used.now c.args.disk c.args.end c.args.wanted c.loop-block.block c.loop-block.longest c.max-longest.result c.next_gap-gap.result c.loop-block.invariant c.next_gap-gap.ensures (omega arith) c.max-longest.ensures

pub returns : goal.returns
returns c = before_end c.args.used.now c.args.disk c.args.end c.args.wanted c.loop-block.block c.loop-block.longest c.loop-block-test.false c.loop-block.invariant
