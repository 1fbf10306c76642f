-- `reach`: its result; what `cut-blocks` asks; what stays true in its loop over `run`.
use Rattle.std.proofs.Common.{arith}
use Rattle.vx_layout.proofs.Gaps.{free_item, reach_end, reach_more}
use Rattle.vx_layout.proofs.gap.reach.Goals as goal

pub cut-blocks-requires : goal.cut-blocks-requires
cut-blocks-requires c = free_item c.args.used.now c.args.disk c.args.block c.loop-run.run-index (c.requires.free (omega arith)) c.loop-run-test.true

pub loop-run-preserved : goal.loop-run-preserved
loop-run-preserved c = reach_more c.args.used.now c.args.disk c.args.block c.args.end c.loop-run.run-index c.loop-run.blocks c.cut-blocks.result c.loop-run-test.true (c.requires.free (omega arith)) c.loop-run.invariant c.cut-blocks.ensures

pub returns : goal.returns
returns c = reach_end c.args.used.now c.args.disk c.args.block c.args.end c.loop-run.run-index c.loop-run.blocks c.loop-run-test.false c.loop-run.invariant
