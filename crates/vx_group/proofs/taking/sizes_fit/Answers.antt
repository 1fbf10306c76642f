-- `sizes_fit`: clause small; what stays true in its loop over `vol`.
use Rattle.std.proofs.Common.{length, ap, arith}
use Rattle.vx_group.proofs.PlanLemmas.{blocks_all, blocks_more}
use Rattle.vx_group.proofs.taking.sizes_fit.Goals as goal

pub loop-vol-preserved : goal.loop-vol-preserved
loop-vol-preserved c = blocks_more c.args.config.now.volumes c.loop-vol.vol c.blocks_of-blocks.result c.blocks_of-blocks.ensures c.blocks_of-blocks.type_inv c.loop-vol.invariant

pub returns-clause-small : goal.returns-clause-small
returns-clause-small c = blocks_all c.args.config.now.volumes c.loop-vol.vol (let count = ap length c.as_slice.ensures.volumes in omega (arith, count, c.loop-vol-test.false)) c.loop-vol.invariant
