-- `compared`: what stays true in its loop over `block`.
use Rattle.std.proofs.Common.{arith}
use Rattle.vx_grouped.proofs.KeepingLemmas.{one_more}
use Rattle.vx_grouped.proofs.keeping.compared.Goals as goal

pub loop-block-preserved : goal.loop-block-preserved
loop-block-preserved c =
    one_more c.args.found.now c.args.bytes.now c.loop-block.bits c.loop-block.block c.is_same.result (let few = c.requires.few in let low = c.loop-block-test.true in omega (arith, few, low)) c.is_same.ensures c.loop-block.invariant
