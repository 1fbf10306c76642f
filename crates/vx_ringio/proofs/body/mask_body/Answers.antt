-- `mask_body`: clauses blocks and firsts; what stays true in its loop over `k`.
use Rattle.vx_ringio.proofs.Masks.{mask_none, mask_more, masked_blocks, masked_firsts}
use Rattle.vx_ringio.proofs.body.mask_body.Goals as goal

pub loop-k-init : goal.loop-k-init
loop-k-init c = mask_none c.args.bytes.now

pub loop-k-preserved : goal.loop-k-preserved
loop-k-preserved c = mask_more c.loop-k.k c.args.bytes.now c.loop-k.bytes c.loop-k.firsts c.loop-k-test.true c.requires.whole c.requires.few c.loop-k.invariant

pub returns-clause-blocks : goal.returns-clause-blocks
returns-clause-blocks c = masked_blocks c.loop-k.k c.args.bytes.now c.loop-k.bytes c.loop-k.firsts c.loop-k-test.false c.loop-k.auto.k-end c.loop-k.invariant

pub returns-clause-firsts : goal.returns-clause-firsts
returns-clause-firsts c = masked_firsts c.loop-k.k c.args.bytes.now c.loop-k.bytes c.loop-k.firsts c.loop-k-test.false c.loop-k.auto.k-end c.loop-k.invariant
