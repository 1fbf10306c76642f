-- A run of regions, one after another.
use Rattle.std.proofs.Common.{arith, refl}
use Rattle.vx_bitmap.proofs.Marks.{marked_next, marked_end}
use Rattle.vx_bitmap.proofs.run.mark_run.Goals as goal

pub loop-r-preserved : goal.loop-r-preserved
loop-r-preserved c =
    marked_next c.args.block.now c.loop-r.block _ c.args.start c.args.end c.loop-r.r c.args.value c.loop-r.invariant c.requires.last
    (omega (arith, c.loop-r-test.true), omega (arith, c.loop-r-test.true)) (omega arith) c.with_bit.result c.with_bit.ensures (omega arith) refl

pub returns-clause-changed : goal.returns-clause-changed
returns-clause-changed c = marked_end c.args.block.now c.loop-r.block c.args.start c.args.end c.loop-r.r c.args.value c.loop-r.invariant (omega (arith, c.loop-r-test.false))
