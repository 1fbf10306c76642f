-- The marks of a run, counted one after another.
use Rattle.std.proofs.Common.{◌+◌, arith}
use Rattle.vx_bitmap.specs.Bits.{is_marked}
use Rattle.vx_dcm.proofs.Tallies.{count_few, count_next}
use Rattle.vx_dcm.proofs.counting.count_run.Goals as goal

pub overflow_add-total : goal.overflow_add-total
overflow_add-total c =
    let now = count_next (λ r. is_marked c.args.map.now.bytes (c.args.base + r)) c.loop-r.r c.loop-r.total c.from-total.result c.test.result c.loop-r.invariant c.test.ensures c.from-total.ensures in
    let few = count_few (λ r. is_marked c.args.map.now.bytes (c.args.base + r)) (c.loop-r.r + 1) in
    omega (arith, now, few, c.loop-r-test.true, c.requires.few)

pub loop-r-preserved : goal.loop-r-preserved
loop-r-preserved c =
    count_next (λ r. is_marked c.args.map.now.bytes (c.args.base + r)) c.loop-r.r c.loop-r.total c.from-total.result c.test.result c.loop-r.invariant c.test.ensures c.from-total.ensures
