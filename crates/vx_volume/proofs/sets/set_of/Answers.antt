-- `set_of`: that no number grows too large.
use Rattle.std.proofs.Common.{arith}
use Rattle.vx_volume.proofs.BitLemmas.{set_small}
use Rattle.vx_volume.proofs.sets.set_of.Goals as goal

pub overflow_mul-set : goal.overflow_mul-set
overflow_mul-set c = let small = set_small c.loop-k.k c.loop-k.set c.loop-k-test.true c.loop-k.invariant.1 in omega (arith, small)
