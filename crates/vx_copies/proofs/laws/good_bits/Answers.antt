-- `good_bits`: its result.
use Rattle.vx_copies.proofs.Goods.{good_bit}
use Rattle.vx_copies.proofs.laws.good_bits.Goals as goal

pub returns : goal.returns
returns c = good_bit
