-- `new`: the invariant of what it hands on.
use Rattle.std.proofs.Common.{ap, length}
use Rattle.vx_model.proofs.KeptLemmas.{IsBlockList-front}
use Rattle.vx_model.proofs.block_list.Blocks.new.Goals as goal

pub invariant_of-result : goal.invariant_of-result
invariant_of-result c =
    IsBlockList-front _ _ c.requires.some c.requires.whole c.requires.few (ap length c.copy_from_slice.ensures.after)
