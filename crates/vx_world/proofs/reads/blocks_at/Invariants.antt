-- The loop of `blocks_at` over `k`: what stays true.
use Rattle.std.proofs.Common.{◌≡◌, ◌*◌, length}
use Rattle.vx_model.specs.Content.{blocks_from}
use Rattle.vx_history.specs.Step.{joined_blocks}
use Rattle.vx_sites.specs.Shapes.{content_of}
use Rattle.vx_world.proofs.reads.blocks_at.Given as goal

abbrev pub invariant-loop-k : goal.invariant-loop-k
invariant-loop-k l = (l.bytes.items ≡ joined_blocks (blocks_from (content_of l.content) l.volume l.start l.k)) × (length l.bytes.items ≡ 512 * l.k)
