-- The loop of `zero_blocks` over `done`: what stays true, and what falls.
use Rattle.std.proofs.Common.{◌-◌}
use Rattle.vx_config.specs.Checks.{blocks_of}
use Rattle.vx_group.specs.Makes.{ZeroLoop}
use Rattle.vx_group.proofs.zeroing.zero_blocks.Given as goal

abbrev pub invariant-loop-done : goal.invariant-loop-done
invariant-loop-done g l = ZeroLoop l.config l.vol l.done (blocks_of l.config.volumes l.vol) (g.S.Shelf.meaning l.initial.shelf) (g.S.Shelf.meaning l.shelf)

abbrev pub decreases-loop-done : goal.decreases-loop-done
decreases-loop-done g l = l.blocks - l.done
