-- The loop of `write_over` over `done`: what stays true, and what falls.
use Rattle.std.proofs.Common.{◌-◌}
use Rattle.vx_ground.proofs.RewriteLemmas.{RewriteLoop}
use Rattle.vx_ground.proofs.writing_over.write_over.Given as goal

abbrev pub invariant-loop-done : goal.invariant-loop-done
invariant-loop-done g l = RewriteLoop l.unit (g.S.Shelf.meaning l.initial.shelf) (g.S.Shelf.meaning l.shelf) l.done l.blocks

abbrev pub decreases-loop-done : goal.decreases-loop-done
decreases-loop-done g l = l.blocks - l.done
