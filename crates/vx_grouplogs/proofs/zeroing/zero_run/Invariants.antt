-- The loop of `zero_run` over `done`: what stays true.
use Rattle.vx_grouplogs.proofs.ZeroRuns.{ZerosBelow}
use Rattle.vx_grouplogs.proofs.zeroing.zero_run.Given as goal

abbrev pub invariant-loop-done : goal.invariant-loop-done
invariant-loop-done g l = ZerosBelow l.fn.unit l.fn.first l.done l.fn.blocks (g.S.Shelf.meaning l.fn.shelf) (g.S.Shelf.meaning l.shelf)
