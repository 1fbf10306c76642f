-- The loop of `flush_one` over `disk`: what stays true.
use Rattle.vx_volume.specs.Steps.{FlushedBelow}
use Rattle.vx_groupmaps.proofs.flushing.flush_one.Given as goal

abbrev pub invariant-loop-disk : goal.invariant-loop-disk
invariant-loop-disk g l = FlushedBelow l.config l.vol l.plex l.disk (g.S.Shelf.meaning l.fn.shelf) (g.S.Shelf.meaning l.shelf)
