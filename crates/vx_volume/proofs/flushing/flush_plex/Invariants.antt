-- The loop of `flush_plex` over `disk`: what stays true.
use Rattle.vx_volume.specs.Steps.{FlushedBelow}
use Rattle.vx_volume.proofs.flushing.flush_plex.Given as goal

abbrev pub invariant-loop-disk : goal.invariant-loop-disk
invariant-loop-disk g l = FlushedBelow l.config l.vol l.plex l.disk (g.S.Shelf.meaning l.fn.shelf) (g.S.Shelf.meaning l.shelf)
