-- The loop of `flush_plexes` over `plex`: what stays true.
use Rattle.vx_volume.specs.Steps.{FlushLoop}
use Rattle.vx_volume.proofs.every.flush_plexes.Given as goal

abbrev pub invariant-loop-plex : goal.invariant-loop-plex
invariant-loop-plex g l = FlushLoop l.config l.vol l.plex l.failed l.done l.device (g.S.Shelf.meaning l.fn.shelf) (g.S.Shelf.meaning l.shelf)
