-- The loop of `flush_mapped` over `plex`: what stays true.
use Rattle.vx_groupmaps.specs.Flushing.{MappedLoop}
use Rattle.vx_groupmaps.proofs.flushing.flush_mapped.Given as goal

abbrev pub invariant-loop-plex : goal.invariant-loop-plex
invariant-loop-plex g l = MappedLoop l.config l.vol l.plex l.failed (g.S.Shelf.meaning l.fn.shelf) (g.S.Shelf.meaning l.shelf)
