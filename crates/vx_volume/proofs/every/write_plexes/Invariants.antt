-- The loop of `write_plexes` over `plex`: what stays true.
use Rattle.std.proofs.Common.{◌/◌, length}
use Rattle.vx_volume.specs.Steps.{WriteLoop}
use Rattle.vx_volume.proofs.every.write_plexes.Given as goal

abbrev pub invariant-loop-plex : goal.invariant-loop-plex
invariant-loop-plex g l = WriteLoop l.config l.vol l.block (length l.bytes / 512) l.bytes l.plex l.failed l.done l.device (g.S.Shelf.meaning l.fn.shelf) (g.S.Shelf.meaning l.shelf)
