-- The loop of `read_plex` over `done`: what stays true, and what falls.
use Rattle.std.proofs.Common.{◌-◌, ◌/◌, length}
use Rattle.vx_volume.specs.Steps.{ReadPart}
use Rattle.vx_volume.proofs.reading.read_plex.Given as goal

abbrev pub invariant-loop-done : goal.invariant-loop-done
invariant-loop-done g l = ReadPart l.config l.vol l.plex l.block (length l.into / 512) l.done l.into (g.S.Shelf.meaning l.initial.shelf) (g.S.Shelf.meaning l.shelf)

abbrev pub decreases-loop-done : goal.decreases-loop-done
decreases-loop-done g l = l.total - l.done
