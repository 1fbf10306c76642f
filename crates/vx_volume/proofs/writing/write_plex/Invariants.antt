-- The loop of `write_plex` over `done`: what stays true, and what falls.
use Rattle.std.proofs.Common.{◌-◌, ◌/◌, length}
use Rattle.vx_volume.specs.Steps.{Part}
use Rattle.vx_volume.proofs.writing.write_plex.Given as goal

abbrev pub invariant-loop-done : goal.invariant-loop-done
invariant-loop-done g l = Part l.config l.vol l.plex l.block (length l.bytes / 512) l.done l.bytes (g.S.Shelf.meaning l.initial.shelf) (g.S.Shelf.meaning l.shelf)

abbrev pub decreases-loop-done : goal.decreases-loop-done
decreases-loop-done g l = l.total - l.done
