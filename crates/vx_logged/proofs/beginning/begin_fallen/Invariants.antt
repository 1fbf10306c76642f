-- The loop of `begin_fallen` over `plex`: what stays true.
use Rattle.vx_logged.proofs.FallenLemmas.{Fallen}
use Rattle.vx_logged.proofs.beginning.begin_fallen.Given as goal

abbrev pub invariant-loop-plex : goal.invariant-loop-plex
invariant-loop-plex g l = Fallen l.core l.vol l.plex l.was l.initial.logs l.logs (g.S.Shelf.meaning l.initial.shelf) (g.S.Shelf.meaning l.shelf)
