-- The loop of `empty_listed` over `plex`: what stays true.
use Rattle.vx_logged.proofs.EmptyLemmas.{Emptied}
use Rattle.vx_logged.proofs.emptying.empty_listed.Given as goal

abbrev pub invariant-loop-plex : goal.invariant-loop-plex
invariant-loop-plex g l = Emptied l.core l.vol l.plex l.was l.initial.logs l.logs (g.S.Shelf.meaning l.initial.shelf) (g.S.Shelf.meaning l.shelf)
