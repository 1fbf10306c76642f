-- The loop of `fill_maps` over `plex`: what stays true.
use Rattle.vx_groupmaps.proofs.FillLemmas.{Filling}
use Rattle.vx_groupmaps.proofs.filling.fill_maps.Given as goal

abbrev pub invariant-loop-plex : goal.invariant-loop-plex
invariant-loop-plex g l = Filling l.config l.vol l.set l.last l.plex l.initial.logs l.logs (g.S.Shelf.meaning l.initial.shelf) (g.S.Shelf.meaning l.shelf)
