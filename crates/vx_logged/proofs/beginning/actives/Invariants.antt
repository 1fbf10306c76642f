-- The loop of `actives` over `plex`: what stays true.
use Rattle.vx_logged.proofs.BeginLemmas.{ActivesTo}
use Rattle.vx_logged.proofs.beginning.actives.Given as goal

abbrev pub invariant-loop-plex : goal.invariant-loop-plex
invariant-loop-plex l = ActivesTo l.config l.vol l.plex l.was
