-- The loop of `find_source` over `plex`: what stays true.
use Rattle.vx_resync.proofs.PickLemmas.{NoneGives}
use Rattle.vx_resync.proofs.sources.find_source.Given as goal

abbrev pub invariant-loop-plex : goal.invariant-loop-plex
invariant-loop-plex l = NoneGives l.config l.vol l.to l.plex
