-- The loop of `fell_any` over `plex`: what stays true.
use Rattle.vx_logged.specs.Holds.{NoneFell}
use Rattle.vx_logged.proofs.missing.fell_any.Given as goal

abbrev pub invariant-loop-plex : goal.invariant-loop-plex
invariant-loop-plex l = NoneFell l.was l.core l.vol l.plex
