-- The loop of `place_plexes` over `plex`: what stays true.
use Rattle.vx_layout.specs.Steps.{Placing}
use Rattle.vx_layout.proofs.plexes.place_plexes.Given as goal

abbrev pub invariant-loop-plex : goal.invariant-loop-plex
invariant-loop-plex l = Placing l.want l.used l.disks l._plex l.found.items l.plexes.items
