-- The loop of `ready_maps` over `plex`: what stays true.
use Rattle.std.proofs.Common.{◌≡◌}
use Rattle.vx_groupmaps.specs.Missing.{MapsReady}
use Rattle.vx_groupmaps.proofs.ReadyLemmas.{Readying}
use Rattle.vx_groupmaps.proofs.readying.ready_maps.Given as goal

abbrev pub invariant-loop-plex : goal.invariant-loop-plex
invariant-loop-plex g l =
    Readying l.config l.vol l.plex l.initial.logs l.logs (g.S.Shelf.meaning l.initial.shelf) (g.S.Shelf.meaning l.shelf)
    × (MapsReady l.config l.vol l.initial.logs → l.shelf ≡ l.initial.shelf)
