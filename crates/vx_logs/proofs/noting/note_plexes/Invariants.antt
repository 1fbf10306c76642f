-- The loop of `note_plexes` over `plex`: what stays true.
use Rattle.std.proofs.Common.{◌≡◌}
use Rattle.vx_logs.specs.Noting.{IsStill}
use Rattle.vx_logs.proofs.PlexesLemmas.{NotesTo}
use Rattle.vx_logs.proofs.noting.note_plexes.Given as goal

abbrev pub invariant-loop-plex : goal.invariant-loop-plex
invariant-loop-plex g l =
    NotesTo l.plex l.set l.anew l.first l.last l.initial.map l.map (g.S.Shelf.meaning l.initial.shelf) (g.S.Shelf.meaning l.shelf)
    × (IsStill l.set l.anew l.first l.last l.initial.map → l.shelf ≡ l.initial.shelf)
