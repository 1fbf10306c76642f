-- The loop of `miss_first` over `plex`: what stays true.
use Rattle.std.proofs.Common.{◌≤◌}
use Rattle.std.specs.Prelude.{false}
use Rattle.vx_groupmaps.specs.Refusing.{all_plexes}
use Rattle.vx_logs.proofs.PlexesLemmas.{NotesTo}
use Rattle.vx_groupmaps.proofs.refusing.miss_first.Given as goal

abbrev pub invariant-loop-plex : goal.invariant-loop-plex
invariant-loop-plex g l =
    NotesTo l.plex all_plexes false l.first l.last l.initial.map l.map (g.S.Shelf.meaning l.initial.shelf) (g.S.Shelf.meaning l.shelf) × (l.plex ≤ l.plexes)
