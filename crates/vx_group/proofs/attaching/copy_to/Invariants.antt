-- The loop of `copy_to` over `source`: what stays true.
use Rattle.std.proofs.Common.{◌≡◌}
use Rattle.std.specs.Option.{option_copied}
use Rattle.vx_group.specs.Attaches.{KnowsMissed, SourcesTried}
use Rattle.vx_group.proofs.attaching.copy_to.Given as goal

abbrev pub invariant-loop-source : goal.invariant-loop-source
invariant-loop-source g l =
    SourcesTried l.fn.core l.vol l.plex (option_copied l.fmr) l.source l.device (g.S.Shelf.meaning l.fn.shelf) (g.S.Shelf.meaning l.shelf) × (l.core ≡ l.fn.core) × KnowsMissed l.fn.core.config l.vol l.plex (option_copied l.fmr) (g.S.Shelf.meaning l.shelf)
