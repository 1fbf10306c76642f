-- The loop of `settle_named` over `disk`: what stays true.
use Rattle.std.proofs.Common.{◌≡◌}
use Rattle.vx_group.specs.Settled.{SettledTo}
use Rattle.vx_group.proofs.settling.settle_named.Given as goal

abbrev pub invariant-loop-disk : goal.invariant-loop-disk
invariant-loop-disk g l =
    SettledTo l.fn.core.good l.fn.core.config l.core.config l.disk l.device l.failed (g.S.Shelf.meaning l.fn.shelf) (g.S.Shelf.meaning l.shelf)
    × (l.core ≡ record { config = l.core.config; good = l.fn.core.good; room = l.fn.core.room; unsettled = l.fn.core.unsettled; committed = l.fn.core.committed; agreed = l.fn.core.agreed; next = l.fn.core.next; faults = l.fn.core.faults; unsure = l.fn.core.unsure })
