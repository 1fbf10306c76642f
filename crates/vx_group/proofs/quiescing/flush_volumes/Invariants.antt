-- The loop of `flush_volumes` over `vol`: what stays true.
use Rattle.std.proofs.Common.{ℕ, ◌<◌}
use Rattle.vx_group.specs.Finds.{CoreFinds}
use Rattle.vx_group.specs.Loses.{TrustsStill}
use Rattle.vx_group.specs.Quiesces.{Quiesced}
use Rattle.vx_group.specs.Settles.{KeepsAlike}
use Rattle.vx_group.proofs.quiescing.flush_volumes.Given as goal

abbrev pub invariant-loop-vol : goal.invariant-loop-vol
invariant-loop-vol g l =
    Quiesced l.fn.core l.core (λ (v : ℕ). v < l.vol) (g.S.Shelf.meaning l.fn.shelf) (g.S.Shelf.meaning l.shelf) × CoreFinds l.fn.core l.core (g.S.Shelf.meaning l.fn.shelf) (g.S.Shelf.meaning l.shelf)
    × TrustsStill l.fn.core.config l.core.config × KeepsAlike (g.S.Shelf.meaning l.fn.shelf) (g.S.Shelf.meaning l.shelf)
