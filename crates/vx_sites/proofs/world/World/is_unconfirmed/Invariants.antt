-- The loop of `is_unconfirmed` over `to`: what stays true.
use Rattle.std.proofs.Common.{◌≡◌}
use Rattle.vx_history.specs.Refusals.{some_below, is_unconfirmed}
use Rattle.vx_sites.specs.Shapes.{world_of}
use Rattle.vx_sites.proofs.world.World.is_unconfirmed.Given as goal

abbrev pub invariant-loop-to : goal.invariant-loop-to
invariant-loop-to l = l.found ≡ some_below l.to (λ k. is_unconfirmed l.number k ((world_of l.self).links l.site k))
