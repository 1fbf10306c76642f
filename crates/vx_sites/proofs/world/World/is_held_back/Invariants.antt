-- The loop of `is_held_back` over `to`: what stays true.
use Rattle.std.proofs.Common.{◌≡◌}
use Rattle.vx_history.specs.Refusals.{some_below, holds_back}
use Rattle.vx_sites.specs.Shapes.{world_of}
use Rattle.vx_sites.proofs.world.World.is_held_back.Given as goal

abbrev pub invariant-loop-to : goal.invariant-loop-to
invariant-loop-to l = l.found ≡ some_below l.to (λ k. holds_back l.number k ((world_of l.self).links l.site k))
