-- The loop of `is_waited_for` over `to`: what stays true.
use Rattle.std.proofs.Common.{◌≡◌}
use Rattle.vx_history.specs.Refusals.{some_below, is_waited_for}
use Rattle.vx_sites.specs.Shapes.{world_of}
use Rattle.vx_world.proofs.admission.is_waited_for.Given as goal

abbrev pub invariant-loop-to : goal.invariant-loop-to
invariant-loop-to l = l.found ≡ some_below l.to (λ k. is_waited_for k ((world_of l.world).links l.site k))
