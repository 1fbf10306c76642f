-- The loop of `count_links` over `to`: what stays true.
use Rattle.std.proofs.Common.{◌≡◌, ◌≤◌}
use Rattle.vx_history.specs.Sends.{is_linked}
use Rattle.vx_history.specs.Refusals.{how_many_below}
use Rattle.vx_sites.specs.Shapes.{world_of}
use Rattle.vx_sites.proofs.bounds.count_links.Given as goal

abbrev pub invariant-loop-to : goal.invariant-loop-to
invariant-loop-to l = (l.count ≡ how_many_below l.to (λ k. is_linked ((world_of l.world).links l.site k))) × (l.count ≤ l.to)
