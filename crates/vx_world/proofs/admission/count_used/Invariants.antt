-- The loop of `count_used` over `at`: what stays true.
use Rattle.std.proofs.Common.{◌≡◌, length}
use Rattle.vx_sites.specs.Shapes.{node_of}
use Rattle.vx_world.specs.Counted.{AreCounted}
use Rattle.vx_world.proofs.admission.count_used.Given as goal

abbrev pub invariant-loop-at : goal.invariant-loop-at
invariant-loop-at l = AreCounted (node_of l.node).log l.links l.at l.used × (length l.used ≡ 8)
