-- The loop of `differ` over `i`: what stays true.
use Rattle.std.proofs.Common.{◌≡◌, drop}
use Rattle.vx_order.specs.Replicating.{are_distinct}
use Rattle.vx_order.proofs.replicating.differ.Given as goal

abbrev pub invariant-loop-i : goal.invariant-loop-i
invariant-loop-i l = are_distinct (drop l.i l.names) ≡ are_distinct l.names
