-- The loop of `raw_table` over `k`: what stays true.
use Rattle.std.proofs.Common.{◌≡◌}
use Rattle.std.specs.Prelude.{map}
use Rattle.vx_history.specs.Steps.{raw_volumes}
use Rattle.vx_events.specs.Facts.{volume_fact}
use Rattle.vx_yard.proofs.facts.raw_table.Given as goal

abbrev pub invariant-loop-k : goal.invariant-loop-k
invariant-loop-k l = l.table ≡ map volume_fact (raw_volumes 1 l.k l.blocks)
