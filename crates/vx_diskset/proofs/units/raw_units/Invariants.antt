-- The loop of `raw_units` over `k`: what stays true.
use Rattle.std.proofs.Common.{◌≡◌, ◌-◌}
use Rattle.vx_events.specs.Facts.{values_from}
use Rattle.vx_diskset.proofs.units.raw_units.Given as goal

abbrev pub invariant-loop-k : goal.invariant-loop-k
invariant-loop-k l = l.vols ≡ values_from (λ j. j) 1 (l.k - 1)
