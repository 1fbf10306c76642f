-- The loop of `run_on` over `block`: what stays true, and what falls.
use Rattle.std.proofs.Common.{◌-◌}
use Rattle.vx_layout.specs.Runs.{LongestBefore}
use Rattle.vx_layout.proofs.logs.run_on.Given as goal

abbrev pub invariant-loop-block : goal.invariant-loop-block
invariant-loop-block l = LongestBefore l.used l.disk l.end l.wanted l.block l.longest

abbrev pub decreases-loop-block : goal.decreases-loop-block
decreases-loop-block l = l.end - l.block
