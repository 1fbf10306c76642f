-- The loop of `all_differ` over `i`: what stays true.
use Rattle.std.proofs.Common.{◌≡◌, drop}
use Rattle.vx_config.specs.Checks.{pairwise, other_than}
use Rattle.vx_config.proofs.group.all_differ.Given as goal

abbrev pub invariant-loop-i : goal.invariant-loop-i
invariant-loop-i l = pairwise other_than (drop l.i l.numbers) ≡ pairwise other_than l.numbers
