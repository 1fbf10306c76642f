-- The loop of `all_apart` over `i`: what stays true.
use Rattle.std.proofs.Common.{◌≡◌, drop}
use Rattle.vx_config.specs.Checks.{pairwise, are_apart}
use Rattle.vx_config.proofs.runs.all_apart.Given as goal

abbrev pub invariant-loop-i : goal.invariant-loop-i
invariant-loop-i l = pairwise are_apart (drop l.i l.runs) ≡ pairwise are_apart l.runs
