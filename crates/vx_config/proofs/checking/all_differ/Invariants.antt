-- The loop of `all_differ` over `i`: what stays true.
use Rattle.std.proofs.Common.{◌≡◌, drop}
use Rattle.vx_config.specs.Checks.{pairwise, differ}
use Rattle.vx_config.proofs.checking.all_differ.Given as goal

abbrev pub invariant-loop-i : goal.invariant-loop-i
invariant-loop-i l = pairwise differ (drop l.i l.volumes) ≡ pairwise differ l.volumes
