-- The loop of `left` over `vol`: what stays true.
use Rattle.std.proofs.Common.{◌≡◌}
use Rattle.vx_dcm.specs.Counts.{left_to}
use Rattle.vx_dcm.proofs.dcm.Dcm.left.Given as goal

abbrev pub invariant-loop-vol : goal.invariant-loop-vol
invariant-loop-vol l = l.total ≡ left_to l.self l.slot l.vol
