-- The loop of `count_run` over `r`: what stays true.
use Rattle.std.proofs.Common.{◌≡◌, ◌+◌}
use Rattle.vx_bitmap.specs.Bits.{is_marked}
use Rattle.vx_dcm.specs.Counts.{marks_below}
use Rattle.vx_dcm.proofs.counting.count_run.Given as goal

abbrev pub invariant-loop-r : goal.invariant-loop-r
invariant-loop-r l = l.total ≡ marks_below (λ r. is_marked l.map.bytes (l.base + r)) l.r
