-- The loop of `push_bits` over `bit`: what stays true.
use Rattle.std.proofs.Common.{◌≡◌, ◌++◌, take}
use Rattle.std.specs.List.{flat_map}
use Rattle.vx_report.specs.KeptText.{kept_digit}
use Rattle.vx_report.proofs.kept.push_bits.Given as goal

abbrev pub invariant-loop-bit : goal.invariant-loop-bit
invariant-loop-bit l = l.out.items ≡ l.initial.out.items ++ flat_map kept_digit (take l.bit-index l.bits)
