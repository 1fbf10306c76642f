-- The loop of `push_names` over `i`: what stays true.
use Rattle.std.proofs.Common.{◌≡◌, ◌++◌, take}
use Rattle.std.specs.List.{join_with_byte}
use Rattle.vx_script.proofs.writer.push_names.Given as goal

abbrev pub invariant-loop-i : goal.invariant-loop-i
invariant-loop-i l = l.out.items ≡ l.initial.out.items ++ join_with_byte 44 (take l.i l.names)
