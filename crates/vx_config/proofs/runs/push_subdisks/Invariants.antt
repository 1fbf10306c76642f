-- The loop of `push_subdisks` over `subdisk`: what stays true.
use Rattle.std.proofs.Common.{◌≡◌, ◌++◌, take}
use Rattle.vx_config.proofs.runs.push_subdisks.Given as goal

abbrev pub invariant-loop-subdisk : goal.invariant-loop-subdisk
invariant-loop-subdisk l = l.runs.items ≡ l.fn.runs.items ++ take l.subdisk-index l.subdisks
