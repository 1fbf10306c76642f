-- The loop of `blanks` over `k`: what stays true.
use Rattle.std.proofs.Common.{◌≡◌, length}
use Rattle.vx_burst.specs.Setting.{AreBlank}
use Rattle.vx_burst.proofs.rooms.blanks.Given as goal

abbrev pub invariant-loop-k : goal.invariant-loop-k
invariant-loop-k l = (length l.all.items ≡ l.k) × AreBlank l.all.items
