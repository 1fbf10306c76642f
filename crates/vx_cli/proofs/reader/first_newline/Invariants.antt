-- The loop of `first_newline` over `i`: what stays true.
use Rattle.std.proofs.Common.{◌≡◌, ℕ, ◌<◌, get_or, false, eqb}
use Rattle.vx_cli.proofs.reader.first_newline.Given as goal

abbrev pub invariant-loop-i : goal.invariant-loop-i
invariant-loop-i l = (k : ℕ) → k < l.i → eqb (get_or l.bytes k 0) 10 ≡ false
