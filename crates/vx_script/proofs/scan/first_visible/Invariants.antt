-- The loop of `first_visible` over `i`: what stays true.
use Rattle.std.proofs.Common.{◌≡◌, ℕ, ◌<◌, get_or, false}
use Rattle.vx_script.specs.Words.{is_visible}
use Rattle.vx_script.proofs.scan.first_visible.Given as goal

abbrev pub invariant-loop-i : goal.invariant-loop-i
invariant-loop-i l = (k : ℕ) → k < l.i → is_visible (get_or l.bytes k 0) ≡ false
