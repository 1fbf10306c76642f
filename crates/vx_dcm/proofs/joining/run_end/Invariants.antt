-- The loop of `run_end` over `region`: what stays true.
use Rattle.std.proofs.Common.{◌≡◌, ◌<◌, ◌≤◌, ℕ, true}
use Rattle.vx_bitmap.specs.Bits.{is_marked}
use Rattle.vx_dcm.proofs.joining.run_end.Given as goal

-- the bytes have all before it
abbrev pub invariant-loop-region : goal.invariant-loop-region
invariant-loop-region l = (q : ℕ) → l.first ≤ q → q < l.region → is_marked l.bytes q ≡ true
