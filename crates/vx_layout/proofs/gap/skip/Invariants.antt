-- The loop of `skip` over `block`: what stays true, and what falls.
use Rattle.std.proofs.Common.{◌≡◌, ℕ, ◌<◌, ◌≤◌, ◌-◌, false}
use Rattle.vx_layout.specs.Free.{is_free}
use Rattle.vx_layout.proofs.gap.skip.Given as goal

abbrev pub invariant-loop-block : goal.invariant-loop-block
invariant-loop-block l = (l.from ≤ l.block) × (l.block ≤ l.end) × ((b : ℕ) → l.from ≤ b → b < l.block → is_free l.used l.disk b ≡ false)

abbrev pub decreases-loop-block : goal.decreases-loop-block
decreases-loop-block l = l.end - l.block
