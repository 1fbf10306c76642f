-- The loop of `free_on` over `block`: what stays true, and what falls.
use Rattle.std.proofs.Common.{◌≡◌, ◌⊎◌, ◌+◌, ◌≤◌, ◌-◌}
use Rattle.vx_layout.specs.Free.{free_in}
use Rattle.vx_layout.proofs.gap.free_on.Given as goal

abbrev pub invariant-loop-block : goal.invariant-loop-block
invariant-loop-block l = (l.free + free_in l.used l.disk l.block (l.end - l.block) ≡ free_in l.used l.disk 512 (l.end - 512)) × (l.free ≤ l.block) × ((l.block ≤ l.end) ⊎ (l.block ≡ 512))

abbrev pub decreases-loop-block : goal.decreases-loop-block
decreases-loop-block l = l.end - l.block
