-- The entries that were passed are of other blocks.
use Rattle.std.proofs.Common.{◌≡◌, ◌≤◌, ◌+◌, ◌-◌, length, take}
use Rattle.vx_overlay.specs.Pending.{newest}
use Rattle.vx_overlay.proofs.index.find.Given as goal

abbrev pub decreases-loop-at : goal.decreases-loop-at
decreases-loop-at l = l.at

abbrev pub invariant-loop-at : goal.invariant-loop-at
invariant-loop-at l = (l.at ≤ l.base + length l.entries.items) × (newest (take (l.at - l.base) l.entries.items) l.vol l.block ≡ newest l.entries.items l.vol l.block)
